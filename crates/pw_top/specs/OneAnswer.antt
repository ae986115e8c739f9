-- Two answers of one command line, by whatever happened in two calls: the same but for event lines.
-- Source: this project's own.
use Rattle.std.specs.Prelude.{◌≡◌, ◌⊎◌, ℕ, Bool, true, false, List, Some, Result, Ok, Err}
use Rattle.pw_graph.specs.declared.event.Event.{Event}
use Rattle.pw_graph.specs.declared.plan.Plan.{Plan}
use Rattle.pw_outside.specs.Files.{Names}
use Rattle.wav_files.specs.declared.outcome.Outcome.{Outcome}
use Rattle.cycle_trace.specs.RunText.{run_text_of}
use Rattle.run_results.specs.declared.status.Status.TheVariants as S
use Rattle.command_frame.specs.declared.work.Work.{Work}
use Rattle.command_frame.specs.Words.{Words}
use Rattle.pw_top.specs.declared.usage.CommandLine.{CommandLine}
use Rattle.pw_top.specs.declared.usage.CommandLine.TheVariants as C
use Rattle.pw_top.specs.Answer.{Answer}
use Rattle.pw_top.specs.CommandLine.{IsAnswer}
use Rattle.pw_top.specs.Playing.{Happened}
use Rattle.pw_top.specs.Usage.{command_of}

-- event lines are wanted
abbrev pub is_traced : Result CommandLine ℕ → Bool
is_traced (Ok (C.Run c)) = c.trace
is_traced other = false

-- the same stores, and texts of the same run but for its events
pub record DifferInEvents (v w : Work) : Type 0 where
  pub stores : v.stores ≡ w.stores
  pub plan : Plan
  pub outcome : Outcome
  pub events : List Event
  pub others : List Event
  pub text : v.text ≡ run_text_of plan (Some events) outcome
  pub other : w.text ≡ run_text_of plan (Some others) outcome

-- ALIKE: the same; or, where event lines are wanted, after the same loads two works that differ in
-- only event lines
abbrev pub AreAlike : Bool → Answer → Answer → Type 0
AreAlike false a b = a ≡ b
AreAlike true a b = (a ≡ b) ⊎ ((a.loads ≡ b.loads) × (v : Work) × (w : Work)
    × (a.outcome ≡ Ok v) × (b.outcome ≡ Ok w) × DifferInEvents v w)

-- THE ORDER SHOWS ONLY IN EVENTS: whatever happened in two calls with these words on the same
-- files, their answers, where memory was not short, are alike
abbrev pub OrderShowsInEventsAlone : Words → Type 0
OrderShowsInEventsAlone words = (names : Names) (h k : Happened) (a b : Answer)
    → IsAnswer words h names a → IsAnswer words k names b
    → ¬ (a.outcome ≡ Err S.Memory) → ¬ (b.outcome ≡ Err S.Memory)
    → AreAlike (is_traced (command_of words)) a b
