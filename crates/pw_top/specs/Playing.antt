-- What happened in a call: the run that it made, if it made one, and what the answer and the status
-- report of it.
-- Source: PipeWire's documentation, "Graph Scheduling"; boards are this project's own.
use Rattle.std.specs.Prelude.{◌≡◌, ◌⊎◌, ℕ, List, [], Result, Ok, Err, IsSome}
use Rattle.pw_graph.specs.declared.event.Event.{Event}
use Rattle.pw_graph.specs.declared.plan.Plan.{Plan}
use Rattle.pw_outside.specs.Files.{Names, Held, names_in}
use Rattle.wav_files.specs.declared.wav.WavIn.{WavIn}
use Rattle.board_rule.specs.declared.closed.Closed.{Closed}
use Rattle.graph_run.specs.PlanRun.{IsRunOf}
use Rattle.command_frame.specs.declared.work.Work.{Work}
use Rattle.command_frame.specs.Ending.{IsEndOf}
use Rattle.pw_top.specs.declared.played.Played.{Played}
use Rattle.pw_top.specs.declared.playing.Crew.{Crew}
use Rattle.run_results.specs.declared.status.Status.{Status}
use Rattle.run_results.specs.declared.status.Status.TheVariants as S
use Rattle.run_results.specs.Statuses.{statuses}
use Rattle.pw_top.specs.Answer.{Answer, status_of}
use Rattle.pw_top.specs.Crews.{seat_in, seats_beside}

-- the events and the closed boards that are reported, and the ticker's counts before and after
pub record Happened : Type 0 where
  pub history : List Event
  pub closed : List Closed
  pub before : ℕ
  pub now : ℕ

abbrev pub happened : Played → ℕ → ℕ → Happened
happened played before now = record {
  history = played.history;
  closed = played.closed;
  before = before;
  now = now;
}

-- nothing was run
abbrev pub IsNothing : Happened → Type 0
IsNothing h = (h.history ≡ []) × (h.closed ≡ [])

abbrev pub HasNothing : Played → Type 0
HasNothing played = (played.history ≡ []) × (played.closed ≡ [])

-- A RUN was made, of this plan on these waves by a crew: each node was on its seat
abbrev pub HasRun : Plan → List WavIn → Crew → Happened → Type 0
HasRun plan waves crew h = IsRunOf plan waves (seat_in plan crew) (seats_beside plan crew)
    h.history h.closed h.before h.now

-- of a command that runs nothing, an answer
abbrev pub Idly : (Answer → Type 0) → Happened → Answer → Type 0
Idly P h a = IsNothing h × P a

-- BY THE STATUS: where the command was accepted, its answer says what was run. A refusal has run
-- nothing. Where memory was short, nothing was run, or the answer, but for memory, is Ok
abbrev pub PlayFollows : Result Work Status → Happened → Status → Type 0
PlayFollows outcome h S.Ok = status_of outcome ≡ S.Ok
PlayFollows outcome h (S.WriteFault place) = status_of outcome ≡ S.Ok
PlayFollows outcome h S.Memory = IsNothing h ⊎ (status_of outcome ≡ S.Ok)
PlayFollows outcome h status = IsNothing h

-- the same before the stores
abbrev pub PlayEnds : Result Work Status → Happened → Result Work Status → Type 0
PlayEnds outcome h (Ok work) = Unit {0}
PlayEnds outcome h (Err S.Memory) = IsNothing h ⊎ (status_of outcome ≡ S.Ok)
PlayEnds outcome h (Err status) = IsNothing h

-- THE RESULT of a command is the end of an answer that is allowed, which says what happened
pub record Plays (P : Answer → Type 0) (h : Happened) (r : Result Work Status) : Type 0 where
  pub answer : Answer
  pub allowed : P answer
  pub ends : IsEndOf statuses answer r
  pub played : PlayEnds answer.outcome h r

-- where the files report what they hold
abbrev pub TellsPlay : Held → (Names → Answer → Type 0) → Happened → Result Work Status
    → Type 0
TellsPlay held P h result = IsSome held → Plays (P (names_in held)) h result
