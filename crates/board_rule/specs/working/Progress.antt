-- What the seat of a loop keeps of a follower to step by, read off its view.
-- Source: this project's own; the phases are those of src/view.rt.
use Rattle.std.specs.Prelude.{ℕ, ◌+◌, Bool, true, false, cond, eqb}
use Rattle.board_rule.specs.declared.view.Phase.{Phase}
use Rattle.board_rule.specs.declared.view.Phase.TheVariants.{Idle, Awake, StartDrawn, Running, Done, FinishDrawn, Telling}
use Rattle.board_rule.specs.declared.view.NodeView.{NodeView}
use Rattle.board_rule.specs.declared.progress.NodeProgress.{NodeProgress}
use Rattle.board_rule.specs.activation.TellingSteps.{lowered_of}

-- FINISHED is stored in the follower's cycle
abbrev pub ends_of : Phase → Bool
ends_of Idle = false
ends_of Awake = false
ends_of StartDrawn = false
ends_of Running = false
ends_of Done = true
ends_of FinishDrawn = true
ends_of (Telling i owes) = true

abbrev pub progress_of : NodeView → NodeProgress
progress_of x = record {
  next = x.next;
  told = lowered_of x.phase;
  ends = ends_of x.phase;
  start = x.start;
  finish = x.finish;
}

-- the first i of n targets are lowered; after the last without a debt the cycle is over for the
-- node
abbrev pub progress_settled : ℕ → NodeProgress → ℕ → Bool → NodeProgress
progress_settled n x i owes = cond owes (record x { told = i; ends = true })
    (cond (eqb i n) (record x { next = x.next + 1; told = 0; ends = false })
    (record x { told = i; ends = true }))
