-- A loop of a run before it and after it.
use Rattle.std.proofs.Common.{◌≡◌, List, ap, ◌∙◌, inl}
use Rattle.board_rule.specs.declared.board.Board.{Board}
use Rattle.node_progress.specs.declared.run_model.RunModel.{RunModel}
use Rattle.data_loop.specs.declared.loop_state.LoopState.{LoopState}
use Rattle.data_loop.specs.Loops.{plan_of}
use Rattle.data_loop.specs.LoopWay.{IsUnderWay}
use Rattle.graph_run.specs.declared.shared.Shared.{Shared}
use Rattle.graph_run.specs.LoopsOnPlan.{IsReady}
use Rattle.graph_run.specs.Threads.{HasRun, IsDoneWith}

-- before the run a loop is between two epochs
pub under_way : (boards : List Board) (s : LoopState) → IsReady boards s → IsUnderWay boards s
under_way boards s h = inl (
  h.between,
  record {
    count = h.boards_are.count;
    shape = h.boards_are.shape;
    seat = λ j b g past here at. h.boards_are.seat j b g here at;
  },
)

-- after it the loop is one of the run's plan
pub done_with : (shared : Shared) (s t : LoopState) → plan_of s ≡ shared.run_model.plan.value → s.run_model.waves.value ≡ shared.run_model.waves.value
    → HasRun s t → IsDoneWith shared t
done_with shared s t plan_is waves_are h = record {
  done = h.done;
  plan_is = ap (λ (x : RunModel). x.plan.value) h.same.run_model ∙ plan_is;
  waves_are = ap (λ (x : RunModel). x.waves.value) h.same.run_model ∙ waves_are;
}
