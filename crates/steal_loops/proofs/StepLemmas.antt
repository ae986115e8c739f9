-- A cell after one step of it.
use Rattle.std.proofs.Common.{◌≡◌, ℕ, ◌+◌, List, length, sym, ap, ◌∙◌, subst, arith, inl, inr}
use Rattle.std.proofs.Common.{slice_get, Some}
use Rattle.board_rule.specs.declared.board.Board.{Board}
use Rattle.board_rule.specs.OnBoard.{layout, table_of}
use Rattle.node_progress.specs.declared.run_model.RunModel.{RunModel}
use Rattle.data_loop.specs.declared.loop_state.LoopState.{LoopState}
use Rattle.data_loop.specs.declared.epoch_state.EpochState.{EpochState}
use Rattle.data_loop.specs.Loops.{IsBetweenEpochs}
use Rattle.data_loop.specs.LoopsOnBoards.{IsOnBoard, IsSameBut, IsNextOf, IsFirstSeat}
use Rattle.data_loop.specs.LoopWay.{IsAmid}
use Rattle.steal_shelf.specs.working.CellSteps.{HasStepped}
use Rattle.steal_loops.specs.declared.cell_steps.Step.{Step}
use Rattle.steal_loops.specs.declared.cell_steps.Step.TheVariants.{Ran, Early, Passed}
use Rattle.steal_loops.specs.working.Steps.{HasTurnedSo, HasMade}

-- a turn on the board of the epoch is a step
pub made_step : (boards : List Board) (b : Board) (s u : LoopState) (did : Step) → slice_get boards s.epoch ≡ Some b
    → HasTurnedSo (layout b) did s u → HasMade boards did s u
made_step boards b s u Ran here is = (b, here, is)
made_step boards b s u Early here is = (b, here, is)
made_step boards b s u Passed here is = absurd is

module _ (boards : List Board) (s u : LoopState) (a : IsAmid boards s) (same : IsSameBut s u) where
  amid_on : IsOnBoard (layout a.board) (table_of a.board) u → IsAmid boards u
  amid_on on = let has = a.boards_are in let at = same.epoch in record {
    board = a.board;
    here = ap (slice_get boards) at ∙ a.here;
    on = on;
    boards_are = record {
      count = has.count ∙ ap (λ (x : RunModel). length x.plan.value.epochs) (sym same.run_model);
      shape = λ j e b is here. has.shape j e b (ap (λ (x : RunModel). slice_get x.plan.value.epochs j) (sym same.run_model) ∙ is) here;
      seat = λ j b g past here have. subst
          (λ (x : RunModel × List ℕ). IsFirstSeat x.0.plan.value x.0.waves.value j x.1 (layout b) (table_of b) g.seat)
          (λ i. (sym same.run_model i, sym same.nodes i))
          (has.seat j b g (omega (arith, past, at)) here (sym (same.epoch_states j (λ e. omega (arith, e, past, at))) ∙ have));
    };
  }

  pub turned_step : IsOnBoard (layout a.board) (table_of a.board) u → HasStepped boards s u
  turned_step on = record {
    run_model = same.run_model;
    nodes = same.nodes;
    epoch_states = λ j past. same.epoch_states j (λ e. omega (arith, e, past));
    went = inl (same.epoch, amid_on on);
  }

  pub next_step : (w : LoopState) → IsNextOf u w → w.epoch ≡ u.epoch + 1 → IsBetweenEpochs w → HasStepped boards s w
  next_step w next at between = record {
    run_model = next.run_model ∙ same.run_model;
    nodes = next.nodes ∙ same.nodes;
    epoch_states = λ j past. ap (λ (l : List EpochState). slice_get l j) next.epoch_states ∙ same.epoch_states j (λ e. omega (arith, e, past));
    went = inr (at ∙ ap (λ n. n + 1) same.epoch, between);
  }
