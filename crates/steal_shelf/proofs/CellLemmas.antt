-- The bridge between what the shelf allows for a cell and the boards of a run.
use Rattle.std.proofs.Common.{◌≡◌, ℕ, zero, suc, ◌+◌, ◌<◌, ◌≤◌, List, [], ◌∷◌, length, refl, sym, ap, ◌∙◌, subst, arith, ⊎_elim, inl, inr}
use Rattle.std.proofs.Common.{Some, slice_get}
use Rattle.std.proofs.lemmas.Option.{slice_get_within}
use Rattle.pw_graph.specs.declared.plan.Epoch.{Epoch}
use Rattle.pw_graph.specs.PlanFresh.{IsEpoch}
use Rattle.board_rule.specs.declared.board.Board.{Board}
use Rattle.board_rule.specs.Layout.{layout_of}
use Rattle.board_rule.specs.OnBoard.{layout, table_of}
use Rattle.node_progress.specs.declared.run_model.RunModel.{RunModel}
use Rattle.data_loop.specs.declared.loop_state.LoopState.{LoopState}
use Rattle.data_loop.specs.Loops.{plan_of, IsLoop, IsBetweenEpochs}
use Rattle.data_loop.specs.LoopsOnBoards.{IsFirstSeat}
use Rattle.data_loop.specs.LoopKept.{IsDone}
use Rattle.data_loop.specs.LoopWay.{HasBoards, IsAmid, IsUnderWay, IsSameLoop}
use Rattle.data_loop.proofs.RunningLemmas.{done}
use Rattle.steal_shelf.specs.Cells.{IsCellBetween, IsCellOnBoard, IsCell}
use Rattle.steal_shelf.specs.working.CellSteps.{HasStepped}
use Rattle.steal_shelf.proofs.BoardLemmas.{rebound}

there : {X : Type 0} (xs : List X) (k : ℕ) → k < length xs → (x : X) × (slice_get xs k ≡ Some x)
there [] k low = absurd (omega (arith, low))
there (x ∷ xs) zero low = (x, refl)
there (x ∷ xs) (suc k) low = there xs k (omega (arith, low))

-- a cell as it is given
pub new_cell : (c : LoopState) → IsBetweenEpochs c → IsCell c c
new_cell c b = record { run_model = refl; nodes = refl; stands = inl (record { between = b; from = λ j past. refl }) }

module _ (boards : List Board) (c s : LoopState) (loop : IsLoop c) (has : HasBoards 0 boards c) (run_model : s.run_model ≡ c.run_model) (nodes : s.nodes ≡ c.nodes) where
  -- the boards from epoch k on, where it has the seats of the cell
  boards_from : (k : ℕ) → ((j : ℕ) → k ≤ j → slice_get s.epoch_states.items j ≡ slice_get c.epoch_states.items j) → HasBoards k boards s
  boards_from k from = record {
    count = has.count ∙ ap (λ (x : RunModel). length x.plan.value.epochs) (sym run_model);
    shape = λ j e b is here. has.shape j e b (ap (λ (x : RunModel). slice_get x.plan.value.epochs j) (sym run_model) ∙ is) here;
    seat = λ j b g past here have. subst
        (λ (x : RunModel × List ℕ). IsFirstSeat x.0.plan.value x.0.waves.value j x.1 (layout b) (table_of b) g.seat)
        (λ i. (sym run_model i, sym nodes i))
        (has.seat j b g (omega arith) here (sym (from j past) ∙ have));
  }

  amid_again : IsCellOnBoard c s → IsAmid boards s
  amid_again y = let e : Epoch = y.on.stands.epoch in
      let at : IsEpoch (plan_of c) s.epoch e = ap (λ (x : RunModel). slice_get x.plan.value.epochs s.epoch) (sym run_model) ∙ y.on.stands.at in
      let low = slice_get_within (plan_of c).epochs s.epoch e at in let count = has.count in let epoch_states = loop.epoch_states in
      let b = there boards s.epoch (omega (arith, low, count)) in
      let g = there c.epoch_states.items s.epoch (omega (arith, low, epoch_states)) in
      record {
        board = b.0;
        here = b.1;
        on = rebound s y.board b.0.board_shape y.table (table_of b.0) g.0.seat
            (has.shape s.epoch e b.0 at b.1 ∙ sym (y.shape e at))
            (subst (λ (x : RunModel × List ℕ). IsFirstSeat x.0.plan.value x.0.waves.value s.epoch x.1 (layout_of y.board) y.table g.0.seat)
            (λ i. (sym run_model i, sym nodes i)) (y.seat g.0 g.1))
            (subst (λ (x : RunModel × List ℕ). IsFirstSeat x.0.plan.value x.0.waves.value s.epoch x.1 (layout b.0) (table_of b.0) g.0.seat)
            (λ i. (sym run_model i, sym nodes i)) (has.seat s.epoch b.0 g.0 (omega arith) b.1 g.1))
            y.on;
        boards_are = boards_from (suc s.epoch) (λ j past. y.later j (omega (arith, past)));
      }

-- OUT OF THE SHELF: on the boards of the run it is under way
pub under_way : (boards : List Board) (c s : LoopState) → IsLoop c → HasBoards 0 boards c → IsCell c s → IsUnderWay boards s
under_way boards c s loop has h = ⊎_elim
    (λ (x : IsCellBetween c s). inl (x.between, boards_from boards c s loop has h.run_model h.nodes s.epoch x.from))
    (λ (y : IsCellOnBoard c s). inr (amid_again boards c s loop has h.run_model h.nodes y))
    h.stands

later_of : (c s : LoopState) → IsCell c s → (j : ℕ) → s.epoch < j → slice_get s.epoch_states.items j ≡ slice_get c.epoch_states.items j
later_of c s h j past = ⊎_elim
    (λ (x : IsCellBetween c s). x.from j (omega (arith, past)))
    (λ (y : IsCellOnBoard c s). y.later j past)
    h.stands

-- INTO THE SHELF: after a step on these boards the shelf allows it
pub stepped_cell : (boards : List Board) (c s t : LoopState) → HasBoards 0 boards c → IsCell c s → HasStepped boards s t → IsCell c t
stepped_cell boards c s t has h step = let run_model = step.run_model ∙ h.run_model in let nodes = step.nodes ∙ h.nodes in record {
  run_model = run_model;
  nodes = nodes;
  stands = ⊎_elim
      (λ (x : (t.epoch ≡ s.epoch) × IsAmid boards t). let same = x.0 in let y = x.1 in inr (record {
        board = y.board.board_shape;
        table = table_of y.board;
        shape = λ e at. has.shape t.epoch e y.board at y.here;
        seat = λ g at. has.seat t.epoch y.board g (omega arith) y.here at;
        on = y.on;
        later = λ j past. step.epoch_states j (omega (arith, past, same)) ∙ later_of c s h j (omega (arith, past, same));
      }))
      (λ (next : (t.epoch ≡ s.epoch + 1) × IsBetweenEpochs t). inl (record {
        between = next.1;
        from = λ j past. let e = next.0 in step.epoch_states j (omega (arith, past, e)) ∙ later_of c s h j (omega (arith, past, e));
      }))
      step.went;
}

-- AT ITS END
pub finished : (boards : List Board) (c s : LoopState) → IsLoop c → HasBoards 0 boards c → IsCell c s → s.epoch ≡ length (plan_of s).epochs
    → IsDone s × IsSameLoop c s
finished boards c s loop has h end = (done boards s (under_way boards c s loop has h) end, record { run_model = h.run_model; nodes = h.nodes })
