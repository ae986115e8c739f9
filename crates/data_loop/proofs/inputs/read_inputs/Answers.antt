use Rattle.std.proofs.Common.{◌≡◌, ◌∙◌, ℤ, ◌+◌, false, List, [], ◌∷◌, ◌++◌, take, fold, length, get_or, refl, sym, ap, ap₂, subst, arith}
use Rattle.std.specs.Prelude.{All}
use Rattle.std.proofs.lemmas.List.{get_or-map, length-map, take_more}
use Rattle.pw_lists.specs.Samples.{summed}
use Rattle.s16_mixer.specs.Ranges.{IsWithin}
use Rattle.board_rule.specs.declared.view.View.{View}
use Rattle.board_rule.specs.Layout.{BoardLayout, layout_of}
use Rattle.io_areas.specs.InputTurn.{MayReadInput, HasReadInput}
use Rattle.data_loop.proofs.turns.ReadingInputsLemmas.{may_read, one_more}
use Rattle.data_loop.specs.declared.inputs.Input.{Input}
use Rattle.data_loop.specs.working.Inputs.{links_of, row_of, first_rows, second_rows}
use Rattle.data_loop.proofs.SumLemmas.{room_left, within_on, fold_more, row_same, first_on, first_off, second_on, second_off}
use Rattle.data_loop.proofs.inputs.read_inputs.Goals as goal
use Rattle.data_loop.proofs.inputs.read_inputs.Goals.{then-inputs-k, else-inputs-k}

pub read_input-requires-clause-phase : goal.read_input-requires-clause-phase
read_input-requires-clause-phase g c = let inputs = c.args.inputs.now in let k = c.loop-k.k in let low = c.loop-k-test.true in
    let none : Input = record { link = 0; second = false } in
    let long = length-map inputs (λ (i : Input). i.link) in
    let is = get_or-map (λ (i : Input). i.link) inputs k none 0 low in
    subst (MayReadInput g.S.BoardSeat.is_driver (layout_of c.args.board.now.board_shape) (g.S.BoardSeat.knows c.loop-k.seat)) is
    (may_read _ _ _ (links_of inputs) c.requires.phase k _ (omega (arith, long, low)) c.loop-k.invariant.read)

pub read_input-requires-clause-long : goal.read_input-requires-clause-long
read_input-requires-clause-long g c = c.loop-k.invariant.row ∙ c.requires.long c.loop-k.k _ c.loop-k-test.true

pub mix_into-requires-clause-room : goal.mix_into-requires-clause-room
mix_into-requires-clause-room g c = let low = c.loop-k-test.true in let few = c.requires.few in
    room_left c.loop-k.k c.loop-k.b (omega (arith, low, few)) c.loop-k.invariant.within_b

pub mix_into-requires-else-inputs-k-clause-room : goal.mix_into-requires-else-inputs-k-clause-room
mix_into-requires-else-inputs-k-clause-room g c = let low = c.loop-k-test.true in let few = c.requires.few in
    room_left c.loop-k.k c.loop-k.a (omega (arith, low, few)) c.loop-k.invariant.within_a

pub loop-k-preserved : goal.loop-k-preserved
loop-k-preserved g c = let inputs = c.args.inputs.now in let k = c.loop-k.k in let low = c.loop-k-test.true in let i = c.loop-k.invariant in
    let b = g.S.BoardSeat.is_driver in let p : BoardLayout = layout_of c.args.board.now.board_shape in
    let v : View = g.S.BoardSeat.knows c.args.seat.now in
    let w : View = g.S.BoardSeat.knows c.loop-k.seat in let u : View = g.S.BoardSeat.knows c.read_input.new.seat in
    let none : Input = record { link = 0; second = false } in
    let x : Input = get_or inputs k none in
    let long = length-map inputs (λ (i : Input). i.link) in
    let is : get_or (links_of inputs) k 0 ≡ x.link = get_or-map (λ (i : Input). i.link) inputs k none 0 low in
    let row : c.read_input.new.to ≡ row_of b p v x.link = c.read_input.ensures.samples
    ∙ ap (λ (y : View). row_of b p y x.link) i.read.same
    ∙ row_same b p v w.reads w.words_read x.link in
    let on : take (k + 1) inputs ≡ take k inputs ++ x ∷ [] = take_more inputs k none low in
    let sums : (length c.if-inputs-k.a ≡ length c.args.a.now) × (length c.if-inputs-k.b ≡ length c.args.b.now)
    × All (IsWithin (k + 1)) c.if-inputs-k.a × All (IsWithin (k + 1)) c.if-inputs-k.b
    × (c.if-inputs-k.a ≡ fold summed c.args.a.now (first_rows b p v (take (k + 1) inputs)))
    × (c.if-inputs-k.b ≡ fold summed c.args.b.now (second_rows b p v (take (k + 1) inputs))) = elim c.if-inputs-k.branch [
      | then-inputs-k w ↦ (let e = w.mix_into.ensures in (
        ap (λ (l : List ℤ). length l) w.a-is ∙ i.long_a,
        ap (λ (l : List ℤ). length l) w.b-is ∙ w.mix_into.auto.sum ∙ i.long_b,
        subst (All (IsWithin (k + 1))) (sym w.a-is) (within_on k c.loop-k.a i.within_a),
        subst (All (IsWithin (k + 1))) (sym w.b-is) (e.within k i.within_b),
        w.a-is ∙ i.sum_a ∙ ap (fold summed c.args.a.now) (sym (first_off b p v (take k inputs) x w.if-inputs-k.true))
            ∙ ap (λ (l : List Input). fold summed c.args.a.now (first_rows b p v l)) (sym on),
        w.b-is ∙ e.sum ∙ ap₂ summed i.sum_b row ∙ sym (fold_more c.args.b.now (second_rows b p v (take k inputs)) (row_of b p v x.link))
            ∙ ap (fold summed c.args.b.now) (sym (second_on b p v (take k inputs) x w.if-inputs-k.true))
            ∙ ap (λ (l : List Input). fold summed c.args.b.now (second_rows b p v l)) (sym on),
      ))
      | else-inputs-k w ↦ (let e = w.mix_into-else-inputs-k.ensures in (
        ap (λ (l : List ℤ). length l) w.a-is ∙ w.mix_into-else-inputs-k.auto.sum ∙ i.long_a,
        ap (λ (l : List ℤ). length l) w.b-is ∙ i.long_b,
        subst (All (IsWithin (k + 1))) (sym w.a-is) (e.within k i.within_a),
        subst (All (IsWithin (k + 1))) (sym w.b-is) (within_on k c.loop-k.b i.within_b),
        w.a-is ∙ e.sum ∙ ap₂ summed i.sum_a row ∙ sym (fold_more c.args.a.now (first_rows b p v (take k inputs)) (row_of b p v x.link))
            ∙ ap (fold summed c.args.a.now) (sym (first_on b p v (take k inputs) x w.if-inputs-k.false))
            ∙ ap (λ (l : List Input). fold summed c.args.a.now (first_rows b p v l)) (sym on),
        w.b-is ∙ i.sum_b ∙ ap (fold summed c.args.b.now) (sym (second_off b p v (take k inputs) x w.if-inputs-k.false))
            ∙ ap (λ (l : List Input). fold summed c.args.b.now (second_rows b p v l)) (sym on),
      ))
    ] in
    record {
      end = refl;
      table = c.read_input.ensures.table ∙ i.table;
      read = one_more b p v (links_of inputs) c.requires.phase k w (omega (arith, long, low)) i.read u
          (subst (λ l. HasReadInput b p w l u) (sym is) c.read_input.ensures.knows);
      row = c.read_input.auto.to ∙ i.row;
      long_a = sums.0;
      long_b = sums.1;
      within_a = sums.2;
      within_b = sums.3;
      sum_a = sums.4;
      sum_b = sums.5;
    }
