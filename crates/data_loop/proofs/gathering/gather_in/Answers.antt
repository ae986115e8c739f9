use Rattle.std.proofs.Common.{◌≡◌, ◌≤◌, ℕ, ℤ, pos, ◌∙◌, List, [], ◌∷◌, sym, ap, map, fold, length, take, replicate, subst, arith}
use Rattle.std.specs.Prelude.{All, Some}
use Rattle.std.proofs.lemmas.List.{length-replicate, length-take-le}
use Rattle.std.proofs.lemmas.List.Elements.{All-head}
use Rattle.pw_lists.specs.Limits.{links_limit}
use Rattle.pw_lists.specs.Samples.{clamped, summed}
use Rattle.board_rule.specs.declared.view.View.{View}
use Rattle.board_rule.specs.Layout.{BoardLayout, layout_of}
use Rattle.board_rule.specs.buffers.EndViews.{pool_of}
use Rattle.io_areas.specs.InputTurn.{MayReadInput}
use Rattle.io_areas.specs.Quanta.{quantum_of}
use Rattle.data_loop.specs.declared.inputs.Input.{Input}
use Rattle.data_loop.specs.declared.member.Member.{Member}
use Rattle.data_loop.specs.working.ReadingInputs.{MayReadAll, AreRead}
use Rattle.data_loop.specs.working.Inputs.{IsZero, IsWide, AreLong, only_link, links_of, first_rows, second_rows}
use Rattle.data_loop.proofs.turns.ReadingInputsLemmas.{none_read, one_more}
use Rattle.data_loop.proofs.InputLemmas.{first_comes, second_comes}
use Rattle.data_loop.proofs.OnlyLinkLemmas.{links_only, all_only, first_only, second_only, zeros_summed, silence_clamped}
use Rattle.data_loop.proofs.PlayerLemmas.{front_is}
use Rattle.data_loop.proofs.SumLemmas.{all_zeros}
use Rattle.data_loop.proofs.gathering.gather_in.Goals as goal

pub read_input-requires-clause-phase : goal.read_input-requires-clause-phase
read_input-requires-clause-phase g c = let at = c.args.turn_context.now in let p : BoardLayout = layout_of at.board.now.board_shape in let m : Member = c.args.member.now in
    let inputs : List Input = m.inputs in let is = c.as_slice-inputs.ensures in let b = g.S.BoardSeat.is_driver in
    let v : View = g.S.BoardSeat.knows c.args.seat.now in let r = c.requires in
    let l = c.in-Some.link in
    let only : only_link inputs ≡ Some l = ap only_link (sym is) ∙ sym c.only_link.ensures ∙ c.in-Some.is in
    let may = MayReadInput b p v in All-head may l [] (subst (All may) (links_only l inputs only) r.phase.0)

pub read_input-requires-clause-long : goal.read_input-requires-clause-long
read_input-requires-clause-long g c = let at = c.args.turn_context.now in let p : BoardLayout = layout_of at.board.now.board_shape in let m : Member = c.args.member.now in
    let inputs : List Input = m.inputs in let is = c.as_slice-inputs.ensures in let b = g.S.BoardSeat.is_driver in
    let v : View = g.S.BoardSeat.knows c.args.seat.now in let r = c.requires in
    let l = c.in-Some.link in
    let only : only_link inputs ≡ Some l = ap only_link (sym is) ∙ sym c.only_link.ensures ∙ c.in-Some.is in
    let long_a = length-take-le m.first_width c.args.a.now r.first_row.1 in
    long_a ∙ all_only l (λ k. m.first_width ≡ quantum_of p (pool_of p k)) inputs only r.long

pub returns-in-Some-clause-knows : goal.returns-in-Some-clause-knows
returns-in-Some-clause-knows g c = let at = c.args.turn_context.now in let p : BoardLayout = layout_of at.board.now.board_shape in let m : Member = c.args.member.now in
    let inputs : List Input = m.inputs in let is = c.as_slice-inputs.ensures in let b = g.S.BoardSeat.is_driver in
    let v : View = g.S.BoardSeat.knows c.args.seat.now in let r = c.requires in
    let l = c.in-Some.link in
    let only : only_link inputs ≡ Some l = ap only_link (sym is) ∙ sym c.only_link.ensures ∙ c.in-Some.is in
    let w : View = g.S.BoardSeat.knows c.read_input.new.seat in
    let links = links_only l inputs only in
    let may : MayReadAll b p v (l ∷ []) = subst (MayReadAll b p v) links r.phase in
    subst (λ ls. AreRead b p v ls w) (sym links)
    (one_more b p v (l ∷ []) may 0 v (omega arith) (none_read b p v (l ∷ []) may) w c.read_input.ensures.knows)

pub returns-in-Some-clause-a : goal.returns-in-Some-clause-a
returns-in-Some-clause-a g c = let at = c.args.turn_context.now in let p : BoardLayout = layout_of at.board.now.board_shape in let m : Member = c.args.member.now in
    let inputs : List Input = m.inputs in let is = c.as_slice-inputs.ensures in let b = g.S.BoardSeat.is_driver in
    let v : View = g.S.BoardSeat.knows c.args.seat.now in let r = c.requires in
    let l = c.in-Some.link in
    let only : only_link inputs ≡ Some l = ap only_link (sym is) ∙ sym c.only_link.ensures ∙ c.in-Some.is in
    let long_a = length-take-le m.first_width c.args.a.now r.first_row.1 in
    let n = m.first_width in let a : List ℤ = c.read_input.new.to in let e = c.read_input.ensures in
    let zeros : List ℤ = replicate n (pos 0) in let long = length-replicate n (pos 0) in let same = c.read_input.auto.to ∙ long_a in
    front_is n a c.args.a.now same
    ∙ first_comes b at.run_model.now p r.pooled v at.cycle m.node _ _ _ r.reads zeros a long (all_zeros n)
    (sym (ap (λ rows. map clamped (fold summed zeros rows)) (first_only l b p v inputs only ∙ ap (λ x. x ∷ []) (sym e.samples))
    ∙ ap (map clamped) (zeros_summed zeros a (all_zeros n) (same ∙ sym long)) ∙ e.clamped))
    (same ∙ sym long)

pub returns-in-Some-clause-b : goal.returns-in-Some-clause-b
returns-in-Some-clause-b g c = let at = c.args.turn_context.now in let p : BoardLayout = layout_of at.board.now.board_shape in let m : Member = c.args.member.now in
    let inputs : List Input = m.inputs in let is = c.as_slice-inputs.ensures in let b = g.S.BoardSeat.is_driver in
    let v : View = g.S.BoardSeat.knows c.args.seat.now in let r = c.requires in
    let l = c.in-Some.link in
    let only : only_link inputs ≡ Some l = ap only_link (sym is) ∙ sym c.only_link.ensures ∙ c.in-Some.is in
    let long_b = length-take-le m.second_width c.args.b.now r.second_row.1 in
    let n = m.second_width in let zeros : List ℤ = replicate n (pos 0) in let long = length-replicate n (pos 0) in
    let same = c.fill.ensures.len ∙ long_b in
    front_is n c.fill.new.self c.args.b.now same
    ∙ second_comes b at.run_model.now p r.pooled v at.cycle m.node _ _ _ r.reads zeros c.fill.new.self long (all_zeros n)
    (c.fill.ensures.after (λ y h. h) ∙ ap (λ k. replicate k (pos 0)) long_b ∙ sym (silence_clamped n)
    ∙ ap (λ rows. map clamped (fold summed zeros rows)) (sym (second_only l b p v inputs only)))
    (same ∙ sym long)

pub read_inputs-requires-clause-phase : goal.read_inputs-requires-clause-phase
read_inputs-requires-clause-phase g c = let at = c.args.turn_context.now in let p : BoardLayout = layout_of at.board.now.board_shape in let m : Member = c.args.member.now in
    let inputs : List Input = m.inputs in let is = c.as_slice-inputs.ensures in let b = g.S.BoardSeat.is_driver in
    let v : View = g.S.BoardSeat.knows c.args.seat.now in let r = c.requires in
    subst (λ (x : List Input). MayReadAll b p v (links_of x)) (sym is) r.phase

pub read_inputs-requires-clause-few : goal.read_inputs-requires-clause-few
read_inputs-requires-clause-few g c = let at = c.args.turn_context.now in let p : BoardLayout = layout_of at.board.now.board_shape in let m : Member = c.args.member.now in
    let inputs : List Input = m.inputs in let is = c.as_slice-inputs.ensures in let b = g.S.BoardSeat.is_driver in
    let v : View = g.S.BoardSeat.knows c.args.seat.now in let r = c.requires in
    subst (λ (x : List Input). length x ≤ links_limit) (sym is) r.few

pub read_inputs-requires-clause-long : goal.read_inputs-requires-clause-long
read_inputs-requires-clause-long g c = let at = c.args.turn_context.now in let p : BoardLayout = layout_of at.board.now.board_shape in let m : Member = c.args.member.now in
    let inputs : List Input = m.inputs in let is = c.as_slice-inputs.ensures in let b = g.S.BoardSeat.is_driver in
    let v : View = g.S.BoardSeat.knows c.args.seat.now in let r = c.requires in
    subst (λ (x : ℕ × List Input). AreLong p x.0 x.1)
    (λ i. (sym (length-take-le m.first_width c.args.a.now r.first_row.1) i, sym is i)) r.long

pub read_inputs-requires-clause-first : goal.read_inputs-requires-clause-first
read_inputs-requires-clause-first g c = let at = c.args.turn_context.now in let p : BoardLayout = layout_of at.board.now.board_shape in let m : Member = c.args.member.now in
    let inputs : List Input = m.inputs in let is = c.as_slice-inputs.ensures in let b = g.S.BoardSeat.is_driver in
    let v : View = g.S.BoardSeat.knows c.args.seat.now in let r = c.requires in
    let zeros = c.fill-2.ensures.after (λ y h. h) in
    let long = length-take-le m.first_width c.args.sum_a.now r.first_row.0 in (
      c.fill-2.ensures.len ∙ long ∙ sym (length-take-le m.first_width c.args.a.now r.first_row.1),
      subst (All IsZero) (sym zeros) (all_zeros (length (take m.first_width c.args.sum_a.now))),
    )

pub read_inputs-requires-clause-second : goal.read_inputs-requires-clause-second
read_inputs-requires-clause-second g c = let at = c.args.turn_context.now in let p : BoardLayout = layout_of at.board.now.board_shape in let m : Member = c.args.member.now in
    let inputs : List Input = m.inputs in let is = c.as_slice-inputs.ensures in let b = g.S.BoardSeat.is_driver in
    let v : View = g.S.BoardSeat.knows c.args.seat.now in let r = c.requires in
    let zeros = c.fill-3.ensures.after (λ y h. h) in
    let long = length-take-le m.second_width c.args.sum_b.now r.second_row.0 in
    let row = length-take-le m.first_width c.args.a.now r.first_row.1 in (
      subst (λ (x : ℕ × ℕ × List Input). IsWide x.0 x.1 x.2) (λ i. (sym row i, sym (c.fill-3.ensures.len ∙ long) i, sym is i)) r.second,
      subst (All IsZero) (sym zeros) (all_zeros (length (take m.second_width c.args.sum_b.now))),
    )

pub returns-clause-knows : goal.returns-clause-knows
returns-clause-knows g c = let at = c.args.turn_context.now in let p : BoardLayout = layout_of at.board.now.board_shape in let m : Member = c.args.member.now in
    let inputs : List Input = m.inputs in let is = c.as_slice-inputs.ensures in let b = g.S.BoardSeat.is_driver in
    let v : View = g.S.BoardSeat.knows c.args.seat.now in let r = c.requires in
    subst (λ (x : List Input). AreRead b p v (links_of x) (g.S.BoardSeat.knows c.read_inputs.new.seat)) is c.read_inputs.ensures.knows

pub returns-clause-a : goal.returns-clause-a
returns-clause-a g c = let at = c.args.turn_context.now in let p : BoardLayout = layout_of at.board.now.board_shape in let m : Member = c.args.member.now in
    let inputs : List Input = m.inputs in let is = c.as_slice-inputs.ensures in let b = g.S.BoardSeat.is_driver in
    let v : View = g.S.BoardSeat.knows c.args.seat.now in let r = c.requires in
    let long_a = length-take-le m.first_width c.args.a.now r.first_row.1 in
    let long = length-take-le m.first_width c.args.sum_a.now r.first_row.0 in
    let zeros : List ℤ = c.fill-2.new.self in let a : List ℤ = c.clamp_out.new.to in
    front_is m.first_width a c.args.a.now (c.clamp_out.auto.to ∙ c.read_inputs.auto.row ∙ long_a)
    ∙ first_comes b at.run_model.now p r.pooled v at.cycle m.node _ _ _ r.reads zeros a
    (c.fill-2.ensures.len ∙ long)
    (subst (All IsZero) (sym (c.fill-2.ensures.after (λ y h. h))) (all_zeros (length (take m.first_width c.args.sum_a.now))))
    (c.clamp_out.ensures ∙ ap (map clamped) c.read_inputs.ensures.first
    ∙ ap (λ (x : List Input). map clamped (fold summed zeros (first_rows b p v x))) is)
    (c.clamp_out.auto.to ∙ c.read_inputs.auto.row ∙ long_a ∙ sym (c.fill-2.ensures.len ∙ long))

pub returns-clause-b : goal.returns-clause-b
returns-clause-b g c = let at = c.args.turn_context.now in let p : BoardLayout = layout_of at.board.now.board_shape in let m : Member = c.args.member.now in
    let inputs : List Input = m.inputs in let is = c.as_slice-inputs.ensures in let b = g.S.BoardSeat.is_driver in
    let v : View = g.S.BoardSeat.knows c.args.seat.now in let r = c.requires in
    let long_b = length-take-le m.second_width c.args.b.now r.second_row.1 in
    let long = length-take-le m.second_width c.args.sum_b.now r.second_row.0 in
    let zeros : List ℤ = c.fill-3.new.self in let a : List ℤ = c.clamp_out-2.new.to in
    front_is m.second_width a c.args.b.now (c.clamp_out-2.auto.to ∙ long_b)
    ∙ second_comes b at.run_model.now p r.pooled v at.cycle m.node _ _ _ r.reads zeros a
    (c.fill-3.ensures.len ∙ long)
    (subst (All IsZero) (sym (c.fill-3.ensures.after (λ y h. h))) (all_zeros (length (take m.second_width c.args.sum_b.now))))
    (c.clamp_out-2.ensures ∙ ap (map clamped) c.read_inputs.ensures.second
    ∙ ap (λ (x : List Input). map clamped (fold summed zeros (second_rows b p v x))) is)
    (c.clamp_out-2.auto.to ∙ long_b ∙ sym (c.fill-3.ensures.len ∙ long))
