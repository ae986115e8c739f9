use Rattle.std.proofs.Common.{arith, ◌∙◌, ℕ, ◌<◌, Bool, length, sym, subst}
use Rattle.board_rule.specs.declared.view.View.{View}
use Rattle.board_rule.specs.Layout.{layout_of}
use Rattle.board_rule.specs.Steps.{Lowers}
use Rattle.activation_words.proofs.TellLemmas.{lowers_at, telling_next}
use Rattle.activation_words.proofs.telling.tell_all.Goals as goal

pub tell_next-requires-clause-phase : goal.tell_next-requires-clause-phase
tell_next-requires-clause-phase g c = let p = layout_of c.args.board.now.board_shape in let m : ℕ = p.index c.args.node in
    let v : View = g.S.BoardSeat.knows c.args.seat.now in let b : Bool = g.S.BoardSeat.is_driver in let i = c.loop-told.invariant in
    let near : c.loop-told.told < length (p.targets m) = omega arith in
    subst (λ (w : View). Lowers b p w m) (sym i.1.is) (lowers_at p v m b c.loop-told.told _ near c.requires.node)

pub loop-told-preserved : goal.loop-told-preserved
loop-told-preserved g c = let p = layout_of c.args.board.now.board_shape in let m : ℕ = p.index c.args.node in
    let v : View = g.S.BoardSeat.knows c.args.seat.now in let b : Bool = g.S.BoardSeat.is_driver in let i = c.loop-told.invariant in
    let near : c.loop-told.told < length (p.targets m) = omega arith in let r = c.tell_next.ensures.knows in (
      c.tell_next.ensures.table ∙ i.0,
      telling_next p v m b c.loop-told.told r.0 (g.S.BoardSeat.knows c.loop-told.seat)
          (g.S.BoardSeat.knows c.tell_next.new.seat) near c.requires.node i.1 r.1,
    )
