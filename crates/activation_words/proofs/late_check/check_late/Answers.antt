use Rattle.std.proofs.Common.{refl, subst}
use Rattle.board_rule.specs.declared.view.View.{View}
use Rattle.board_rule.specs.Layout.{layout_of, nodes}
use Rattle.activation_words.specs.working.Checks.{tick_drawn, IsLooking}
use Rattle.activation_words.proofs.CheckLemmas.{stores}
use Rattle.activation_words.proofs.late_check.check_late.Goals as goal

pub store_late-requires-clause-phase : goal.store_late-requires-clause-phase
store_late-requires-clause-phase c = let board = c.args.board.now in let p = layout_of board.board_shape in let v : View = c.args.seat.now.knows in
    let t = c.draw_tick.ensures.knows in
    stores p board.sound (tick_drawn v t.0) c.look_at_all-late.result c.look_at_all-late.new.seat.knows c.requires.node refl
    (subst (λ (u : View). IsLooking p u (nodes p) c.look_at_all-late.result c.look_at_all-late.new.seat.knows)
    t.2 c.look_at_all-late.ensures.knows)
