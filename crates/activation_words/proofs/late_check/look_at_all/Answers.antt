use Rattle.std.proofs.Common.{rules, ◌<◌}
use Rattle.board_rule.specs.declared.view.View.{View}
use Rattle.board_rule.specs.Layout.{layout_of, nodes}
use Rattle.activation_words.proofs.CheckLemmas.{can_look}
use Rattle.activation_words.proofs.late_check.look_at_all.Goals as goal

pub look_at-late-requires-clause-phase : goal.look_at-late-requires-clause-phase
look_at-late-requires-clause-phase c = let board = c.args.board.now in let p = layout_of board.board_shape in let v : View = c.args.seat.now.knows in
    let i = c.loop-at.invariant in let near : c.loop-at.at < nodes p = search rules in
    λ other. can_look p board.sound v c.loop-at.at c.loop-at.late c.loop-at.seat.knows near c.requires.node c.requires.checking i.1 other
