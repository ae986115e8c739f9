use Rattle.std.proofs.Common.{rules, ◌≡◌, ◌≢◌, ◌∙◌, ◌≤◌, sym, ap, subst}
use Rattle.board_rule.specs.declared.view.View.{View}
use Rattle.board_rule.specs.Layout.{layout_of}
use Rattle.board_rule.specs.events.EventSteps.{Looks}
use Rattle.activation_words.proofs.late_check.look_at.Goals as goal

pub load_status-found-requires-clause-phase : goal.load_status-found-requires-clause-phase
load_status-found-requires-clause-phase c = let board = c.args.board.now in let p = layout_of board.board_shape in
    let v : View = c.args.seat.now.knows in
    let number = c.node_at-node.ensures in let at : p.index c.node_at-node.result ≡ c.args.at = ap p.index number
    ∙ board.sound.at c.args.at c.requires.inside in
    let else : c.node_at-node.result ≢ board.board_shape.shape.driver = search rules in
    let other : c.args.at ≢ p.driver = λ e. else (number ∙ ap p.number e ∙ board.sound.known board.board_shape.shape.driver board.sound.driver_in)
    in
    subst (λ k. Looks p v k) (sym at) (c.requires.phase other)

pub late_with-requires : goal.late_with-requires
late_with-requires c = let board = c.args.board.now in
    subst (λ k. k ≤ 63) (sym c.node_at-node.ensures) (board.sound.numbers c.args.at c.requires.inside)
