use Rattle.std.proofs.Common.{◌≤◌, sym, subst, get_or}
use Rattle.std.proofs.lemmas.List.{get_or-map}
use Rattle.pw_graph.specs.declared.shape.ShapeNode.{ShapeNode}
use Rattle.board_rule.proofs.board.Board.number.Goals as goal

pub returns-clause-most : goal.returns-clause-most
returns-clause-most c = let b = c.args.self.now in let most = b.sound.numbers c.args.at c.requires in let nodes = b.board_shape.shape.nodes in
    let d : ShapeNode = c.index-as_slice-at.result in
    let is = get_or-map (λ (n : ShapeNode). n.node) nodes c.args.at d 0 c.requires in
    subst (λ xs. (get_or xs c.args.at d).node ≤ 63) (sym c.as_slice.ensures) (subst (λ k. k ≤ 63) is most)
