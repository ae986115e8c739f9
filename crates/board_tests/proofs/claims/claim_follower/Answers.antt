use Rattle.std.proofs.Common.{rules, ◌≡◌, ◌≢◌, ◌∙◌, ℕ, ◌<◌, List, [], ◌∷◌, get_or, sym, ap, subst}
use Rattle.pw_graph.specs.declared.shape.Shape.{Shape}
use Rattle.board_rule.specs.Layout.{layout_of, nodes, index_in}
use Rattle.board_tests.proofs.claims.claim_follower.Goals as goal

pub look-requires-clause-rests : goal.look-requires-clause-rests
look-requires-clause-rests c = let p = layout_of c.args.board.now.board_shape in
    let inside : p.index c.args.node < nodes p = search rules in let other : p.index c.args.node ≢ p.driver = search rules in
    let own : p.seat_of (p.index c.args.node) ≡ c.args.of_loop = ap (λ (l : List ℕ). get_or l (p.index c.args.node) 0) c.requires.row
    ∙ (let at : get_or (0 ∷ 1 ∷ 0 ∷ 0 ∷ []) c.index_in-at.result 0 ≡ c.args.of_loop = sym c.seat_at.ensures
    ∙ (let same : c.seat_at.result ≡ c.args.of_loop = search rules in same) in
    subst (λ k. get_or (0 ∷ 1 ∷ 0 ∷ 0 ∷ []) k 0 ≡ c.args.of_loop)
    (c.index_in-at.ensures ∙ ap (λ (s : Shape). index_in s c.args.node) c.shape-shape.ensures) at) in
    c.requires.rests (p.index c.args.node) inside other own
