use Rattle.std.proofs.Common.{arith, ◌∙◌, ap, sym, ℕ, ◌<◌, ◌++◌, ◌∷◌, [], List, length, get_or}
use Rattle.std.proofs.lemmas.List.{map_more}
use Rattle.board_rule.specs.Layout.{index_in}
use Rattle.board_rule.proofs.rows.indexes_in.Goals as goal

pub loop-n-preserved : goal.loop-n-preserved
loop-n-preserved c = let xs : List ℕ = c.args.nodes.now in let i : ℕ = c.loop-n.n-index in let f = index_in c.args.shape.now in
    let near : i < length xs = omega arith in
    c.in_ok-push.ensures.items ∙ ap (λ y. c.loop-n.found.items ++ y ∷ []) c.index_by.ensures
    ∙ ap (λ l. l ++ f (get_or xs i 0) ∷ []) c.loop-n.invariant ∙ sym (map_more f xs i 0 near)
