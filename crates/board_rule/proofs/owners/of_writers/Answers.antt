use Rattle.std.proofs.Common.{ℕ, ◌∙◌, ◌++◌, ◌∷◌, [], ap, sym, get_or}
use Rattle.std.proofs.lemmas.List.{map_more}
use Rattle.pw_graph.specs.declared.shape.ShapeLink.{ShapeLink}
use Rattle.board_rule.specs.Layout.{layout_of}
use Rattle.board_rule.specs.start.Owners.{seat_with}
use Rattle.board_rule.specs.buffers.EndViews.{no_link}
use Rattle.board_rule.proofs.owners.of_writers.Goals as goal

pub loop-link-preserved : goal.loop-link-preserved
loop-link-preserved c = let p = layout_of c.args.board_shape.now in let f : ShapeLink → ℕ = λ l. seat_with p l.from.node in
    let xs = c.as_slice-link-items.result.now in let i : ℕ = c.loop-link.link-index in
    c.in_ok-push.ensures.ok ∙ ap (λ y. c.loop-link.row ++ y ∷ []) c.seat_with.ensures
    ∙ ap (λ row. row ++ f (get_or xs i no_link) ∷ []) c.loop-link.invariant ∙ sym (map_more f xs i no_link c.loop-link-test.true)
