use Rattle.std.proofs.Common.{◌∙◌, ℕ, sym, subst}
use Rattle.atomic_table.specs.Table.{Allows}
use Rattle.pw_graph.specs.Words.{triggered_word}
use Rattle.board_rule.specs.declared.board_shape.BoardShape.{BoardShape}
use Rattle.board_rule.specs.Layout.{layout_of}
use Rattle.board_rule.specs.BoardRule.{Holds}
use Rattle.board_rule.specs.working.Plays.{Leaves}
use Rattle.board_rule.proofs.StepLemmas.{triggers}
use Rattle.board_rule.proofs.steps.activation.trigger.Goals as goal

pub store-requires : goal.store-requires
store-requires g c = let b = c.args.board.now in let p = layout_of b.board_shape in let t = c.args.token.now in
    let slots : ℕ = b.table.shared.table_id.slots in let after = g.C.Change.after in (
      c.requires.table,
      c.status_word-word.ensures.there,
      subst (λ (k : BoardShape × ℕ × ℕ). Allows (Holds (layout_of k.0)) slots t.id t.me k.1 (λ _. k.2) (λ _. Leaves after t.me k.2))
          (λ i. (
            sym b.about i,
            sym c.status_word-word.ensures.is i,
            sym (c.triggered-new.ensures ∙ (λ j. triggered_word (c.requires.cycle j))) i,
          ))
          (triggers p slots t.id t.me after g.C.Change.is_driver c.args.at c.args.target c.requires.phase c.requires.target c.requires.after),
    )
