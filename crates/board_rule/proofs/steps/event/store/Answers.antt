use Rattle.std.proofs.Common.{ℕ, ap, ◌∙◌, sym, subst}
use Rattle.pw_graph.specs.EventWords.{event_word_of}
use Rattle.pw_graph.specs.Layout.{event_place}
use Rattle.atomic_table.specs.Table.{Allows}
use Rattle.board_rule.specs.declared.board_shape.BoardShape.{BoardShape}
use Rattle.board_rule.specs.Layout.{layout_of}
use Rattle.board_rule.specs.BoardRule.{Holds}
use Rattle.board_rule.specs.working.Plays.{Leaves}
use Rattle.board_rule.proofs.StepLemmas.{stores_event}
use Rattle.board_rule.proofs.steps.event.store.Goals as goal

pub store-requires : goal.store-requires
store-requires g c = let b = c.args.board.now in let p = layout_of b.board_shape in let t = c.args.token.now in
    let slots : ℕ = b.table.shared.table_id.slots in let after = g.C.Change.after in (
      c.requires.table,
      c.event_word-word.ensures.there,
      subst (λ (k : BoardShape × ℕ × ℕ). Allows (Holds (layout_of k.0)) slots t.id t.me k.1 (λ _. k.2) (λ _. Leaves after t.me k.2))
          (λ i. (
            sym b.about i,
            sym (c.event_word-word.ensures.is ∙ ap (event_place b.board_shape.shape) c.requires.ticket) i,
            sym (c.event_word-new.ensures.word ∙ ap event_word_of c.requires.event) i,
          ))
          (stores_event p slots t.id t.me after g.C.Change.is_driver c.args.at c.requires.phase c.requires.after),
    )
