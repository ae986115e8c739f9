use Rattle.std.proofs.Common.{ℕ, sym, ap, ◌∙◌, subst}
use Rattle.pw_graph.specs.Words.{io_word_of}
use Rattle.pw_graph.specs.Layout.{io_place}
use Rattle.board_rule.specs.buffers.Areas.{area_of}
use Rattle.board_rule.specs.buffers.EndViews.{link_at}
use Rattle.atomic_table.specs.Table.{Allows}
use Rattle.board_rule.specs.declared.board_shape.BoardShape.{BoardShape}
use Rattle.board_rule.specs.Layout.{layout_of}
use Rattle.board_rule.specs.BoardRule.{Holds}
use Rattle.board_rule.specs.working.Plays.{Leaves}
use Rattle.board_rule.proofs.buffers.ReaderStepLemmas.{store_need_allowed}
use Rattle.board_rule.proofs.steps.reading.store_need.Goals as goal

pub store-requires : goal.store-requires
store-requires g c = let b = c.args.board.now in let p = layout_of b.board_shape in let t = c.args.token.now in
    let slots : ℕ = b.table.shared.table_id.slots in let after = g.C.Change.after in let says = g.C.Change.says in (
      c.requires.table,
      c.area_word-word.ensures.there,
      subst (λ (k : BoardShape × ℕ × ℕ). Allows (Holds (layout_of k.0)) slots t.id t.me k.1 (λ _. k.2) (λ _. Leaves after t.me k.2))
          (λ i. (
            sym b.about i,
            sym (c.area_word-word.ensures.is ∙ ap (λ n. io_place b.board_shape.shape c.args.link (area_of (link_at p c.args.link) n)) c.requires.stamp) i,
            sym (c.io_word-new.ensures.word ∙ ap (λ n. io_word_of n c.args.id) c.number.ensures) i,
          ))
          (store_need_allowed p slots t.id t.me after says g.C.Change.is_driver c.args.link c.args.id c.requires.phase c.requires.after),
    )
