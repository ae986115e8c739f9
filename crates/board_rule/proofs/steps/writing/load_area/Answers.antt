use Rattle.std.proofs.Common.{ℕ, sym, ap, ◌∙◌, subst}
use Rattle.pw_graph.specs.Layout.{io_place}
use Rattle.board_rule.specs.buffers.Areas.{area_of}
use Rattle.board_rule.specs.buffers.EndViews.{link_at}
use Rattle.atomic_table.specs.Table.{Allows}
use Rattle.board_rule.specs.declared.board_shape.BoardShape.{BoardShape}
use Rattle.board_rule.specs.Layout.{layout_of}
use Rattle.board_rule.specs.BoardRule.{Holds}
use Rattle.board_rule.specs.working.Plays.{Learns}
use Rattle.board_rule.proofs.buffers.WriterStepLemmas.{load_writer_allowed}
use Rattle.board_rule.proofs.steps.writing.load_area.Goals as goal

pub load-requires : goal.load-requires
load-requires g c = let b = c.args.board.now in let p = layout_of b.board_shape in let t = c.args.token.now in
    let slots : ℕ = b.table.shared.table_id.slots in let after = g.C.Change.after in let says = g.C.Change.says in (
      c.requires.table,
      c.area_word-word.ensures.there,
      subst (λ (k : BoardShape × ℕ). Allows (Holds (layout_of k.0)) slots t.id t.me k.1 (λ n. n) (Learns after says t.me))
          (λ i. (sym b.about i, sym (c.area_word-word.ensures.is ∙ ap (λ n. io_place b.board_shape.shape c.args.link (area_of (link_at p c.args.link) n)) c.requires.stamp) i))
          (load_writer_allowed p slots t.id t.me after says c.args.link c.requires.phase c.requires.after c.requires.says),
    )
