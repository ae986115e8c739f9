use Rattle.std.proofs.Common.{ℕ, sym, subst}
use Rattle.atomic_table.specs.Table.{Allows}
use Rattle.board_rule.specs.declared.board_shape.BoardShape.{BoardShape}
use Rattle.board_rule.specs.Layout.{layout_of}
use Rattle.board_rule.specs.BoardRule.{Holds}
use Rattle.board_rule.specs.working.Plays.{Leaves}
use Rattle.board_rule.proofs.buffers.WriterStepLemmas.{store_sample_allowed}
use Rattle.board_rule.proofs.steps.writing.store_sample.Goals as goal

pub store-requires : goal.store-requires
store-requires g c = let b = c.args.board.now in let p = layout_of b.board_shape in let t = c.args.token.now in
    let slots : ℕ = b.table.shared.table_id.slots in let after = g.C.Change.after in let says = g.C.Change.says in (
      c.requires.table,
      c.requires.there,
      subst (λ (k : BoardShape × ℕ). Allows (Holds (layout_of k.0)) slots t.id t.me k.1 (λ _. c.args.new) (λ _. Leaves after t.me c.args.new))
          (λ i. (sym b.about i, sym c.requires.word i))
          (store_sample_allowed p slots t.id t.me after says c.args.pool c.args.id c.args.place c.args.new c.requires.phase
          c.requires.after),
    )
