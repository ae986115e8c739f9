use Rattle.std.proofs.Common.{ℕ, ◌+◌, ◌%◌, ◌^◌, sym, subst}
use Rattle.atomic_table.specs.Table.{Allows}
use Rattle.board_rule.specs.declared.board_shape.BoardShape.{BoardShape}
use Rattle.board_rule.specs.Layout.{layout_of}
use Rattle.board_rule.specs.BoardRule.{Holds}
use Rattle.board_rule.specs.working.Plays.{Learns}
use Rattle.board_rule.proofs.StepLemmas.{draws_ticket}
use Rattle.board_rule.proofs.steps.event.draw.Goals as goal

pub fetch_add-requires : goal.fetch_add-requires
fetch_add-requires g c = let b = c.args.board.now in let p = layout_of b.board_shape in let t = c.args.token.now in
    let slots : ℕ = b.table.shared.table_id.slots in let after = g.C.Change.after in (
      c.requires.table,
      c.ticket_word-word.ensures.there,
      subst (λ (k : BoardShape × ℕ). Allows (Holds (layout_of k.0)) slots t.id t.me k.1 (λ n. (n + 1) % 2 ^ 64) (Learns after g.C.Change.says t.me))
          (λ i. (sym b.about i, sym c.ticket_word-word.ensures.is i))
          (draws_ticket p slots t.id t.me after g.C.Change.is_driver c.args.at g.C.Change.says c.requires.phase c.requires.after
          c.requires.says),
    )
