use Rattle.std.proofs.Common.{Option, ℕ, arith, sym, subst}
use Rattle.atomic_table.specs.Table.{Splits}
use Rattle.board_rule.specs.declared.board_shape.BoardShape.{BoardShape}
use Rattle.board_rule.specs.declared.view.View.{View}
use Rattle.board_rule.specs.Layout.{layout_of}
use Rattle.board_rule.specs.BoardRule.{Holds}
use Rattle.board_rule.proofs.start.StartLemmas.{keeps_view}
use Rattle.board_rule.proofs.closing.keep.Goals as goal

pub split_seat-requires : goal.split_seat-requires
split_seat-requires g c = let b = c.args.board.now in let t = c.args.token.now in let words = b.words in let room = b.room in (
  c.requires.table,
  omega arith,
  subst (λ (k : BoardShape × View × View). Splits {S = Option ℕ} (Holds (layout_of k.0)) t.id t.me.0 k.1 k.2)
      (λ i. (sym b.about i, sym c.requires.left i, sym c.requires.right i)) (keeps_view (layout_of b.board_shape) t.id t.me.0 c.requires.is_driver c.requires.ended),
)
