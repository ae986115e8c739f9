use Rattle.std.proofs.Common.{Option, ℕ, arith, sym, subst}
use Rattle.atomic_table.specs.Table.{Splits}
use Rattle.board_rule.specs.declared.board_shape.BoardShape.{BoardShape}
use Rattle.board_rule.specs.declared.view.View.{View}
use Rattle.board_rule.specs.Layout.{layout_of}
use Rattle.board_rule.specs.BoardRule.{Holds}
use Rattle.board_rule.proofs.start.StartLemmas.{splits}
use Rattle.board_rule.proofs.opening.split.Goals as goal

pub split_seat-requires : goal.split_seat-requires
split_seat-requires g c = let b = c.args.board.now in let t = c.args.token.now in let words = b.words in let room = b.room in (
  c.requires.table,
  omega arith,
  (let v = c.requires.views in subst (λ (k : BoardShape × View × View). Splits {S = Option ℕ} (Holds (layout_of k.0)) t.id t.me.0 k.1 k.2)
      (λ i. (sym b.about i, sym v.3 i, sym v.4 i)) (splits (layout_of b.board_shape) t.id t.me.0 v.0 c.requires.is_driver c.requires.room v.1 v.2)),
)
