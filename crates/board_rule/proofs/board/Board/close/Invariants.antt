use Rattle.board_rule.specs.Layout.{layout_of}
use Rattle.board_rule.specs.events.Closing.{last_view, kept_view}
use Rattle.board_rule.proofs.board.Board.close.Given as goal

abbrev pub ghosts-keep : goal.ghosts-keep
ghosts-keep a = record {
  left = last_view (layout_of a.board.now.board_shape) a.token.now.me.0;
  right = kept_view (layout_of a.board.now.board_shape) a.token.now.me.0;
}
