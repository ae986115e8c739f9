-- A board and a seat of its table, and the layout that the board has.
-- Source: this project's own.
use Rattle.std.specs.Prelude.{◌≡◌}
use Rattle.atomic_table.specs.Seated.{TableId}
use Rattle.board_rule.specs.declared.board.Board.{Board}
use Rattle.board_rule.specs.Layout.{BoardLayout, layout_of}

-- the table of words of a board
abbrev pub table_of : Board → TableId
table_of board = board.table.shared.table_id

-- a seat of this table is one of the board's
abbrev pub IsOn : Board → TableId → Type 0
IsOn board table = table ≡ table_of board

abbrev pub layout : Board → BoardLayout
layout board = layout_of board.board_shape
