-- Which seats a board may have.
-- Source: this project's own.
use Rattle.std.specs.Prelude.{◌≡◌, ◌≢◌, ℕ, ◌<◌, ◌≤◌, length, slice_index}
use Rattle.pw_graph.specs.Layout.{node_count}
use Rattle.board_rule.specs.declared.board_shape.BoardShape.{BoardShape}
use Rattle.board_rule.specs.Indexes.{index_in}

-- each follower has one of the seats of loops, and there is one
pub record HasSeats (board_shape : BoardShape) : Type 0 where
  pub some_seats : 1 ≤ board_shape.seats
  pub all : length board_shape.seat_of ≡ node_count board_shape.shape
  pub each : (n : ℕ) → n < node_count board_shape.shape
      → n ≢ index_in board_shape.shape board_shape.shape.driver
      → slice_index board_shape.seat_of n < board_shape.seats
