-- The shape of a board as the rule reads it: nodes by their indexes in the shape.
-- Source: PipeWire's documentation, "Graph Scheduling" (required, target list); the words are this
-- project's.
use Rattle.std.specs.Prelude.{◌≡◌, ◌≢◌, ℕ, ◌+◌, ◌^◌, ◌<◌, ◌≤◌, List, [], drop, length, false, All, Contains, slice_index}
use Rattle.std.specs.Prelude.{slice_index_or}
use Rattle.pw_graph.specs.declared.shape.Shape.{Shape}
use Rattle.pw_graph.specs.Dependencies.{nodes_of, Precedes}
use Rattle.pw_lists.specs.Limits.{events_limit, dummy_node}
use Rattle.pw_graph.specs.Layout.{node_count, event_count}
use Rattle.board_rule.specs.declared.board_shape.BoardShape.{BoardShape}
use Rattle.board_rule.specs.Sums.{total, times}
pub use Rattle.board_rule.specs.Indexes.{index_in, target_rows, required_row}
pub use Rattle.board_rule.specs.start.Seats.{HasSeats}
unfoldable pub use Rattle.board_rule.specs.Indexes.{word_count}

-- no link is delayed
abbrev pub IsUndelayed : Shape → Type 0
IsUndelayed shape = All (λ l. l.delayed ≡ false) shape.links

-- what a rule reads: the driver's index; of each index its seat, its node's number, its required
-- count and its targets
pub record BoardLayout : Type 0 where
  pub shape : Shape
  pub seats : ℕ
  pub driver : ℕ
  pub seat_of : ℕ → ℕ
  pub number : ℕ → ℕ
  pub index : ℕ → ℕ
  pub required : ℕ → ℕ
  pub targets : ℕ → List ℕ

abbrev pub layout_of : BoardShape → BoardLayout
layout_of board_shape = record {
  shape = board_shape.shape;
  seats = board_shape.seats;
  driver = index_in board_shape.shape board_shape.shape.driver;
  seat_of = λ n. slice_index board_shape.seat_of n;
  number = λ n. slice_index (nodes_of board_shape.shape) n;
  index = index_in board_shape.shape;
  required = λ n. slice_index (required_row board_shape.shape) n;
  targets = λ n. slice_index_or (target_rows board_shape.shape) n [];
}

-- how many nodes there are, and the cycles of the epoch: from `first` to the one before `last`
abbrev pub nodes : BoardLayout → ℕ
nodes p = node_count p.shape

abbrev pub first : BoardLayout → ℕ
first p = p.shape.first

abbrev pub last : BoardLayout → ℕ
last p = p.shape.first + p.shape.cycles

-- what follows from a sound shape, and from a seat for each follower
pub record IsSound (p : BoardLayout) : Type 0 where
  pub some_cycles : 1 ≤ p.shape.cycles
  pub early : last p ≤ 2 ^ 32
  pub events : event_count p.shape ≤ events_limit
  pub driver_in : p.driver < nodes p
  pub seats_in : (n : ℕ) → n < nodes p → n ≢ p.driver → p.seat_of n < p.seats
  pub indexes : (n : ℕ) → p.index n < nodes p → n ≤ dummy_node
  pub numbers : (n : ℕ) → n < nodes p → p.number n ≤ dummy_node
  pub at : (n : ℕ) → n < nodes p → p.index (p.number n) ≡ n
  pub known : (n : ℕ) → p.index n < nodes p → p.number (p.index n) ≡ n
  pub targets_in : (m i : ℕ) → m < nodes p → i < length (p.targets m)
      → slice_index (p.targets m) i < nodes p
  pub required_is : (n : ℕ) → n < nodes p
      → p.required n ≡ total (λ m. times n (p.targets m)) (nodes p)
  pub required_some : (n : ℕ) → n < nodes p → 0 < p.required n
  pub tells_driver : (m i : ℕ) → m < nodes p → i < length (p.targets m)
      → 0 < times p.driver (drop i (p.targets m))
  pub tells : (m : ℕ) → m < nodes p → 0 < length (p.targets m)
  pub names : (n : ℕ) → n < nodes p → slice_index (nodes_of p.shape) n ≡ p.number n
  pub named : (n : ℕ) → Contains (nodes_of p.shape) n → p.index n < nodes p
  pub names_driver : p.number p.driver ≡ p.shape.driver
  pub follows : (m n : ℕ) → m < nodes p → n < nodes p
      → Precedes p.shape (p.number m) (p.number n)
      → 0 < times n (p.targets m)
