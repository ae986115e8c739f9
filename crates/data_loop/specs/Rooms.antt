-- Rows of a loop, and how long they are.
-- Source: PipeWire's documentation, "Graph Scheduling" (quantum).
use Rattle.std.specs.Prelude.{◌≡◌, ℕ, ℤ, ◌≤◌, List, length, take}
use Rattle.data_loop.specs.declared.member.Member.{Member}
use Rattle.data_loop.specs.declared.rows.Rows.{Rows}

-- a quantum at each port of the member has room
pub record HasRowsFor (rows : Rows) (m : Member) : Type 0 where
  pub sum_a : m.first_width ≤ length rows.sum_a.items
  pub sum_b : m.second_width ≤ length rows.sum_b.items
  pub a : m.first_width ≤ length rows.a.items
  pub b : m.second_width ≤ length rows.b.items
  pub left : m.left_width ≤ length rows.left.items
  pub right : m.right_width ≤ length rows.right.items

-- what a quantum at its first and at its second input, or output, fills of a row
abbrev pub a_row : Rows → Member → List ℤ
a_row rows m = take m.first_width rows.a.items

abbrev pub b_row : Rows → Member → List ℤ
b_row rows m = take m.second_width rows.b.items

abbrev pub left_row : Rows → Member → List ℤ
left_row rows m = take m.left_width rows.left.items

abbrev pub right_row : Rows → Member → List ℤ
right_row rows m = take m.right_width rows.right.items

-- each row is as long as before
pub record IsSameRoom (old new : Rows) : Type 0 where
  pub sum_a : length new.sum_a.items ≡ length old.sum_a.items
  pub sum_b : length new.sum_b.items ≡ length old.sum_b.items
  pub a : length new.a.items ≡ length old.a.items
  pub b : length new.b.items ≡ length old.b.items
  pub left : length new.left.items ≡ length old.left.items
  pub right : length new.right.items ≡ length old.right.items

-- the samples of a quantum at each of its ports are at most `width`
pub record IsWithin (width : ℕ) (m : Member) : Type 0 where
  pub first : m.first_width ≤ width
  pub second : m.second_width ≤ width
  pub left : m.left_width ≤ width
  pub right : m.right_width ≤ width

-- each row is so long
pub record AreAsLong (width : ℕ) (rows : Rows) : Type 0 where
  pub sum_a : length rows.sum_a.items ≡ width
  pub sum_b : length rows.sum_b.items ≡ width
  pub a : length rows.a.items ≡ width
  pub b : length rows.b.items ≡ width
  pub left : length rows.left.items ≡ width
  pub right : length rows.right.items ≡ width
