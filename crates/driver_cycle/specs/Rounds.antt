-- The calls of the driver's thread that no loop is needed for: the next cycle is begun, and a look
-- at who is late.
-- Source: PipeWire's documentation, "Graph Scheduling"; that a check is made when a ticker says so
-- is this project's own.
use Rattle.std.specs.Prelude.{◌≡◌, ◌≢◌, ℕ, ◌+◌, ◌-◌, ◌<◌, ◌≤◌, Bool, true, false, Option, Some, None}
use Rattle.board_rule.specs.declared.view.View.{View}
use Rattle.board_rule.specs.Layout.{BoardLayout, last}
use Rattle.board_rule.specs.Known.{Known}
use Rattle.activation_words.specs.CycleCalls.{HasBegun, HasChecked}

-- THE NEXT CYCLE is begun, where one is left
abbrev pub BeginsNext : BoardLayout → View → Bool → View → Type 0
BeginsNext p v true w = (v.lead.cycle ≢ last p) × HasBegun p v w
BeginsNext p v false w = (v.lead.cycle ≡ last p) × (w ≡ v)

-- A LOOK asks the ticker once, whose count goes from m to n: a check is made, with this late set,
-- where it is due; else nothing
abbrev pub IsLook : BoardLayout → View → ℕ → ℕ → Option ℕ → View → Type 0
IsLook p v m n (Some late) w = (m < n) × HasChecked p v late w
IsLook p v m n None w = (n ≡ m) × (w ≡ v)

-- from the seat s to the seat t no more checks were made than the ticker's count grew by, and at
-- least one where it grew
pub record HasLooked (s t : Known) (m n : ℕ) : Type 0 where
  pub later : m ≤ n
  pub kept : s.knows.lead.checks ≤ t.knows.lead.checks
  pub most : t.knows.lead.checks ≤ s.knows.lead.checks + (n - m)
  pub some : m < n → s.knows.lead.checks < t.knows.lead.checks
