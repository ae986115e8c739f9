-- Rows of numbers in even steps, what two of them have in common, and congruences. Source:
-- congruences of elementary number theory.
use Rattle.std.specs.Prelude.{◌≡◌, ◌⊎◌, ℕ, ℤ, pos, ◌+◌, ◌*◌, ◌%◌, ◌<◌, ◌≤◌, ◌+ℤ◌, ◌*ℤ◌, ◌<ℤ◌}
use Rattle.std.specs.Prelude.{◌≤ℤ◌}
use Rattle.format_filter.specs.declared.progression.Row.{Row}
use Rattle.format_filter.specs.declared.progression.Numbers.{Numbers}
use Rattle.format_filter.specs.declared.progression.Numbers.TheVariants.{Nothing, One, Two, More}
use Rattle.format_filter.specs.declared.progression.Solutions.{Solutions}
use Rattle.format_filter.specs.Members.{IsReached}

-- the k for which k * step has the rest when it is divided by other: first + i * period, for i from
-- 0
pub record AreSolutions (step other rest : ℕ) (s : Solutions) : Type 0 where
  pub order : s.first < s.period
  pub bound : s.period ≤ other
  pub only : (k : ℕ) → (k * step) % other ≡ rest
      → (i : ℕ) × (k ≡ s.first + i * s.period)
  pub each : (i : ℕ) → ((s.first + i * s.period) * step) % other ≡ rest

-- a number of a row
abbrev pub IsIn : Row → ℤ → Type 0
IsIn row n = IsReached row.min row.step n × (n ≤ℤ row.max)

-- a number of those that are given by how many there are
abbrev pub IsOneOf : Numbers → ℤ → Type 0
IsOneOf Nothing n = ⊥
IsOneOf (One m) n = n ≡ m
IsOneOf (Two l m) n = (n ≡ l) ⊎ (n ≡ m)
IsOneOf (More row) n = IsIn row n

-- two are ascending; more than two end in the greatest of them
abbrev pub AreOrdered : Numbers → Type 0
AreOrdered Nothing = Unit {0}
AreOrdered (One m) = Unit {0}
AreOrdered (Two l m) = l <ℤ m
AreOrdered (More row) = (pos 0 <ℤ row.step)
    × ((k : ℕ) × (2 ≤ k) × (row.max ≡ row.min +ℤ (pos k *ℤ row.step)))

-- just those that two rows have in common
pub record AreInBoth (a b : Row) (found : Numbers) : Type 0 where
  pub only : (n : ℤ) → IsOneOf found n → IsIn a n × IsIn b n
  pub all : (n : ℤ) → IsIn a n → IsIn b n → IsOneOf found n
  pub ordered : AreOrdered found

-- just low + first, low + first + period, and so on, up to high
pub record AreFrom (low high : ℤ) (first period : ℕ) (found : Numbers) : Type 0 where
  pub only : (n : ℤ) → IsOneOf found n
      → ((i : ℕ) × (n ≡ low +ℤ pos (first + i * period))) × (n ≤ℤ high)
  pub all : (n : ℤ) (i : ℕ) → n ≡ low +ℤ pos (first + i * period) → n ≤ℤ high
      → IsOneOf found n
  pub ordered : AreOrdered found
