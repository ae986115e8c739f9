-- The rule of a parker: all ways together have taken at most as many tokens as they gave, and one
-- that is still there was given too. So no rest ends but by a token that some way gave.
-- Source: this project's own; the parker is crossbeam's Parker.
use Rattle.std.specs.Prelude.{ℕ, ◌+◌, ◌≤◌, Bool, true, false, List}
use Rattle.std.specs.List.{sum_by}
use Rattle.ready_queues.specs.declared.parking.Woken.{Woken}

abbrev pub woken : ℕ → ℕ → Woken
woken given taken = record { given = given; taken = taken }

-- n tokens more were given, or taken
abbrev pub given_on : Woken → ℕ → Woken
given_on w n = woken (w.given + n) w.taken

abbrev pub taken_on : Woken → ℕ → Woken
taken_on w n = woken w.given (w.taken + n)

-- a token that is there
abbrev pub worth : Bool → ℕ
worth true = 1
worth false = 0

abbrev pub IsParked : Bool → List Woken → Type 0
IsParked token views = sum_by (λ w. w.taken) views + worth token ≤ sum_by (λ w. w.given) views
