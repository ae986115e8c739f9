-- The expected answer of a command: the steps outside that it makes where nothing fails.
-- Source: this project's own.
use Rattle.std.specs.Prelude.{ℕ, List, [], ◌++◌, length, Option, Some, None, Result, Ok, Err, nat_le, if◌then◌else◌}
use Rattle.pw_outside.specs.Files.{Names}
use Rattle.command_frame.specs.Statuses.{Statuses}
use Rattle.command_frame.specs.declared.work.Work.{Work}

-- what a part of a command does up to its end: the places of its loads, in order, and what it gives
-- or how it refuses
pub record Expected (S T : Type 0) : Type 0 where
  pub loads : List ℕ
  pub outcome : Result T S

-- of a command: its loads; then, where it is not refused, its stores in order and its text
abbrev pub Answer : Type 0 → Type 0
Answer S = Expected S Work

abbrev pub refused : {S T : Type 0} → S → Expected S T
refused status = record { loads = []; outcome = Err status }

-- a part that ends after these loads, and one that goes on
abbrev pub ended : {S T : Type 0} → List ℕ → S → Expected S T
ended loads status = record { loads = loads; outcome = Err status }

abbrev pub gone_on : {S T : Type 0} → List ℕ → Expected S T → Expected S T
gone_on loads rest = record { loads = loads ++ rest.loads; outcome = rest.outcome }

-- what a load gives where it does not fail; a file of more bytes than the limit has a status
abbrev pub whole_or_long : {S : Type 0} → List ℕ → ℕ → S → Result (List ℕ) S
whole_or_long bytes limit long = if nat_le (length bytes) limit then Ok bytes else Err long

abbrev pub load_of_some : {S : Type 0} → Statuses S → Option (List ℕ) → ℕ → ℕ → S
    → Result (List ℕ) S
load_of_some statuses None limit place long = Err (statuses.absent place)
load_of_some statuses (Some bytes) limit place long = whole_or_long bytes limit long

unfoldable pub load_outcome : {S : Type 0} → Statuses S → Names → ℕ → List ℕ → ℕ → S
    → Result (List ℕ) S
load_outcome statuses names place name limit long =
    load_of_some statuses (names name) limit place long
