-- What a seat learns by a step: the view after it, by the number found, and a fact about that
-- number. Source: this project's own.
use Rattle.std.specs.Prelude.{◌≡◌, ℕ, []}
use Rattle.atomic_table.specs.Table.{Me}
use Rattle.board_rule.specs.declared.view.Owners.{Owners}
use Rattle.board_rule.specs.declared.view.View.{View}
use Rattle.board_rule.specs.View.{resting, no_trail}

abbrev pub Leaves : {S : Type 0} → (ℕ → View) → Me S View → ℕ → Me S View → Type 0
Leaves after me found m = (m.0 ≡ after found) × (m.1 ≡ me.1)

abbrev pub Learns : {S : Type 0} → (ℕ → View) → (ℕ → Type 0) → Me S View → ℕ
    → Me S View → Type 0
Learns after says me found m = (m.0 ≡ after found) × (m.1 ≡ me.1) × says found

-- no seat has it: the view of a step that is not picked
abbrev no_owners : Owners
no_owners = record { nodes = []; writes = []; reads = []; blocks = [] }

abbrev pub no_view : View
no_view = record {
  number = 0;
  split = 0;
  lead = resting 0;
  nodes = [];
  writes = [];
  reads = [];
  words_read = [];
  blocks = [];
  reclaimed = [];
  owners = no_owners;
  trail = no_trail;
  expect = [];
}
