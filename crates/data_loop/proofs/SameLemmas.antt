-- What stays from call to call of a loop.
use Rattle.std.proofs.Common.{◌≡◌, ◌≢◌, ℕ, ◌<◌, List, length, get_or, sym, ◌∙◌}
use Rattle.node_state.specs.declared.node_state.NodeState.{NodeState}
use Rattle.data_loop.specs.declared.member.Member.{Member}
use Rattle.data_loop.specs.declared.rows.Rows.{Rows}
use Rattle.data_loop.specs.declared.epoch_state.EpochState.{EpochState}
use Rattle.data_loop.specs.Rooms.{IsSameRoom}
use Rattle.data_loop.specs.EpochStateParts.{IsSameEpochState}
use Rattle.data_loop.specs.EpochStates.{AreLeft}
use Rattle.data_loop.specs.Tries.{no_member}

pub same_on : {g h i : EpochState} → IsSameEpochState g h → IsSameEpochState h i → IsSameEpochState g i
same_on a b = record {
  members = b.members ∙ a.members;
  driver = b.driver ∙ a.driver;
  restarts = b.restarts ∙ a.restarts;
  places = b.places ∙ a.places;
  shapes = b.shapes ∙ a.shapes;
  table = b.table ∙ a.table;
}

pub room_on : {q r s : Rows} → IsSameRoom q r → IsSameRoom r s → IsSameRoom q s
room_on a b = record {
  sum_a = b.sum_a ∙ a.sum_a;
  sum_b = b.sum_b ∙ a.sum_b;
  a = b.a ∙ a.a;
  b = b.b ∙ a.b;
  left = b.left ∙ a.left;
  right = b.right ∙ a.right;
}

-- a change of the state of one member leaves those of the others
pub left_on : (members : List Member) (a b c : List NodeState) (at : ℕ)
    → ((i : ℕ) × (i < length members) × ((get_or members i no_member).at ≡ at))
    → AreLeft members a b → ((x : ℕ) (d : NodeState) → x ≢ at → get_or c x d ≡ get_or b x d) → AreLeft members a c
left_on members a b c at own before one x d apart =
    one x d (λ is. apart own.0 no_member own.1 (own.2 ∙ sym is)) ∙ before x d apart
