-- A try of a member of a loop: what it does.
-- Source: PipeWire's documentation, "Graph Scheduling"; the calls are this project's own.
use Rattle.std.specs.Prelude.{◌≡◌, ◌≢◌, ℕ, [], slice_index_or}
use Rattle.pw_graph.specs.Words.{triggered_word}
use Rattle.board_rule.specs.Layout.{BoardLayout, last}
use Rattle.board_rule.specs.View.{node_of}
use Rattle.board_rule.specs.Steps.{tried}
use Rattle.data_loop.specs.declared.member.Member.{Member}
use Rattle.data_loop.specs.declared.epoch_state.EpochState.{EpochState}
use Rattle.data_loop.specs.declared.tried.Tried.{Tried}
use Rattle.data_loop.specs.declared.tried.Tried.TheVariants.{Ended, NotYet, Ran}
use Rattle.data_loop.specs.turns.Turning.{HasTurned}

-- the member at an index
abbrev pub no_member : Member
no_member = record {
  node = 0;
  at = 0;
  inputs = [];
  pools = [];
  first_output = 0;
  first_width = 0;
  second_width = 0;
  left_width = 0;
  right_width = 0;
}

abbrev pub member_at : EpochState → ℕ → Member
member_at g i = slice_index_or g.members i no_member

-- a try of the node n
abbrev pub HasTried : BoardLayout → EpochState → ℕ → Tried → EpochState → Type 0
HasTried p old n Ended new =
    ((node_of old.seat.knows (p.index n)).next ≡ last p) × (new.seat.knows ≡ old.seat.knows)
HasTried p old n (NotYet found) new =
    ((node_of old.seat.knows (p.index n)).next ≢ last p)
    × (found ≢ triggered_word (node_of old.seat.knows (p.index n)).next)
    × (new.seat.knows ≡ tried p old.seat.knows (p.index n) found)
HasTried p old n Ran new =
    HasTurned p old.seat.knows old.own (p.index n) new.seat.knows new.own
