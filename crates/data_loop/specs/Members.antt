-- The members of a loop in an epoch: its followers, each with its links, its pools and the widths
-- of its ports.
-- Source: PipeWire's documentation, "Graph Scheduling" (quantum); which loop has a node is this
-- project's own.
use Rattle.std.specs.Prelude.{ℕ, ◌+◌, ◌*◌, ◌==◌, ◌&&◌, Bool, true, false, not, nat_lt, List, filter, map, if◌then◌else◌}
use Rattle.std.specs.List.{list_any, enumerate_from}
use Rattle.pw_graph.specs.declared.plan.Epoch.{Epoch}
use Rattle.pw_graph.specs.declared.plan.Plan.{Plan}
use Rattle.pw_graph.specs.KindPorts.{input_count}
use Rattle.pw_graph.specs.PlanForms.{kind_at}
use Rattle.pw_graph.specs.Pools.{is_same_port, pools_of}
use Rattle.cycle_model.specs.Epochs.{channels_of}
use Rattle.cycle_model.specs.Mixing.{takes_part}
use Rattle.data_loop.specs.declared.member.Member.{Member}
use Rattle.data_loop.specs.turns.Ends.{fills_of}
use Rattle.node_progress.specs.Standing.{port_at, works_in}
use Rattle.node_progress.specs.NodeCycles.{output_channels}
use Rattle.data_loop.specs.Gathering.{inputs_of}

-- the samples of a quantum at an input, 0 where the kind has no such input
abbrev pub input_width : Plan → Epoch → ℕ → ℕ → ℕ
input_width plan e n i = if nat_lt i (input_count (kind_at plan n))
    then plan.quantum * channels_of e.forms (port_at n i) else 0

-- a link reads the output o of a node; the samples of a quantum there, 0 where none does
abbrev pub is_read : Plan → Epoch → ℕ → ℕ → Bool
is_read plan e n o =
    list_any (λ x. is_same_port x.port (port_at n (input_count (kind_at plan n) + o)))
    (pools_of e.shape)

abbrev pub output_width : Plan → Epoch → ℕ → ℕ → ℕ
output_width plan e n o = if is_read plan e n o then plan.quantum * output_channels plan e n o
    else 0

-- a member, by its node and its place among the loop's nodes
abbrev pub member_of : Plan → Epoch → ℕ → ℕ → Member
member_of plan e n at = record {
  node = n;
  at = at;
  inputs = inputs_of e.shape n;
  pools = fills_of e.shape n;
  first_output = input_count (kind_at plan n);
  first_width = input_width plan e n 0;
  second_width = input_width plan e n 1;
  left_width = output_width plan e n 0;
  right_width = output_width plan e n 1;
}

-- the node is a follower in the epoch; it drives it, and works in it
abbrev pub follows : Epoch → ℕ → Bool
follows e n = not (e.shape.driver == n) && takes_part e n

abbrev pub leads : Epoch → ℕ → Bool
leads e n = (e.shape.driver == n) && works_in e n

abbrev pub has_role : Epoch → Bool → ℕ → Bool
has_role e is_driver n = if is_driver then leads e n else follows e n

abbrev pub members_by : Plan → List ℕ → Epoch → Bool → List Member
members_by plan nodes e is_driver = map (λ x. member_of plan e x.1 x.0)
    (filter (λ x. has_role e is_driver x.1) (enumerate_from 0 nodes))

-- THE MEMBERS of an epoch, in the order of the loop's nodes, and its driver, where that is one of
-- them and works
abbrev pub members_of : Plan → List ℕ → Epoch → List Member
members_of plan nodes e = members_by plan nodes e false

abbrev pub drivers_of : Plan → List ℕ → Epoch → List Member
drivers_of plan nodes e = members_by plan nodes e true
