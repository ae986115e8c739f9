-- What can be printed: each port and node that is named is there. Source: this project's own.
use Rattle.std.specs.Prelude.{◌≡◌, ◌≢◌, ℕ, ◌<◌, ◌/◌, ◌%◌, ◌^◌, List, [], length, All, Option, unwrap_or, ⊤}
use Rattle.pw_graph.specs.declared.ids.TheConstants.{DUMMY}
use Rattle.pw_graph.specs.declared.ids.PortId.{PortId}
use Rattle.pw_graph.specs.declared.plan.Plan.{Plan}
use Rattle.pw_graph.specs.declared.plan.PlanNode.{PlanNode}
use Rattle.pw_graph.specs.declared.plan.LinkLine.{LinkLine}
use Rattle.pw_graph.specs.declared.event.Event.{Event}
use Rattle.pw_graph.specs.declared.event.Event.TheVariants.{Begin, Start, Finish, Tick, End}
use Rattle.pw_graph.specs.KindPorts.{port_count}
use Rattle.cycle_trace.specs.NodeNames.{kind_at}

-- the node is there, and has a port of this number
pub record IsPort (nodes : List PlanNode) (at : PortId) : Type 0 where
  pub node : at.node < length nodes
  pub port : at.port < port_count (kind_at nodes at.node)

-- a line from a port to a port
pub record JoinsPorts (nodes : List PlanNode) (l : LinkLine) : Type 0 where
  pub from : IsPort nodes l.from
  pub to : IsPort nodes l.to

-- the number of a node that is there, or of the built-in driver; nodes may replace their names
abbrev pub IsNode : {X : Type 0} → List X → ℕ → Type 0
IsNode nodes node = node ≢ DUMMY → node < length nodes

-- the nodes of an event, late ones too, are there
abbrev pub NamesNodes : {X : Type 0} → List X → Event → Type 0
NamesNodes nodes (Begin cycle) = ⊤
NamesNodes nodes (Start cycle node) = IsNode nodes node
NamesNodes nodes (Finish cycle node) = IsNode nodes node
NamesNodes nodes (Tick cycle late) = (n : ℕ) → n < 64 → late / 2 ^ n % 2 ≡ 1
    → IsNode nodes n
NamesNodes nodes (End cycle) = ⊤

-- so it is with the lines of the plan, and with the events if a history is given
pub record IsPrintable (plan : Plan) (history : Option (List Event)) : Type 0 where
  pub lines : All (JoinsPorts plan.nodes) plan.lines
  pub events : All (NamesNodes plan.nodes) (unwrap_or history [])
