-- The `link` and `unlink` lines of a plan name ports of its nodes.
-- Source: this project's script grammar.
use Rattle.std.specs.Prelude.{◌<◌, ◌≤◌}
use Rattle.pw_graph.specs.declared.plan.LinkLine.{LinkLine}
use Rattle.pw_graph.specs.declared.plan.Plan.{Plan}
use Rattle.pw_graph.specs.KindPorts.{input_count, port_count}
use Rattle.pw_graph.specs.PlanForms.{kind_at}

-- a line joins an output to an input
pub record JoinsKinds (plan : Plan) (l : LinkLine) : Type 0 where
  pub behind : input_count (kind_at plan l.from.node) ≤ l.from.port
  pub from : l.from.port < port_count (kind_at plan l.from.node)
  pub to : l.to.port < input_count (kind_at plan l.to.node)
