-- A sink or meter has an input.
use Rattle.std.proofs.Common.{◌≡◌, true, get_or}
use Rattle.pw_graph.specs.declared.kind.Kind.TheVariants.{Dummy}
use Rattle.graph_lines.specs.Activity.{may_drive}
use Rattle.graph_plan.proofs.EndOfLemmas.{end_port}
use Rattle.graph_plan.proofs.plan_nodes.end_of.Goals as goal

pub form_in-requires-clause-port : goal.form_in-requires-clause-port
form_in-requires-clause-port c =
    let drives : may_drive (get_or c.args.graph.now.kinds c.args.node Dummy) ≡ true = cc in
    end_port c.args.graph.now.ports c.args.graph.now.kinds c.args.node c.requires drives
