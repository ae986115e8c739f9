use Rattle.std.proofs.Common.{◌∙◌}
use Rattle.graph_lines.proofs.WireLemmas.{any_wire}
use Rattle.graph_lines.proofs.commands.has_wire.Goals as goal

pub returns : goal.returns
returns c = c.any_at.ensures ∙ any_wire c.args.wires.now c.args.node
