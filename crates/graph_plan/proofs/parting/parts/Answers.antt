-- Each part has the plan of its own lines, and no link between parts is made or taken away.
use Rattle.graph_plan.proofs.linked_parts.BetweenLemmas.{parted_between}
use Rattle.graph_plan.proofs.linked_parts.PartedLemmas.{parted_nodes, parted_each, parted_sound, parted_fit, parted_joined}
use Rattle.graph_plan.proofs.parting.parts.Goals as goal

pub returns-clause-nodes : goal.returns-clause-nodes
returns-clause-nodes c = parted_nodes c.args.script.now c.requires.script c.requires.kinds c.requires.made c.args.ports c.requires.ports
    c.args.waves.now c.whole_parts.result c.whole_parts.ensures

pub returns-clause-each : goal.returns-clause-each
returns-clause-each c = parted_each c.args.script.now c.requires.script c.requires.kinds c.requires.made c.args.ports c.requires.ports
    c.args.waves.now c.whole_parts.result c.whole_parts.ensures

pub returns-clause-sound : goal.returns-clause-sound
returns-clause-sound c = parted_sound c.args.script.now c.requires.script c.requires.kinds c.requires.made c.args.ports c.requires.ports
    c.args.waves.now c.whole_parts.result c.whole_parts.ensures

pub returns-clause-fit : goal.returns-clause-fit
returns-clause-fit c = parted_fit c.args.script.now c.requires.script c.requires.kinds c.requires.made c.args.ports c.requires.ports
    c.args.waves.now c.requires.waves c.whole_parts.result c.whole_parts.ensures

pub returns-clause-joins : goal.returns-clause-joins
returns-clause-joins c = parted_joined c.args.script.now c.requires.script c.requires.kinds c.requires.made c.args.ports c.requires.ports
    c.args.waves.now c.whole_parts.result c.whole_parts.ensures

pub returns-clause-between : goal.returns-clause-between
returns-clause-between c = parted_between c.args.script.now c.requires.script c.requires.kinds c.requires.made c.args.ports c.requires.ports
    c.args.waves.now c.whole_parts.result c.whole_parts.ensures
