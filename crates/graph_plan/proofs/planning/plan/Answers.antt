-- What is planned is sound, its waves fit, its lines join outputs to inputs, and its streams are the script's.
use Rattle.graph_plan.proofs.PlannedLemmas.{planned_sound, planned_fit, planned_joined}
use Rattle.graph_plan.proofs.streams.PlannedStreamsLemmas.{planned_streams}
use Rattle.graph_plan.proofs.planning.plan.Goals as goal

pub returns-clause-sound : goal.returns-clause-sound
returns-clause-sound c = planned_sound c.args.script.now c.requires.script c.requires.kinds c.requires.made c.args.ports c.requires.ports
    c.args.waves.now c.whole_plan.result c.whole_plan.ensures

pub returns-clause-fit : goal.returns-clause-fit
returns-clause-fit c = planned_fit c.args.script.now c.requires.script c.requires.kinds c.requires.made c.args.ports c.requires.ports
    c.args.waves.now c.requires.waves c.whole_plan.result c.whole_plan.ensures

pub returns-clause-joins : goal.returns-clause-joins
returns-clause-joins c = planned_joined c.args.script.now c.requires.script c.requires.kinds c.requires.made c.args.ports c.requires.ports
    c.args.waves.now c.whole_plan.result c.whole_plan.ensures

pub returns-clause-streams : goal.returns-clause-streams
returns-clause-streams c = planned_streams c.args.script.now c.requires.script c.requires.kinds c.requires.made c.args.ports c.requires.ports
    c.args.waves.now c.whole_plan.result c.whole_plan.ensures
