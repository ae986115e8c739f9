use Rattle.graph_lines.proofs.RanLemmas.{done_ran}
use Rattle.graph_lines.proofs.StepLemmas.{done_sound}
use Rattle.graph_lines.proofs.graph.Graph.step.Goals as goal

pub returns-clause-sound : goal.returns-clause-sound
returns-clause-sound c = done_sound c.args.waves.now c.args.self.now c.step_line.new.self c.args.command.now c.step_line.result c.requires.sound
    c.requires.line c.step_line.ensures

pub returns-clause-ran : goal.returns-clause-ran
returns-clause-ran c = done_ran c.args.waves.now c.args.self.now c.step_line.new.self c.args.command.now c.step_line.result c.requires.ran
    c.step_line.ensures
