use Rattle.graph_lines.proofs.RehearsalLemmas.{rehearsed_sound}
use Rattle.graph_lines.proofs.graph.Graph.rehearse.Goals as goal

pub returns-clause-sound : goal.returns-clause-sound
returns-clause-sound c = rehearsed_sound c.args.waves.now c.args.self.now c.rehearse_line.new.self c.args.command.now c.rehearse_line.result
    c.requires.sound c.requires.line c.rehearse_line.ensures
