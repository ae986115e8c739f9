use Rattle.graph_lines.proofs.FreshLemmas.{channels_one}
use Rattle.graph_lines.proofs.graph.Graph.channels_in.Goals as goal

pub returns-in-Some-clause-only : goal.returns-in-Some-clause-only
returns-in-Some-clause-only c = let first = c.has_first_input.ensures.0 c.if-not-has_first_input.false in
    channels_one c.args.self.now c.args.node c.in-Some._rate c.in-Some.channels c.requires.sound.ports first.0 first.1 c.in-Some.ensures
