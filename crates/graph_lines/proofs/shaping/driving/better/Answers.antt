use Rattle.graph_lines.proofs.DrivingLemmas.{best_stays}
use Rattle.std.proofs.Common.{subst, rules}
use Rattle.std.specs.Prelude.{Option}
use Rattle.graph_lines.specs.declared.shaping.driving.Candidate.{Candidate}
use Rattle.graph_lines.specs.Searching.{IsBest}
use Rattle.graph_lines.proofs.shaping.driving.better.Goals as goal

pub returns-else-first-priority : goal.returns-else-first-priority
returns-else-first-priority c = best_stays c.args.kinds.now c.args.nodes.now c.args.node c.in-Some-Some.first c.in-Some-Some.priority
    (search rules) c.if-first-priority.false (subst (λ (o : Option Candidate). IsBest c.args.kinds.now c.args.nodes.now c.args.node o) c.in-Some-Some.is-0 c.requires.best)
