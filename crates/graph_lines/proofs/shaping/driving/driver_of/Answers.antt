use Rattle.graph_lines.proofs.DrivingLemmas.{best_drives, none_drives}
use Rattle.std.proofs.Common.{subst}
use Rattle.std.specs.Prelude.{Option}
use Rattle.graph_lines.specs.declared.shaping.driving.Candidate.{Candidate}
use Rattle.graph_lines.specs.Searching.{IsBest}
use Rattle.graph_lines.proofs.shaping.driving.driver_of.Goals as goal

pub returns-in-Some : goal.returns-in-Some
returns-in-Some c = best_drives c.args.kinds.now c.args.nodes.now c.loop-node.node c.in-Some.first c.loop-node-test.false
    (subst (λ (o : Option Candidate). IsBest c.args.kinds.now c.args.nodes.now c.loop-node.node o) c.in-Some.is c.loop-node.invariant)

pub returns-in-None : goal.returns-in-None
returns-in-None c = none_drives c.args.kinds.now c.args.nodes.now c.loop-node.node c.loop-node-test.false
    (subst (λ (o : Option Candidate). IsBest c.args.kinds.now c.args.nodes.now c.loop-node.node o) c.in-None.is c.loop-node.invariant)
