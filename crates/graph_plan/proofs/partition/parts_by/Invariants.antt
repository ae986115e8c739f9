-- The parts of the nodes so far.
use Rattle.graph_plan.proofs.linked_parts.PartitionLemmas.{ArePartsBelow}
use Rattle.graph_plan.proofs.partition.parts_by.Given as goal

abbrev pub invariant-loop-node : goal.invariant-loop-node
invariant-loop-node l = ArePartsBelow l.count l.made l.node l.parts
