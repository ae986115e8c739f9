-- What is passed is copied.
use Rattle.std.proofs.Common.{◌≡◌, take}
use Rattle.port_model.proofs.copying.copy_nodes.Given as goal

abbrev pub invariant-loop-node : goal.invariant-loop-node
invariant-loop-node l = l.copied ≡ take l.node-index l.nodes
