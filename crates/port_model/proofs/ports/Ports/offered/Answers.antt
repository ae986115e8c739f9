-- Shared values are numbers, and the format that a port has is sound.
use Rattle.port_model.proofs.SharingLemmas.{shares_plain}
use Rattle.port_model.proofs.ports.Ports.offered.Goals as goal

pub offered_freely-requires-clause-plain : goal.offered_freely-requires-clause-plain
offered_freely-requires-clause-plain c = shares_plain c.node_at-node.result.now c.node_at-node.ensures.sound
