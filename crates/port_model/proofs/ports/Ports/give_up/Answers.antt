-- Without formats the ports are sound.
use Rattle.std.proofs.Common.{sym, subst}
use Rattle.port_model.specs.SoundPorts.{AreSoundNodes}
use Rattle.port_model.proofs.ReleaseLemmas.{nodes_released}
use Rattle.port_model.proofs.ports.Ports.give_up.Goals as goal

pub invariant_of-self : goal.invariant_of-self
invariant_of-self c = subst AreSoundNodes (sym c.release_node.ensures) (nodes_released c.self.inside.nodes c.args.node c.self.invariant)
