-- A count from 1 to 8 is sound.
use Rattle.std.proofs.Common.{sym, subst}
use Rattle.port_model.specs.SoundPorts.{AreSoundNodes}
use Rattle.port_model.proofs.ReleaseLemmas.{nodes_buffered}
use Rattle.port_model.proofs.ports.Ports.set_buffers.Goals as goal

pub invariant_of-self : goal.invariant_of-self
invariant_of-self c = subst AreSoundNodes (sym c.put_buffers.ensures)
    (nodes_buffered c.self.inside.nodes c.args.port c.args.n c.self.invariant c.requires.range)
