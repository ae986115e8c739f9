-- The format is within what the port offers and has the values that its node shares.
use Rattle.std.proofs.Common.{sym, subst, List}
use Rattle.port_model.specs.declared.port_state.Node.{Node}
use Rattle.port_model.specs.PortState.{AtPort}
use Rattle.port_model.specs.SoundPorts.{AreSoundNodes, MayTake}
use Rattle.port_model.proofs.NodeLemmas.{at_port}
use Rattle.port_model.proofs.TakingLemmas.{nodes_taken}
use Rattle.port_model.proofs.ports.Ports.set_format.Goals as goal

pub invariant_of-self : goal.invariant_of-self
invariant_of-self c =
    let nodes = c.self.inside.nodes in
    subst AreSoundNodes (sym c.put_format.ensures)
    (nodes_taken nodes c.args.port c.args.format c.self.invariant
    (λ n s e d. at_port (MayTake c.args.format) nodes c.args.port n s e d
    (subst (λ (ns : List Node). AtPort ns c.args.port (MayTake c.args.format)) (sym c.self.view_is) c.requires.format)))
