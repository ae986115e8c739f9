-- A new node is sound.
use Rattle.std.proofs.Common.{sym, subst, ◌∷◌, ◌++◌, [], List, length, ◌<◌}
use Rattle.port_model.specs.declared.port_state.Node.{Node}
use Rattle.port_model.specs.SoundPorts.{AreSoundNodes}
use Rattle.port_model.proofs.OfferLemmas.{nodes_added, pushed}
use Rattle.port_model.proofs.ports.Ports.add.Goals as goal

pub invariant_of-self : goal.invariant_of-self
invariant_of-self c =
    let nodes = c.self.inside.nodes in
    let room = subst (λ (ns : List Node). length ns < 63) (sym c.self.view_is) c.requires.room in
    let added = nodes_added nodes c.args.kind.now c.args.rate c.args.channels c.self.invariant room c.requires.kind c.requires.file in
    pushed AreSoundNodes c.push.result c.push.new.self nodes
    (nodes ++ c.in_ok-node.node ∷ []) c.push.ensures.ok c.push.ensures.err c.self.invariant
    (subst (λ (n : Node). AreSoundNodes (nodes ++ n ∷ [])) (sym c.in_ok-node.ensures) added)
