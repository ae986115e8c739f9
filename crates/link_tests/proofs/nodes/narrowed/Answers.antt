-- An offer changes no kinds.
use Rattle.std.proofs.Common.{◌≡◌, ◌<◌, List, [], ◌∷◌, ◌++◌, sym, ap, ◌∙◌, subst, arith}
use Rattle.pw_graph.specs.declared.ids.PortId.{PortId}
use Rattle.port_model.specs.declared.port_state.Node.{Node}
use Rattle.port_model.specs.Offers.{new_node}
use Rattle.port_model.specs.PortState.{port_count_of}
use Rattle.port_model.specs.SoundPorts.{AreSoundNodes}
use Rattle.port_model.specs.Narrowing.{Narrows}
use Rattle.link_negotiation.proofs.MayBeGivenLemmas.{there}
use Rattle.link_tests.proofs.KeptLemmas.{narrow_keeps, counted_still, counted_added, counted_none}
use Rattle.link_tests.proofs.nodes.narrowed.Goals as goal

pub invariant_of-result-2 : goal.invariant_of-result-2
invariant_of-result-2 c =
    let port : PortId = record { node = 0; port = c.args.port } in
    let node : Node = new_node c.args.kind.now 0 0 in
    let one : c.add.new.self ≡ node ∷ [] = c.in_ok-add.ensures.ok ∙ ap (λ (ns : List Node). ns ++ node ∷ []) c.in_ok-ports.ensures in
    let inside = subst (λ (ns : List Node). c.args.port < port_count_of ns 0) (sym one) c.requires.port in
    let place = there c.add.new.self port (subst AreSoundNodes c.ports.view_is c.ports.invariant) inside in
    let narrowed = subst (λ (ns : List Node). Narrows c.add.new.self port c.args.file.now c.in_ok-_narrowed._narrowed ns)
    (sym c.ports-2.view_is) c.in_ok-_narrowed.ensures.ok in
    let first = counted_none c.in_ok-ports.ports c.new-inputs.result c.new-counts.result c.in_ok-ports.ensures c.new-inputs.ensures
    c.new-counts.ensures in
    let added = counted_added c.in_ok-ports.ports c.add.new.self c.new-inputs.result c.push.new.self c.new-counts.result c.push-2.new.self
    node _ _ c.inputs.ensures (omega (arith, c.inputs-3.ensures, c.outputs.ensures))
    c.in_ok-add.ensures.ok c.in_ok-push.ensures.ok c.in_ok-push-2.ensures.ok first in
    record {
      counted = counted_still c.add.new.self c.ports-2.inside.nodes c.push.new.self c.push-2.new.self
          (narrow_keeps c.add.new.self c.ports-2.inside.nodes port c.args.file.now c.in_ok-_narrowed._narrowed place narrowed) added;
    }
