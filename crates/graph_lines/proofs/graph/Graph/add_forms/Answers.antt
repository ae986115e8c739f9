use Rattle.std.proofs.Common.{◌≡◌, List, ap, sym, ◌∙◌, arith}
use Rattle.std.specs.Prelude.{slice_index_or}
use Rattle.pw_graph.specs.declared.kind.Kind.{Kind}
use Rattle.pw_graph.specs.declared.kind.Kind.TheVariants.{Dummy}
use Rattle.pw_graph.specs.KindPorts.{port_count}
use Rattle.port_model.specs.PortState.{port_count_of}
use Rattle.graph_lines.proofs.GatheringLemmas.{node_done}
use Rattle.graph_lines.proofs.PortLemmas.{ports_by_kind}
use Rattle.graph_lines.proofs.graph.Graph.add_forms.Goals as goal

pub add_form-requires-clause-port : goal.add_form-requires-clause-port
add_form-requires-clause-port c =
    let all : c.port_count-port-end.result ≡ port_count_of c.args.self.now.ports c.args.node = c.port_count-port-end.ensures
    ∙ (ap (λ (ks : List Kind). port_count (slice_index_or ks c.args.node Dummy)) c.as_slice.ensures
    ∙ sym (ports_by_kind c.args.self.now.ports c.args.self.now.kinds c.args.node c.requires.sound.kinds)) in
    let below = c.loop-port-test.true in omega (arith, all, below)

pub returns : goal.returns
returns c =
    let all : c.port_count-port-end.result ≡ port_count_of c.args.self.now.ports c.args.node = c.port_count-port-end.ensures
    ∙ (ap (λ (ks : List Kind). port_count (slice_index_or ks c.args.node Dummy)) c.as_slice.ensures
    ∙ sym (ports_by_kind c.args.self.now.ports c.args.self.now.kinds c.args.node c.requires.sound.kinds)) in
    let past = c.loop-port-test.false in let end = c.loop-port.auto.port-end in
    node_done c.args.self.now.ports c.args.here.now c.requires.sound.ports (record { node = c.args.node; port = c.loop-port.port })
    c.loop-port.forms c.loop-port.invariant (omega (arith, all, past, end))
