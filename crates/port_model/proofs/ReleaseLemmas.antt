-- A node whose ports give up their formats, and a port with another count of buffers.
use Rattle.std.proofs.Common.{◌≡◌, ℕ, ◌<◌, ◌≤◌, List, length, get_or, map, Option, Some, None, refl, sym, ap, ◌∙◌, subst}
use Rattle.std.specs.Prelude.{slice_get}
use Rattle.std.specs.Option.{option_map}
use Rattle.std.proofs.Math.ListN.{set}
use Rattle.std.proofs.lemmas.Option.{same_Some, none-some, slice_get-map}
use Rattle.std.proofs.lemmas.List.{length-map}
use Rattle.pw_lists.specs.Refilled.{refilled}
use Rattle.pw_graph.specs.SoundShape.{IsBetween}
use Rattle.pw_graph.specs.declared.ids.PortId.{PortId}
use Rattle.port_model.specs.declared.port_state.PortState.{PortState}
use Rattle.port_model.specs.declared.port_state.Node.{Node}
use Rattle.port_model.specs.PortState.{with_port, with_released, released, buffered}
use Rattle.port_model.specs.SoundPorts.{AreSoundNodes, IsSoundNode, IsSoundPort}
use Rattle.port_model.proofs.ChangedLemmas.{length-changed, All-changed, written, refilled_whole}
use Rattle.port_model.proofs.NodeLemmas.{node_changed, nodes_changed}

-- what is in the mapped list was in the list
map_origin : (f : PortState → PortState) (o : Option PortState) (s : PortState) → option_map f o ≡ Some s → (t : PortState) × (o ≡ Some t)
    × (s ≡ f t)
map_origin f (Some t) s e = (t, refl, sym (same_Some (f t) s e))
map_origin f None s e = absurd (none-some s e)

released_origin : (ports : List PortState) (i : ℕ) (s : PortState) → slice_get (map released ports) i ≡ Some s → (t : PortState)
    × (slice_get ports i ≡ Some t) × (s ≡ released t)
released_origin ports i s e = map_origin released (slice_get ports i) s (sym (slice_get-map released ports i) ∙ e)

node_released : (node : Node) → IsSoundNode node → IsSoundNode (record node { ports = map released node.ports })
node_released node sound = record {
  kind = sound.kind;
  count = length-map node.ports released ∙ sound.count;
  ports = λ i s e.
      let w = released_origin node.ports i s e in
      let old = sound.ports i w.0 w.1 in
      subst (IsSoundPort node.kind i) (sym w.2) (record { own = old.own; format = tt; buffers = old.buffers });
  agree = λ i j s t e d g h key p q shared.
      let w = released_origin node.ports i s e in
      absurd (none-some g (sym (ap (λ (u : PortState). u.format) w.2) ∙ p));
}

pub nodes_released : (nodes : List Node) (n : ℕ) → AreSoundNodes nodes → AreSoundNodes (with_released nodes n)
nodes_released nodes n sound = record {
  few = subst (λ (k : ℕ). k ≤ 63) (sym (length-changed nodes n (λ node. record node { ports = map released node.ports }))) sound.few;
  each = All-changed IsSoundNode nodes n (λ node. record node { ports = map released node.ports }) sound.each
      (λ node e. node_released node);
}

-- the write of a release
pub release_written : (nodes seen : List Node) (n : ℕ) (d : Node) (ports : List PortState) → seen ≡ nodes → n < length nodes
    → ports ≡ map released (get_or seen n d).ports
    → refilled nodes (set seen n (record (get_or seen n d) { ports = refilled (get_or seen n d).ports ports })) ≡ with_released nodes n
release_written nodes seen n d ports same within e =
    let node = get_or seen n d in
    let count : length ports ≡ length node.ports = ap length e ∙ length-map node.ports released in
    let own : refilled node.ports ports ≡ map released node.ports = refilled_whole node.ports ports count ∙ e in
    written nodes seen n d (record node { ports = refilled node.ports ports })
    (λ node. record node { ports = map released node.ports }) same within (ap (λ (ps : List PortState). record node { ports = ps }) own)

pub nodes_buffered : (nodes : List Node) (port : PortId) (n : ℕ) → AreSoundNodes nodes → IsBetween 1 8 n
    → AreSoundNodes (with_port nodes port (buffered n))
nodes_buffered nodes port n sound range =
    nodes_changed nodes port (buffered n) sound (λ node here whole.
    node_changed node port.port (buffered n) whole
    (λ s e. let old = whole.ports port.port s e in (
      record { own = old.own; format = old.format; buffers = range },
      whole.agree port.port port.port s s e e,
    ))
    (λ s t k e d. (whole.agree port.port k s t e d, whole.agree k port.port t s d e)))
