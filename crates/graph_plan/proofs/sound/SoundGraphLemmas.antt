-- Nodes and links of a sound graph: how many there are, and which have formats.
use Rattle.std.proofs.Common.{◌≡◌, inl, inr, ℕ, ◌<◌, ◌≤◌, length, get_or, sym, ap, ◌∙◌, subst, arith}
use Rattle.std.specs.Prelude.{Contains}
use Rattle.std.proofs.lemmas.List.{length-map, get_or_past}
use Rattle.std.proofs.lemmas.Bool.{cases_lt, both_ways}
use Rattle.std.proofs.lemmas.List.Elements.{All-contains}
use Rattle.pw_graph.specs.declared.ids.PortId.{PortId}
use Rattle.pw_graph.specs.declared.kind.Kind.{Kind}
use Rattle.pw_graph.specs.declared.kind.Kind.TheVariants.{Dummy}
use Rattle.pw_graph.specs.KindPorts.{input_count, port_count}
use Rattle.pw_graph.specs.KindRanges.{IsChannels, MayHaveRate, MayHaveChannels}
use Rattle.port_model.specs.declared.port_state.Node.{Node}
use Rattle.port_model.specs.PortState.{IsPort}
use Rattle.port_model.specs.SoundPorts.{IsSoundNode}
use Rattle.port_model.proofs.NodeLemmas.{at_place, at_port}
use Rattle.port_model.proofs.FormLemmas.{rate_in_range, channels_in_range}
use Rattle.link_negotiation.proofs.MayBeGivenLemmas.{there}
use Rattle.graph_lines.specs.declared.graph.Graph.{Graph}
use Rattle.graph_lines.specs.declared.wire.Wire.{Wire}
use Rattle.graph_lines.specs.Activity.{standing, nobody, HasWire}
use Rattle.graph_lines.specs.Forms.{IsFormOfPort, FormIn}
use Rattle.graph_lines.specs.Fresh.{ChannelsIn, IsFresh}
use Rattle.graph_plan.specs.working.SoundWires.{IsSoundWire}
use Rattle.graph_plan.specs.working.Remembering.{HasSomeFormat}
use Rattle.graph_plan.specs.working.SoundGraph.{IsSoundGraph}
use Rattle.graph_plan.proofs.sound.FormLemmas.{one_form, port_count_is, kind_at_is, formatted_some}
use Rattle.graph_plan.proofs.sound.ActiveLemmas.{there_below}
use Rattle.graph_plan.proofs.sound.RangeLemmas.{few_channels}

module _ (count : ℕ) (g : Graph) (sound : IsSoundGraph count g) where
  -- how many nodes there are
  pub few_nodes : length g.kinds ≤ 63
  few_nodes = let e = ap length sound.kinds in let few = sound.ports.few in omega (arith, few, e, length-map g.ports (λ (n : Node). n.kind))

  pub count_within : count ≤ length g.kinds
  count_within = let l = sound.made.within in let e = sound.nodes in omega (arith, l, e)

  -- a link
  pub wire_at : (w : Wire) → Contains g.wires w → IsSoundWire g.kinds g.ports w
  wire_at w c = All-contains (IsSoundWire g.kinds g.ports) g.wires w sound.wires.each c

  pub port_there : (port : PortId) → port.port < port_count (get_or g.kinds port.node Dummy) → IsPort g.ports port
  port_there port h = subst (λ (n : ℕ). port.port < n) (sym (port_count_is g.ports g.kinds sound.kinds port.node)) h

  input_port : (port : PortId) → port.port < input_count (get_or g.kinds port.node Dummy) → port.port < port_count (get_or g.kinds port.node Dummy)
  input_port port h = omega (arith, h)

  pub from_there : (w : Wire) → IsSoundWire g.kinds g.ports w → IsPort g.ports w.from
  from_there w s = port_there w.from s.from.1

  pub to_there : (w : Wire) → IsSoundWire g.kinds g.ports w → IsPort g.ports w.to
  to_there w s = port_there w.to (input_port w.to s.to)

  -- a node with a link has a format
  pub wire_format : (n : ℕ) → HasWire g.wires n → HasSomeFormat g.ports n
  wire_format n h = let s = wire_at h.0 h.1 in elim h.2 [
    | inl e ↦ subst (HasSomeFormat g.ports) e
        (formatted_some g.ports sound.ports h.0.from s.rate s.channels (from_there h.0 s) s.from_format)
    | inr e ↦ subst (HasSomeFormat g.ports) e
        (formatted_some g.ports sound.ports h.0.to s.rate s.channels (to_there h.0 s) s.to_format)
  ]

  pub wire_made : (n : ℕ) → HasWire g.wires n → n < count
  wire_made n h =
      let l = All-contains (λ (w : Wire). (w.from.node < count) × (w.to.node < count)) g.wires h.0 sound.made.wires_at h.1 in
      elim h.2 [ inl e ↦ omega (arith, l.0, e) | inr e ↦ omega (arith, l.1, e) ]

  -- a port that is there is of one of the nodes
  pub port_below : (port : PortId) → IsPort g.ports port → port.node < length g.kinds
  port_below port is = there_below g.kinds port.node port.port
      (subst (λ (n : ℕ). port.port < n) (port_count_is g.ports g.kinds sound.kinds port.node) is)

  -- the numbers of a form
  pub form_ranges : (port : PortId) (rate channels : ℕ) → FormIn g.ports port rate channels
      → MayHaveRate (get_or g.kinds port.node Dummy) rate × MayHaveChannels (get_or g.kinds port.node Dummy) port.port channels
      × IsChannels channels
  form_ranges port rate channels f =
      let t = there g.ports port sound.ports f.0 in
      let node = at_place IsSoundNode g.ports port.node t.node sound.ports.each t.node_is in
      let own = at_port (IsFormOfPort rate channels) g.ports port t.node t.state t.node_is t.state_is f.1 in
      let kind = kind_at_is g.ports g.kinds sound.kinds port.node t.node t.node_is in
      let c = channels_in_range t.node port.port t.state channels node t.sound own.0.1 in (
        subst (λ (k : Kind). MayHaveRate k rate) kind (rate_in_range t.node port.port t.state rate node t.sound own.0.0),
        subst (λ (k : Kind). MayHaveChannels k port.port channels) kind c,
        few_channels t.node.kind port.port channels node.kind c,
      )

  -- the channels of a node's first input are one number
  pub one_channels : (n a b : ℕ) → ChannelsIn g n a → ChannelsIn g n b → a ≡ b
  one_channels n a b (inl h) (inl k) =
      (one_form g.ports sound.ports (record { node = n; port = 0 }) h.rate a k.rate b h.form k.form).1
  one_channels n a b (inl h) (inr k) = absurd (k.1 a h)
  one_channels n a b (inr h) (inl k) = absurd (h.1 b k)
  one_channels n a b (inr h) (inr k) = h.0 ∙ sym k.0

  -- what is said of a number past the nodes
  pub past_nodes : (n : ℕ) → length g.nodes ≤ n → standing g.nodes n ≡ nobody
  past_nodes n past = get_or_past g.nodes n nobody past

  -- a fresh node is one of the nodes
  pub fresh_below : (n channels : ℕ) → ChannelsIn g n channels → IsFresh g n channels → n < length g.nodes
  fresh_below n channels in' fresh = elim (cases_lt n (length g.nodes)) [ inl l ↦ l | inr past ↦ absurd (go (past_nodes n past) in' fresh) ] where
    go : standing g.nodes n ≡ nobody → ChannelsIn g n channels → IsFresh g n channels → ⊥
    go e c (inl gave) = both_ways (standing g.nodes n).gave_up (ap (λ (s : _). s.gave_up) e) gave
    go e (inl h) (inr other) = both_ways (standing g.nodes n).there (ap (λ (s : _). s.there) e) h.there
    go e (inr h) (inr other) = other (h.0 ∙ sym (ap (λ (s : _). s.told) e))
