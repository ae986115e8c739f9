-- All ports of a node that has a link have forms, and share what their kind shares.
use Rattle.std.proofs.Common.{◌≡◌, ℕ, ◌<◌, ◌≤◌, List, Option, Some, None, true, false, refl, sym, ap, ◌∙◌, subst, arith}
use Rattle.std.specs.Prelude.{slice_get, IsSome, option_and_then, if◌then◌else◌}
use Rattle.std.specs.Option.{option_or}
use Rattle.std.proofs.lemmas.Option.{same_Some, none-some, slice_get_within}
use Rattle.pod_codec.specs.declared.pod.Pod.{Pod}
use Rattle.pw_graph.specs.declared.ids.PortId.{PortId}
use Rattle.pw_graph.specs.declared.kind.Kind.{Kind}
use Rattle.pw_graph.specs.declared.kind.Kind.TheVariants.{Source, Square, Gain, Mix2, Delay, Map, Split, Sink, Meter, Dummy}
use Rattle.pw_graph.specs.KindPorts.{port_count}
use Rattle.pw_graph.specs.KindRanges.{IsSinkOrMeter, MayHaveChannels}
use Rattle.format_filter.specs.declared.choice.Choice.{Choice}
use Rattle.format_filter.specs.declared.format.Field.{Field}
use Rattle.format_filter.specs.declared.format.Format.{Format}
use Rattle.format_filter.specs.Members.{IsMember}
use Rattle.port_model.specs.declared.port_state.PortState.{PortState}
use Rattle.port_model.specs.declared.port_state.Node.{Node}
use Rattle.port_model.specs.PortState.{IsPort}
use Rattle.port_model.specs.Offers.{int_of, is_shared_key, FixesChannels}
use Rattle.port_model.specs.Forms.{only_of, value_at, first_format, shared_value, value_of, HasForm}
use Rattle.port_model.specs.SoundPorts.{Admits, IsSoundPort, IsSoundNode, AreSoundNodes}
use Rattle.port_model.proofs.NodeLemmas.{at_place, at_port, port_at}
use Rattle.port_model.proofs.ValueLemmas.{own_value, free_value, some_of, some_is, only_value}
use Rattle.port_model.proofs.FormLemmas.{has_form}
use Rattle.link_negotiation.proofs.MayBeGivenLemmas.{there}
use Rattle.graph_lines.specs.Forms.{IsFormOfPort, FormIn}
use Rattle.graph_plan.specs.working.Remembering.{HasSomeFormat}
use Rattle.graph_plan.proofs.sound.FormLemmas.{one_number, rate_shared, IsFormattedNode, value_shared}

-- what fixes the channels of a port: they are shared, or the kind's, or the node has one port
pub data Fixed (kind : Kind) : Type 0 where
  shared : is_shared_key kind 65540 ≡ true → Fixed kind
  single : is_shared_key kind 65540 ≡ false → FixesChannels kind → Fixed kind
  alone : port_count kind ≤ 1 → Fixed kind

fixed : (kind : Kind) → Fixed kind
fixed Source = alone (omega arith)
fixed (Square rate channels period amp) = single refl tt
fixed (Gain g) = shared refl
fixed (Mix2 ga gb) = shared refl
fixed (Delay frames) = shared refl
fixed (Map channels list) = single refl tt
fixed Split = single refl tt
fixed Sink = alone (omega arith)
fixed Meter = alone (omega arith)
fixed Dummy = alone (omega arith)

end_alone : (kind : Kind) → IsSinkOrMeter kind → port_count kind ≤ 1
end_alone Sink h = omega arith
end_alone Meter h = omega arith
end_alone Source h = absurd h
end_alone (Square rate channels period amp) h = absurd h
end_alone (Gain g) h = absurd h
end_alone (Mix2 ga gb) h = absurd h
end_alone (Delay frames) h = absurd h
end_alone (Map channels list) h = absurd h
end_alone Split h = absurd h
end_alone Dummy h = absurd h

-- the one value of an own offer is a number
own_number : (s : PortState) (P : ℕ → Type 0) → Admits s.own.fields 65540 P → IsSome (value_at s.own.fields 65540)
    → (c : ℕ) × (value_at s.own.fields 65540 ≡ Some (int_of c))
own_number s P a h =
    let v = some_of (value_at s.own.fields 65540) h in
    let only : only_of a.field.choice ≡ Some v.0 = sym (ap (option_and_then (λ (f : Field). only_of f.choice)) a.own) ∙ v.1 in
    let n = a.numbers v.0 (subst (λ (c : Choice). IsMember c v.0) (sym (only_value a.field.choice v.0 only)) refl) in
    (n.0, v.1 ∙ ap (λ (x : Pod). Some x) n.1)

-- a value that is not shared
pub not_shared : (node : Node) (key : ℕ) → is_shared_key node.kind key ≡ false → shared_value node key ≡ None
not_shared node key e =
    ap (λ (b : _). if b then option_and_then (λ (f : Format). value_at f.fields key) (first_format node.ports) else None) e

-- a port of a node one of whose ports has a format
module _ (node : Node) (sound : IsSoundNode node) (h : IsFormattedNode node) (i : ℕ) (s : PortState) (at : slice_get node.ports i ≡ Some s) where
  port : IsSoundPort node.kind i s
  port = sound.ports i s at

  -- its number is below the kind's count
  inside : (k : ℕ) (t : PortState) → slice_get node.ports k ≡ Some t → k < port_count node.kind
  inside k t e = let l = slice_get_within node.ports k t e in let c = sound.count in omega (arith, l, c)

  -- where the node has one port, that is it
  is_it : port_count node.kind ≤ 1 → IsSome s.format
  is_it one =
      let a = inside i s at in
      let b = inside h.place h.state h.there in
      let same : i ≡ h.place = omega (arith, a, b, one) in
      let state : s ≡ h.state = same_Some s h.state (sym at ∙ (ap (slice_get node.ports) same ∙ h.there)) in
      some_is s.format h.format (ap (λ (t : PortState). t.format) state ∙ h.has)

  rate_of : (rate : ℕ) × (value_of node s 65539 ≡ Some (int_of rate))
  rate_of =
      let f = has_form node h.place h.state (sound.ports h.place h.state h.there) (some_is h.state.format h.format h.has) in (
        f.0,
        value_shared node sound h 65539 (rate_shared node.kind) i s (int_of f.0) at
            (sym (own_value node h.state 65539 h.format h.has) ∙ f.2.0),
      )

  free_channels : s.format ≡ None → (channels : ℕ) × (value_of node s 65540 ≡ Some (int_of channels))
  free_channels free = go (fixed node.kind) where
    go : Fixed node.kind → (channels : ℕ) × (value_of node s 65540 ≡ Some (int_of channels))
    go (shared e) =
        let f = has_form node h.place h.state (sound.ports h.place h.state h.there) (some_is h.state.format h.format h.has) in
        (f.1, value_shared node sound h 65540 e i s (int_of f.1) at (sym (own_value node h.state 65540 h.format h.has) ∙ f.2.1))
    go (single e fixes) =
        let c = own_number s (MayHaveChannels node.kind i) port.own.channels (port.own.single fixes) in (
          c.0,
          free_value node s 65540 free
              ∙ (ap (λ (o : Option Pod). option_or o (value_at s.own.fields 65540)) (not_shared node 65540 e) ∙ c.1),
        )
    go (alone one) = let f = some_of s.format (is_it one) in absurd (none-some f.0 (sym free ∙ f.1))

  -- EVERY PORT HAS A FORM
  pub whole_form : (rate : ℕ) × (channels : ℕ) × IsFormOfPort rate channels node s
  whole_form = go s.format refl where
    go : (o : Option Format) → s.format ≡ o → (rate : ℕ) × (channels : ℕ) × IsFormOfPort rate channels node s
    go (Some f) e = let w = has_form node i s port (some_is s.format f e) in (w.0, w.1, (w.2, λ end. some_is s.format f e))
    go None e = (rate_of.0, (free_channels e).0, ((rate_of.1, (free_channels e).1), λ end. is_it (end_alone node.kind end)))

-- what ports of such a node share
pub shared_forms : (node : Node) → IsSoundNode node → IsFormattedNode node → (i j : ℕ) (s t : PortState) → slice_get node.ports i ≡ Some s
    → slice_get node.ports j ≡ Some t → (rate channels rate' channels' : ℕ) → HasForm node s rate channels → HasForm node t rate' channels'
    → (rate ≡ rate') × (is_shared_key node.kind 65540 ≡ true → channels ≡ channels')
shared_forms node sound h i j s t at there rate channels rate' channels' f g =
    let own = has_form node h.place h.state (sound.ports h.place h.state h.there) (some_is h.state.format h.format h.has) in
    let r = sym (own_value node h.state 65539 h.format h.has) ∙ own.2.0 in
    let c = sym (own_value node h.state 65540 h.format h.has) ∙ own.2.1 in
    let e = rate_shared node.kind in (
      one_number (value_of node s 65539) rate own.0 f.0 (value_shared node sound h 65539 e i s (int_of own.0) at r)
          ∙ one_number (value_of node t 65539) own.0 rate' (value_shared node sound h 65539 e j t (int_of own.0) there r) g.0,
      λ d. one_number (value_of node s 65540) channels own.1 f.1 (value_shared node sound h 65540 d i s (int_of own.1) at c)
          ∙ one_number (value_of node t 65540) own.1 channels' (value_shared node sound h 65540 d j t (int_of own.1) there c) g.1,
    )

-- a node that is there and has a format
pub formatted_node : (nodes : List Node) (n : ℕ) → AreSoundNodes nodes → HasSomeFormat nodes n → (node : Node) → slice_get nodes n ≡ Some node
    → IsFormattedNode node
formatted_node nodes n sound h node e =
    let p : PortId = record { node = n; port = h.port } in
    let t = there nodes p sound h.there in
    let some = at_port (λ (m : Node) (s : PortState). IsSome s.format) nodes p t.node t.state t.node_is t.state_is h.has in
    let f = some_of t.state.format some in
    let same : t.node ≡ node = same_Some t.node node (sym t.node_is ∙ e) in
    record {
      place = h.port;
      state = t.state;
      format = f.0;
      there = subst (λ (m : Node). slice_get m.ports h.port ≡ Some t.state) same t.state_is;
      has = f.1;
    }

-- in a graph
module _ (nodes : List Node) (sound : AreSoundNodes nodes) (n : ℕ) (has : HasSomeFormat nodes n) where
  pub whole_in : (port : ℕ) → IsPort nodes (record { node = n; port = port })
      → (rate : ℕ) × (channels : ℕ) × FormIn nodes (record { node = n; port = port }) rate channels
  whole_in port is =
      let p : PortId = record { node = n; port = port } in
      let t = there nodes p sound is in
      let node_sound = at_place IsSoundNode nodes n t.node sound.each t.node_is in
      let w = whole_form t.node node_sound (formatted_node nodes n sound has t.node t.node_is) port t.state t.state_is in
      (w.0, w.1, (is, port_at (IsFormOfPort w.0 w.1) nodes p t.node t.state t.node_is t.state_is w.2))

  pub shared_in : (p q : ℕ) (rate channels rate' channels' : ℕ) → FormIn nodes (record { node = n; port = p }) rate channels
      → FormIn nodes (record { node = n; port = q }) rate' channels' → (node : Node) → slice_get nodes n ≡ Some node
      → (rate ≡ rate') × (is_shared_key node.kind 65540 ≡ true → channels ≡ channels')
  shared_in p q rate channels rate' channels' f g node e =
      let a : PortId = record { node = n; port = p } in
      let b : PortId = record { node = n; port = q } in
      let t = there nodes a sound f.0 in
      let u = there nodes b sound g.0 in
      let same : t.node ≡ node = same_Some t.node node (sym t.node_is ∙ e) in
      let other : u.node ≡ node = same_Some u.node node (sym u.node_is ∙ e) in
      let mine = at_port (IsFormOfPort rate channels) nodes a t.node t.state t.node_is t.state_is f.1 in
      let its = at_port (IsFormOfPort rate' channels') nodes b u.node u.state u.node_is u.state_is g.1 in
      shared_forms node (at_place IsSoundNode nodes n node sound.each e) (formatted_node nodes n sound has node e) p q t.state u.state
      (subst (λ (m : Node). slice_get m.ports p ≡ Some t.state) same t.state_is)
      (subst (λ (m : Node). slice_get m.ports q ≡ Some u.state) other u.state_is) rate channels rate' channels'
      (subst (λ (m : Node). HasForm m t.state rate channels) same mine.0)
      (subst (λ (m : Node). HasForm m u.state rate' channels') other its.0)
