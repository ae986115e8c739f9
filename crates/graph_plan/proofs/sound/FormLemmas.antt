-- Forms of ports: a port has one at most; ports of a node that has a format share what their kind shares.
use Rattle.std.proofs.Common.{◌≡◌, ℕ, zero, suc, List, [], ◌∷◌, get_or, map, Option, Some, None, true}
use Rattle.std.proofs.Common.{refl, sym, ap, ◌∙◌}
use Rattle.std.specs.Prelude.{slice_get, IsSome}
use Rattle.std.specs.Option.{option_or}
use Rattle.std.proofs.lemmas.Option.{same_Some, none-some}
use Rattle.pod_codec.specs.declared.pod.Pod.{Pod}
use Rattle.pw_graph.specs.declared.ids.PortId.{PortId}
use Rattle.pw_graph.specs.declared.kind.Kind.{Kind}
use Rattle.pw_graph.specs.declared.kind.Kind.TheVariants.{Source, Square, Gain, Mix2, Delay, Map, Split, Sink, Meter, Dummy}
use Rattle.pw_graph.specs.KindPorts.{port_count, input_count}
use Rattle.pw_graph.specs.KindRanges.{SharesChannels}
use Rattle.format_filter.specs.declared.format.Format.{Format}
use Rattle.port_model.specs.declared.port_state.PortState.{PortState}
use Rattle.port_model.specs.declared.port_state.Node.{Node}
use Rattle.port_model.specs.PortState.{IsPort, port_count_of, input_count_of}
use Rattle.port_model.specs.Offers.{int_of, is_shared_key}
use Rattle.port_model.specs.Forms.{value_at, shared_value, value_of}
use Rattle.port_model.specs.SoundPorts.{IsSoundNode, AreSoundNodes}
use Rattle.port_model.proofs.NodeLemmas.{at_port, port_at}
use Rattle.port_model.proofs.ValueLemmas.{own_value, free_value, some_is}
use Rattle.port_model.proofs.TakingLemmas.{shared_at}
use Rattle.link_negotiation.proofs.MayBeGivenLemmas.{there}
use Rattle.graph_lines.specs.Forms.{IsFormOfPort, FormIn}
use Rattle.graph_plan.specs.working.SoundWires.{HasFormatOf, IsFormatted}
use Rattle.graph_plan.specs.working.Remembering.{HasSomeFormat}

-- a value is one number
pub one_number : (o : Option Pod) (a b : ℕ) → o ≡ Some (int_of a) → o ≡ Some (int_of b) → a ≡ b
one_number o a b p q = cc

-- A PORT HAS ONE FORM
pub one_form : (nodes : List Node) → AreSoundNodes nodes → (port : PortId) (rate channels rate' channels' : ℕ)
    → FormIn nodes port rate channels → FormIn nodes port rate' channels' → (rate ≡ rate') × (channels ≡ channels')
one_form nodes sound port rate channels rate' channels' f g =
    let t = there nodes port sound f.0 in
    let mine = at_port (IsFormOfPort rate channels) nodes port t.node t.state t.node_is t.state_is f.1 in
    let its = at_port (IsFormOfPort rate' channels') nodes port t.node t.state t.node_is t.state_is g.1 in (
      one_number (value_of t.node t.state 65539) rate rate' mine.0.0 its.0.0,
      one_number (value_of t.node t.state 65540) channels channels' mine.0.1 its.0.1,
    )

-- ports by the kinds of the nodes
ports_of : (nodes : List Node) (n : ℕ) → port_count_of nodes n ≡ port_count (get_or (map (λ (m : Node). m.kind) nodes) n Dummy)
ports_of [] n = refl
ports_of (m ∷ nodes) zero = refl
ports_of (m ∷ nodes) (suc n) = ports_of nodes n

inputs_of : (nodes : List Node) (n : ℕ) → input_count_of nodes n ≡ input_count (get_or (map (λ (m : Node). m.kind) nodes) n Dummy)
inputs_of [] n = refl
inputs_of (m ∷ nodes) zero = refl
inputs_of (m ∷ nodes) (suc n) = inputs_of nodes n

kind_is : (nodes : List Node) (n : ℕ) (node : Node) → slice_get nodes n ≡ Some node
    → node.kind ≡ get_or (map (λ (m : Node). m.kind) nodes) n Dummy
kind_is [] n node e = absurd (none-some node e)
kind_is (m ∷ nodes) zero node e = ap (λ (x : Node). x.kind) (sym (same_Some m node e))
kind_is (m ∷ nodes) (suc n) node e = kind_is nodes n node e

module _ (nodes : List Node) (kinds : List Kind) (same : map (λ (m : Node). m.kind) nodes ≡ kinds) where
  pub port_count_is : (n : ℕ) → port_count_of nodes n ≡ port_count (get_or kinds n Dummy)
  port_count_is n = ports_of nodes n ∙ ap (λ (ks : List Kind). port_count (get_or ks n Dummy)) same

  pub input_count_is : (n : ℕ) → input_count_of nodes n ≡ input_count (get_or kinds n Dummy)
  input_count_is n = inputs_of nodes n ∙ ap (λ (ks : List Kind). input_count (get_or ks n Dummy)) same

  pub kind_at_is : (n : ℕ) (node : Node) → slice_get nodes n ≡ Some node → node.kind ≡ get_or kinds n Dummy
  kind_at_is n node e = kind_is nodes n node e ∙ ap (λ (ks : List Kind). get_or ks n Dummy) same

-- a port that has a format has its form
pub formatted_form : (nodes : List Node) → AreSoundNodes nodes → (port : PortId) (rate channels : ℕ) → IsPort nodes port
    → IsFormatted nodes port rate channels → FormIn nodes port rate channels
formatted_form nodes sound port rate channels is has =
    let t = there nodes port sound is in
    let f = at_port (λ (node : Node) (s : PortState). HasFormatOf rate channels s) nodes port t.node t.state t.node_is t.state_is has in (
      is,
      port_at (IsFormOfPort rate channels) nodes port t.node t.state t.node_is t.state_is (
        (own_value t.node t.state 65539 f.format f.has ∙ f.rate_is, own_value t.node t.state 65540 f.format f.has ∙ f.channels_is),
        λ end. some_is t.state.format f.format f.has,
      ),
    )

pub formatted_some : (nodes : List Node) → AreSoundNodes nodes → (port : PortId) (rate channels : ℕ) → IsPort nodes port
    → IsFormatted nodes port rate channels → HasSomeFormat nodes port.node
formatted_some nodes sound port rate channels is has =
    let t = there nodes port sound is in
    let f = at_port (λ (node : Node) (s : PortState). HasFormatOf rate channels s) nodes port t.node t.state t.node_is t.state_is has in
    record {
      port = port.port;
      there = is;
      has = port_at (λ (node : Node) (s : PortState). IsSome s.format) nodes port t.node t.state t.node_is t.state_is (some_is t.state.format f.format f.has);
    }

-- every kind shares its rate, and some their channels
pub rate_shared : (kind : Kind) → is_shared_key kind 65539 ≡ true
rate_shared Source = refl
rate_shared (Square rate channels period amp) = refl
rate_shared (Gain g) = refl
rate_shared (Mix2 ga gb) = refl
rate_shared (Delay frames) = refl
rate_shared (Map channels list) = refl
rate_shared Split = refl
rate_shared Sink = refl
rate_shared Meter = refl
rate_shared Dummy = refl

pub channels_shared : (kind : Kind) → SharesChannels kind → is_shared_key kind 65540 ≡ true
channels_shared (Gain g) h = refl
channels_shared (Mix2 ga gb) h = refl
channels_shared (Delay frames) h = refl
channels_shared Source h = absurd h
channels_shared (Square rate channels period amp) h = absurd h
channels_shared (Map channels list) h = absurd h
channels_shared Split h = absurd h
channels_shared Sink h = absurd h
channels_shared Meter h = absurd h
channels_shared Dummy h = absurd h

-- the values that ports of a node with a format have at a shared key: one and the same
pub record IsFormattedNode (node : Node) : Type 0 where
  pub place : ℕ
  pub state : PortState
  pub format : Format
  pub there : slice_get node.ports place ≡ Some state
  pub has : state.format ≡ Some format

module _ (node : Node) (sound : IsSoundNode node) (h : IsFormattedNode node) (key : ℕ) (shared : is_shared_key node.kind key ≡ true) where
  node_value : shared_value node key ≡ value_at h.format.fields key
  node_value = shared_at node key h.place h.state h.format sound shared h.there h.has

  pub value_shared : (i : ℕ) (s : PortState) (v : Pod) → slice_get node.ports i ≡ Some s → value_at h.format.fields key ≡ Some v
      → value_of node s key ≡ Some v
  value_shared i s v at e = go s.format refl where
    go : (o : Option Format) → s.format ≡ o → value_of node s key ≡ Some v
    go (Some f) d = own_value node s key f d ∙ (sym (shared_at node key i s f sound shared at d) ∙ (node_value ∙ e))
    go None d = free_value node s key d ∙ ap (λ (o : Option Pod). option_or o (value_at s.own.fields key)) (node_value ∙ e)
