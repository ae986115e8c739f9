-- Both ports of a link that is made have a format, of one rate and one number of channels.
use Rattle.std.proofs.Common.{◌≡◌, ℕ, List, Option, Some, None, refl, sym, ap, ◌∙◌, subst}
use Rattle.std.specs.Prelude.{slice_get, IfSome}
use Rattle.std.specs.Option.{option_or}
use Rattle.pod_codec.specs.declared.pod.Pod.{Pod}
use Rattle.pw_graph.specs.declared.ids.PortId.{PortId}
use Rattle.pw_graph.specs.KindRanges.{MayHaveRate, MayHaveChannels}
use Rattle.format_filter.specs.declared.format.Format.{Format}
use Rattle.port_model.specs.declared.port_state.PortState.{PortState}
use Rattle.port_model.specs.declared.port_state.Node.{Node}
use Rattle.port_model.specs.PortState.{IsPort, AtPort, changed, with_port}
use Rattle.port_model.specs.Offers.{int_of}
use Rattle.port_model.specs.Forms.{value_at}
use Rattle.port_model.specs.SoundPorts.{IsTaken, IsSoundPort, AreSoundNodes}
use Rattle.port_model.proofs.NodeLemmas.{at_port, port_at}
use Rattle.port_model.proofs.ChangedLemmas.{changed_here}
use Rattle.port_model.proofs.SharingLemmas.{within_number}
use Rattle.link_negotiation.specs.declared.common_formats.Negotiated.TheVariants as negotiated
use Rattle.link_negotiation.specs.Negotiation.{Negotiates, Agrees}
use Rattle.link_negotiation.specs.LinkOutcome.{given, formatted, MayBeGiven}
use Rattle.link_negotiation.proofs.MayBeGivenLemmas.{there, elsewhere, gives_own, gives_other, output_agrees, input_agrees}
use Rattle.graph_plan.specs.working.SoundWires.{HasFormatOf, IsFormatted}
use Rattle.graph_plan.specs.working.Remembering.{Stands}
use Rattle.graph_plan.proofs.sound.StandsLemmas.{with_port_keeps, port_stays, port_given}

-- the numbers of a format
pub record HasNumbers (rate channels : ℕ) (format : Format) : Type 0 where
  pub rate_is : value_at format.fields 65539 ≡ Some (int_of rate)
  pub channels_is : value_at format.fields 65540 ≡ Some (int_of channels)

-- a format that a port has, or takes, has numbers
taken_numbers : (node : Node) (port : ℕ) (s : PortState) (format : Format) → IsSoundPort node.kind port s → IsTaken s.own format
    → (rate : ℕ) × (channels : ℕ) × HasNumbers rate channels format
taken_numbers node port s format sound taken =
    let r = within_number s.own format 65539 (MayHaveRate node.kind) taken.rate.value taken.rate sound.own.rate taken.rate.format_value in
    let c = within_number s.own format 65540 (MayHaveChannels node.kind port) taken.channels.value taken.channels sound.own.channels
    taken.channels.format_value in (
      r.0,
      c.0,
      record {
        rate_is = taken.rate.format_value ∙ ap (λ (x : Pod). Some x) r.1;
        channels_is = taken.channels.format_value ∙ ap (λ (x : Pod). Some x) c.1;
      },
    )

-- what is settled on has numbers, which a port that is given it has then
pub given_numbers : (node : Node) (port : ℕ) (s : PortState) (format : Format) → IsSoundPort node.kind port s → Agrees format node s
    → MayBeGiven format node s → (rate : ℕ) × (channels : ℕ) × HasNumbers rate channels format
given_numbers node port s format sound agrees may = go s.format refl where
  go : (o : Option Format) → s.format ≡ o → (rate : ℕ) × (channels : ℕ) × HasNumbers rate channels format
  go None e = taken_numbers node port s format sound (may e).taken
  go (Some own) e =
      let taken : IsTaken s.own own = subst (λ (o : Option Format). IfSome o (IsTaken s.own)) e sound.format in
      let n = taken_numbers node port s own sound taken in (
        n.0,
        n.1,
        record {
          rate_is = agrees own 65539 (int_of n.0) e n.2.rate_is;
          channels_is = agrees own 65540 (int_of n.1) e n.2.channels_is;
        },
      )

given_format : (node : Node) (port : ℕ) (s : PortState) (format : Format) (rate channels : ℕ) → IsSoundPort node.kind port s → Agrees format node s
    → HasNumbers rate channels format → HasFormatOf rate channels (given format s)
given_format node port s format rate channels sound agrees numbers = go s.format refl where
  go : (o : Option Format) → s.format ≡ o → HasFormatOf rate channels (given format s)
  go None e = record {
    format = format;
    has = ap (λ (o : Option Format). option_or o (Some format)) e;
    rate_is = numbers.rate_is;
    channels_is = numbers.channels_is;
  }
  go (Some own) e =
      let taken : IsTaken s.own own = subst (λ (o : Option Format). IfSome o (IsTaken s.own)) e sound.format in
      let n = taken_numbers node port s own sound taken in record {
        format = own;
        has = ap (λ (o : Option Format). option_or o (Some format)) e;
        rate_is = n.2.rate_is ∙ (sym (agrees own 65539 (int_of n.0) e n.2.rate_is) ∙ numbers.rate_is);
        channels_is = n.2.channels_is ∙ (sym (agrees own 65540 (int_of n.1) e n.2.channels_is) ∙ numbers.channels_is);
      }

-- at a port that is given the format
given_at : (nodes : List Node) (q : PortId) (format : Format) (rate channels : ℕ) → AreSoundNodes nodes → IsPort nodes q
    → AtPort nodes q (Agrees format) → HasNumbers rate channels format → IsFormatted (with_port nodes q (given format)) q rate channels
given_at nodes q format rate channels sound is agrees numbers =
    let t = there nodes q sound is in
    let own = at_port (Agrees format) nodes q t.node t.state t.node_is t.state_is agrees in
    let whole : slice_get (with_port nodes q (given format)) q.node ≡ Some (record t.node { ports = changed t.node.ports q.port (given format) }) =
    changed_here nodes q.node (λ node. record node { ports = changed node.ports q.port (given format) }) t.node t.node_is in
    let state = changed_here t.node.ports q.port (given format) t.state t.state_is in
    port_at (λ (node : Node) (s : PortState). HasFormatOf rate channels s) (with_port nodes q (given format)) q
    (record t.node { ports = changed t.node.ports q.port (given format) }) (given format t.state) whole state
    (given_format t.node q.port t.state format rate channels t.sound own numbers)

-- a format that a port has stays
pub given_keeps : (format : Format) (rate channels : ℕ) (s : PortState) → HasFormatOf rate channels s → HasFormatOf rate channels (given format s)
given_keeps format rate channels s h = record {
  format = h.format;
  has = ap (λ (o : Option Format). option_or o (Some format)) h.has;
  rate_is = h.rate_is;
  channels_is = h.channels_is;
}

-- A LINK THAT IS MADE
pub record IsMade (nodes after : List Node) (from to : PortId) : Type 0 where
  pub sound : AreSoundNodes after
  pub stands : (port : PortId) (rate channels : ℕ) → Stands nodes port rate channels → Stands after port rate channels
  pub formats : (port : PortId) (rate channels : ℕ) → IsFormatted nodes port rate channels → IsFormatted after port rate channels
  pub rate : ℕ
  pub channels : ℕ
  pub from_format : IsFormatted after from rate channels
  pub to_format : IsFormatted after to rate channels

pub link_made : (nodes : List Node) (from to : PortId) (format : Format) → AreSoundNodes nodes → IsPort nodes from → IsPort nodes to
    → (from.node ≡ to.node → ⊥) → Negotiates nodes from to (negotiated.Format format) → IsMade nodes (formatted nodes from to format) from to
link_made nodes from to format sound is_from is_to apart settles =
    let first = with_port nodes from (given format) in
    let from_may = gives_own nodes from to format sound is_from settles in
    let to_may = gives_other nodes from to format sound is_to settles in
    let from_agrees = output_agrees nodes from to format sound is_from settles in
    let to_agrees = input_agrees nodes from to format sound is_to settles in
    let one = port_given nodes from format sound is_from from_may in
    let is_to_after = port_stays nodes from to (given format) is_to in
    let two = port_given first to format one.sound is_to_after (elsewhere (MayBeGiven format) nodes from to (given format) apart to_may) in
    let t = there nodes from sound is_from in
    let n = given_numbers t.node from.port t.state format t.sound
    (at_port (Agrees format) nodes from t.node t.state t.node_is t.state_is from_agrees)
    (at_port (MayBeGiven format) nodes from t.node t.state t.node_is t.state_is from_may) in
    record {
      sound = two.sound;
      stands = λ port rate channels h. two.stands port rate channels (one.stands port rate channels h);
      formats = λ port rate channels h.
          with_port_keeps (HasFormatOf rate channels) first to port (given format) (given_keeps format rate channels)
          (with_port_keeps (HasFormatOf rate channels) nodes from port (given format) (given_keeps format rate channels) h);
      rate = n.0;
      channels = n.1;
      from_format = with_port_keeps (HasFormatOf n.0 n.1) first to from (given format) (given_keeps format n.0 n.1)
          (given_at nodes from format n.0 n.1 sound is_from from_agrees n.2);
      to_format = given_at first to format n.0 n.1 one.sound is_to_after
          (elsewhere (Agrees format) nodes from to (given format) apart to_agrees) n.2;
    }
