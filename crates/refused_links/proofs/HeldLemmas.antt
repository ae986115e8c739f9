-- A port whose node has given its formats up offers its own offer.
use Rattle.std.proofs.Common.{◌≡◌, ℕ, zero, suc, ◌<◌, Bool, true, false, List, [], ◌∷◌, map, Option, Some, None, refl, sym, ap, ◌∙◌, subst}
use Rattle.std.specs.Prelude.{slice_get, option_and_then, if◌then◌else◌}
use Rattle.std.specs.Option.{option_map, option_map_or}
use Rattle.std.proofs.lemmas.Option.{none-some, slice_get-map}
use Rattle.pod_codec.specs.declared.pod.Pod.{Pod}
use Rattle.pw_graph.specs.declared.ids.PortId.{PortId}
use Rattle.format_filter.specs.declared.choice.Choice.TheVariants.{Only}
use Rattle.format_filter.specs.declared.format.Field.{Field}
use Rattle.format_filter.specs.declared.format.Format.{Format}
use Rattle.format_filter.specs.CommonFormat.{field_of}
use Rattle.port_model.specs.declared.port_state.PortState.{PortState}
use Rattle.port_model.specs.declared.port_state.Node.{Node}
use Rattle.port_model.specs.declared.sharing.Offered.{Offered}
use Rattle.port_model.specs.declared.sharing.Offered.TheVariants.{Offer, Nothing}
use Rattle.port_model.specs.Forms.{value_at, first_format, shared_value, shared_field, Offers}
use Rattle.port_model.specs.Offers.{is_shared_key}
use Rattle.port_model.specs.PortState.{IsPort, AtPort, port_count_of, released, with_released}
use Rattle.port_model.proofs.ChangedLemmas.{changed_here}
use Rattle.port_model.proofs.NodeLemmas.{at_port, port_at}
use Rattle.link_negotiation.specs.Negotiation.{OffersAt}
use Rattle.link_negotiation.proofs.MayBeGivenLemmas.{IsThere}
use Rattle.refused_links.specs.Sides.{choice_at}
use Rattle.refused_links.specs.working.Finding.{offered_at}

-- the ports stay
count_released : (nodes : List Node) (n : ℕ) → port_count_of (with_released nodes n) n ≡ port_count_of nodes n
count_released [] n = refl
count_released (m ∷ nodes) zero = refl
count_released (m ∷ nodes) (suc n) = count_released nodes n

pub port_released : (nodes : List Node) (port : PortId) → IsPort nodes port → IsPort (with_released nodes port.node) port
port_released nodes port is = subst (λ (n : ℕ). port.port < n) (sym (count_released nodes port.node)) is

-- no format is left
none_first : (ports : List PortState) → first_format (map released ports) ≡ None
none_first [] = refl
none_first (s ∷ ports) = none_first ports

module _ (nodes : List Node) (port : PortId) (t : IsThere nodes port) where
  abbrev free : Node
  free = record t.node { ports = map released t.node.ports }

  free_node : slice_get (with_released nodes port.node) port.node ≡ Some free
  free_node = changed_here nodes port.node (λ (node : Node). record node { ports = map released node.ports }) t.node t.node_is

  free_state : slice_get free.ports port.port ≡ Some (released t.state)
  free_state = slice_get-map released t.node.ports port.port ∙ ap (option_map released) t.state_is

  -- so nothing is shared, and each field is as it was
  none_shared : (key : ℕ) → shared_value free key ≡ None
  none_shared key = go (is_shared_key t.node.kind key) where
    go : (b : Bool) → (if b then option_and_then (λ (f : Format). value_at f.fields key) (first_format (map released t.node.ports)) else None) ≡ None
    go true = ap (option_and_then (λ (f : Format). value_at f.fields key)) (none_first t.node.ports)
    go false = refl

  same_fields : (fields : List Field) → map (shared_field free) fields ≡ fields
  same_fields [] = refl
  same_fields (f ∷ fields) =
      ap (λ (o : Option Pod). record f { choice = option_map_or Only o f.choice } ∷ map (shared_field free) fields) (none_shared f.key)
      ∙ ap (λ (fs : List Field). f ∷ fs) (same_fields fields)

  own_offered : (offered : Offered) (key : ℕ) → Offers free (released t.state) offered → offered_at key offered ≡ choice_at t.state.own key
  own_offered (Offer f) key h = ap (λ (g : Format). choice_at g key) h.0
      ∙ ap (λ (fs : List Field). option_map (λ (x : Field). x.choice) (field_of fs key)) (same_fields t.state.own.fields)
  own_offered (Nothing k) key h = absurd (none-some h.0.value (sym (none_shared k) ∙ h.0.shared))

  -- THE OWN OFFER of the port, at a key
  pub own_held : (offered : Offered) (key : ℕ) → OffersAt (with_released nodes port.node) port offered
      → AtPort nodes port (λ node s. offered_at key offered ≡ choice_at s.own key)
  own_held offered key h = port_at (λ (node : Node) (s : PortState). offered_at key offered ≡ choice_at s.own key) nodes port t.node t.state
      t.node_is t.state_is (own_offered offered key
      (at_port (λ (node : Node) (s : PortState). Offers node s offered) (with_released nodes port.node) port free (released t.state) free_node free_state h))
