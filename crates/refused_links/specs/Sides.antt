-- What the two ports of a refused link admit at the key at which they part.
-- Source: PipeWire's documentation, "Objects Design", Port and Link; spa/pod/filter.h,
-- spa_pod_filter; that both sides are told is this project's.
use Rattle.std.specs.Prelude.{◌≡◌, ℕ, ◌==◌, List, Option, option_map, if◌then◌else◌}
use Rattle.pw_graph.specs.declared.ids.PortId.{PortId}
use Rattle.format_filter.specs.declared.choice.Choice.{Choice}
use Rattle.format_filter.specs.declared.common.Filtered.TheVariants.{Clash}
use Rattle.format_filter.specs.declared.format.Format.{Format}
use Rattle.format_filter.specs.CommonFormat.{field_of, Filters}
use Rattle.port_model.specs.declared.port_state.Node.{Node}
use Rattle.port_model.specs.declared.sharing.Offered.{Offered}
use Rattle.port_model.specs.declared.sharing.Offered.TheVariants.{Offer, Nothing}
use Rattle.port_model.specs.Forms.{IsForm}
use Rattle.port_model.specs.Keys.{rate_key}
use Rattle.port_model.specs.PortState.{AtPort}
use Rattle.link_negotiation.specs.Negotiation.{OffersAt}
use Rattle.refused_links.specs.declared.refused_link.Sides.{Sides}
use Rattle.refused_links.specs.declared.refused_link.Sides.TheVariants as S

-- PARTING: the output port offers nothing because of this key; else the input port does; else no
-- value at the key is admitted by both offers, or one has it as MANDATORY and the other lacks it,
-- and there is no lesser such key
abbrev pub PartAt : Offered → Offered → ℕ → Type 0
PartAt (Nothing k) other key = k ≡ key
PartAt (Offer f) (Nothing k) key = k ≡ key
PartAt (Offer f) (Offer g) key = Filters f g (Clash key)

-- what an offer admits at a key, if it has the key
abbrev pub choice_at : Format → ℕ → Option Choice
choice_at offer key = option_map (λ f. f.choice) (field_of offer.fields key)

-- the form of a port at a key, if it has a form: the rate at its key, else the channels; of a port
-- without a format it is what its node shares
abbrev pub number_at : ℕ → ℕ × ℕ → ℕ
number_at key form = if key == rate_key then form.0 else form.1

abbrev pub HasNumber : List Node → PortId → ℕ → Option ℕ → Type 0
HasNumber nodes port key number = (form : Option (ℕ × ℕ))
    × AtPort nodes port (λ node s. IsForm node s form) × (number ≡ option_map (number_at key) form)

-- what is told of a port that offers nothing: its own offer and its form at the key
abbrev pub TellsNode : List Node → PortId → ℕ → Sides → Type 0
TellsNode nodes at key (S.Node port own shared) = (port ≡ at)
    × AtPort nodes at (λ node s. own ≡ choice_at s.own key) × HasNumber nodes at key shared
TellsNode nodes at key (S.Both from to) = ⊥

-- what is told of both: which port offers nothing, the output first; else what both offers admit
abbrev pub both_sides : Format → Format → ℕ → Sides
both_sides f g key = S.Both (choice_at f key) (choice_at g key)

abbrev pub Tells : List Node → PortId → PortId → Offered → Offered → ℕ → Sides → Type 0
Tells nodes from to (Nothing k) other key sides = TellsNode nodes from key sides
Tells nodes from to (Offer f) (Nothing k) key sides = TellsNode nodes to key sides
Tells nodes from to (Offer f) (Offer g) key sides = sides ≡ both_sides f g key

-- SIDES of an output and an input port that part at a key
abbrev pub HasSides : List Node → PortId → PortId → ℕ → Sides → Type 0
HasSides nodes from to key sides = (own : Offered) × (other : Offered)
    × OffersAt nodes from own × OffersAt nodes to other
    × PartAt own other key × Tells nodes from to own other key sides
