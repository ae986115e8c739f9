-- What an output and an input port settle on: the fixation of the common format of what they offer,
-- and a number of buffers.
-- Source: PipeWire's documentation, "Objects Design", Link; spa/pod/filter.h, spa/pod/iter.h;
-- spa/param/buffers.h.
use Rattle.std.specs.Prelude.{◌≡◌, ℕ, List, Option, Some, None}
use Rattle.pw_graph.specs.declared.ids.PortId.{PortId}
use Rattle.pod_codec.specs.declared.pod.Pod.{Pod}
use Rattle.format_filter.specs.declared.choice.Choice.{Choice}
use Rattle.format_filter.specs.declared.common.Filtered.TheVariants.{Common, Clash}
use Rattle.format_filter.specs.declared.format.Format.{Format}
use Rattle.format_filter.specs.Members.{pick_of}
use Rattle.format_filter.specs.Intersection.{Meets}
use Rattle.format_filter.specs.CommonFormat.{Filters}
use Rattle.format_filter.specs.Fixation.{fixated}
use Rattle.port_model.specs.declared.port_state.PortState.{PortState}
use Rattle.port_model.specs.declared.port_state.Node.{Node}
use Rattle.port_model.specs.declared.sharing.Offered.{Offered}
use Rattle.port_model.specs.declared.sharing.Offered.TheVariants.{Offer, Nothing}
use Rattle.port_model.specs.PortState.{AtPort}
use Rattle.port_model.specs.Offers.{int_of}
use Rattle.port_model.specs.Forms.{Offers, buffers_of, value_at}
use Rattle.link_negotiation.specs.declared.common_formats.Negotiated.{Negotiated}
use Rattle.link_negotiation.specs.declared.common_formats.Negotiated.TheVariants as negotiated

-- what a port offers
abbrev pub OffersAt : List Node → PortId → Offered → Type 0
OffersAt nodes port offered = AtPort nodes port (λ node s. Offers node s offered)

-- what the input's offer leaves of the output's: the fixation of their common format, or the key
-- without one
abbrev pub Settles : Format → Offered → Negotiated → Type 0
Settles f (Nothing k) (negotiated.NoFormat key) = k ≡ key
Settles f (Nothing k) (negotiated.Format format) = ⊥
Settles f (Offer g) (negotiated.NoFormat key) = Filters f g (Clash key)
Settles f (Offer g) (negotiated.Format format) = (c : Format) × Filters f g (Common c)
    × (format ≡ fixated c)

-- the output port offers nothing, else the input port does, else both clash; else their common
-- format, fixed
abbrev pub SettlesFrom : List Node → PortId → Offered → Negotiated → Type 0
SettlesFrom nodes to (Nothing k) (negotiated.NoFormat key) = k ≡ key
SettlesFrom nodes to (Nothing k) (negotiated.Format format) = ⊥
SettlesFrom nodes to (Offer f) outcome = (p : Offered) × OffersAt nodes to p × Settles f p outcome

-- NEGOTIATION of a format
abbrev pub Negotiates : List Node → PortId → PortId → Negotiated → Type 0
Negotiates nodes from to outcome = (o : Offered) × OffersAt nodes from o
    × SettlesFrom nodes to o outcome

-- a port that has its format agrees with another format at each key of its own
abbrev pub Agrees : Format → Node → PortState → Type 0
Agrees format node s = (own : Format) (key : ℕ) (v : Pod) → s.format ≡ Some own
    → value_at own.fields key ≡ Some v → value_at format.fields key ≡ Some v

-- the number of buffers is the pick of what both counts have in common, the output's first
abbrev pub IsCount : Option Choice → Option ℕ → Type 0
IsCount None None = Unit {0}
IsCount (Some c) (Some n) = pick_of c ≡ int_of n
IsCount meet count = ⊥

abbrev pub MeetsIn : Choice → Choice → Option ℕ → Type 0
MeetsIn own other count = (c : Option Choice) × Meets own other c × IsCount c count

abbrev pub SharesBuffers : List Node → PortId → PortId → Option ℕ → Type 0
SharesBuffers nodes from to count =
    AtPort nodes from (λ node s. AtPort nodes to
    (λ other t. MeetsIn (buffers_of s) (buffers_of t) count))
