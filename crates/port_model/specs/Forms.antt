-- What a port has or would take: the values that its node shares, its offer, its form and its count
-- of buffers.
-- Source: PipeWire's documentation, "Objects Design", Port; spa/param/format.h, buffers.h; sharing
-- is this project's.
use Rattle.std.specs.Prelude.{◌≡◌, ℕ, ◌<◌, pos, Option, Some, None}
use Rattle.std.specs.Option.{option_map_or, option_or}
use Rattle.pod_codec.specs.declared.pod.Pod.{Pod}
use Rattle.format_filter.specs.declared.choice.Choice.{Choice}
use Rattle.format_filter.specs.declared.choice.Choice.TheVariants.{Range}
use Rattle.format_filter.specs.declared.choice.Wide.TheVariants as wide
use Rattle.format_filter.specs.declared.format.Field.{Field}
use Rattle.format_filter.specs.Members.{IsMember}
use Rattle.format_filter.specs.CommonFormat.{field_of}
use Rattle.port_model.specs.declared.port_state.PortState.{PortState}
use Rattle.port_model.specs.declared.port_state.Node.{Node}
use Rattle.port_model.specs.declared.sharing.Offered.{Offered}
use Rattle.port_model.specs.declared.sharing.Offered.TheVariants.{Offer, Nothing}
use Rattle.port_model.specs.Offers.{int_of, rate_key, channels_key}
pub use Rattle.port_model.specs.SharedValues.{only_of, value_at, first_format, shared_value, shared_field, offer_of}

-- a port without a format is at odds with its node at a key: the shared value is not in its own
-- offer
pub record IsAtOdds (node : Node) (s : PortState) (key : ℕ) : Type 0 where
  pub free : s.format ≡ None
  pub field : Field
  pub own : field_of s.own.fields key ≡ Some field
  pub value : Pod
  pub shared : shared_value node key ≡ Some value
  pub outside : IsMember field.choice value → ⊥

-- it is not: if it has no format, its own offer admits the shared value
abbrev pub IsAtEase : Node → PortState → ℕ → Type 0
IsAtEase node s key = s.format ≡ None
    → (f : Field) (v : Pod) → field_of s.own.fields key ≡ Some f
    → shared_value node key ≡ Some v → IsMember f.choice v

-- what a port offers: nothing where it is at odds with its node, the key is the least such one;
-- else its offer
abbrev pub Offers : Node → PortState → Offered → Type 0
Offers node s (Offer format) = (format ≡ offer_of node s) × ((key : ℕ) → IsAtEase node s key)
Offers node s (Nothing key) = IsAtOdds node s key × ((k : ℕ) → k < key → IsAtEase node s k)

-- the value of a port at a key: its format's, else the shared one, else the one value of its own
-- offer
abbrev pub value_of : Node → PortState → ℕ → Option Pod
value_of node s key = option_map_or (λ f. value_at f.fields key) s.format
    (option_or (shared_value node key) (value_at s.own.fields key))

-- FORM of a port: its rate and its channels
abbrev pub HasForm : Node → PortState → ℕ → ℕ → Type 0
HasForm node s rate channels = (value_of node s rate_key ≡ Some (int_of rate))
    × (value_of node s channels_key ≡ Some (int_of channels))

-- the form of a port, if there is one
abbrev pub IsForm : Node → PortState → Option (ℕ × ℕ) → Type 0
IsForm node s None = (rate channels : ℕ) → HasForm node s rate channels → ⊥
IsForm node s (Some form) = HasForm node s form.0 form.1

-- COUNT OF BUFFERS of a port: 1 to 8, or just the number that was set
abbrev pub buffers_of : PortState → Choice
buffers_of s = option_map_or (λ n. Range wide.Int (pos n) (pos n) (pos n)) s.buffers
    (Range wide.Int (pos 2) (pos 1) (pos 8))
