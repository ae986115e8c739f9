-- Sound offers: an own offer with a rate and channels, and a format within it.
-- Source: this project's own.
use Rattle.std.specs.Prelude.{◌≡◌, ℕ, List, Some, IsSome}
use Rattle.pod_codec.specs.declared.pod.Pod.{Pod}
use Rattle.pw_graph.specs.declared.kind.Kind.{Kind}
use Rattle.pw_graph.specs.KindRanges.{MayHaveRate, MayHaveChannels}
use Rattle.format_filter.specs.declared.format.Field.{Field}
use Rattle.format_filter.specs.declared.format.Format.{Format}
use Rattle.format_filter.specs.Members.{IsMember}
use Rattle.format_filter.specs.CommonFormat.{field_of, IsSoundFormat}
use Rattle.port_model.specs.Offers.{int_of, FixesChannels, format_object, rate_key, channels_key}
use Rattle.port_model.specs.Forms.{value_at}

-- an Int of a number for which P holds
abbrev pub IsNumber : (ℕ → Type 0) → Pod → Type 0
IsNumber P value = (n : ℕ) × (value ≡ int_of n) × P n

-- the members at a key are such numbers
pub record Admits (fields : List Field) (key : ℕ) (P : ℕ → Type 0) : Type 0 where
  pub field : Field
  pub own : field_of fields key ≡ Some field
  pub numbers : (x : Pod) → IsMember field.choice x → IsNumber P x

-- an own offer has a rate and channels that its kind may have; where the kind fixes the channels,
-- they are one value
pub record IsOwnOffer (kind : Kind) (port : ℕ) (own : Format) : Type 0 where
  pub sound : IsSoundFormat own
  pub object : own.object ≡ format_object
  pub id : own.id ≡ 3
  pub rate : Admits own.fields rate_key (MayHaveRate kind)
  pub channels : Admits own.fields channels_key (MayHaveChannels kind port)
  pub single : FixesChannels kind → IsSome (value_at own.fields channels_key)

-- the value of a format at a key is one that an own offer admits
pub record IsWithin (own format : Format) (key : ℕ) : Type 0 where
  pub field : Field
  pub own_field : field_of own.fields key ≡ Some field
  pub value : Pod
  pub format_value : value_at format.fields key ≡ Some value
  pub member : IsMember field.choice value

-- a format that a port with this own offer may have
pub record IsTaken (own format : Format) : Type 0 where
  pub sound : IsSoundFormat format
  pub object : format.object ≡ format_object
  pub rate : IsWithin own format rate_key
  pub channels : IsWithin own format channels_key
