-- Fields beside the values that a node shares.
-- Source: this project's own.
use Rattle.std.specs.Prelude.{◌≡◌, ℕ, ◌<◌, List, Option, Some, None, map}
use Rattle.std.specs.List.{All}
use Rattle.pod_codec.specs.declared.pod.Pod.{Pod}
use Rattle.pod_codec.specs.SoundChoices.{IsOfType}
use Rattle.format_filter.specs.declared.choice.Choice.TheVariants.{Only}
use Rattle.format_filter.specs.declared.format.Field.{Field}
use Rattle.format_filter.specs.Members.{IsMember}
use Rattle.format_filter.specs.CommonFormat.{field_of, IsSoundFormat}
use Rattle.port_model.specs.declared.port_state.Node.{Node}
use Rattle.port_model.specs.declared.sharing.Offered.{Offered}
use Rattle.port_model.specs.declared.sharing.Offered.TheVariants.{Offer, Nothing}
use Rattle.port_model.specs.declared.sharing.Shared.{Shared}
use Rattle.port_model.specs.declared.sharing.Shared.TheVariants.{Fields, Outside}
use Rattle.port_model.specs.Forms.{shared_value, shared_field}
use Rattle.port_model.specs.Keys.{format_object}

-- no shared value is a Choice (19)
abbrev pub SharesPlain : Node → Type 0
SharesPlain node = (key : ℕ) (v : Pod) → shared_value node key ≡ Some v
    → IsOfType 19 v → ⊥

-- a field's choice admits the value that is shared at its key, and does not
abbrev pub IsInside : Node → Field → Type 0
IsInside node f = (v : Pod) → shared_value node f.key ≡ Some v → IsMember f.choice v

abbrev pub IsOutside : Node → Field → Type 0
IsOutside node f = (v : Pod) × (shared_value node f.key ≡ Some v)
    × (IsMember f.choice v → ⊥)

-- a field with only this value, where its choice admits it
abbrev pub IsNarrowedTo : Field → Pod → Option Field → Type 0
IsNarrowedTo f v None = IsMember f.choice v → ⊥
IsNarrowedTo f v (Some g) = IsMember f.choice v × (g ≡ record f { choice = Only v })

-- a field with only the shared value
abbrev pub Shares : Node → Field → Option Field → Type 0
Shares node f None = IsOutside node f
Shares node f (Some g) = IsInside node f × (g ≡ shared_field node f)

-- fields with only the shared values, or the least key at which such a value is not admitted
abbrev pub SharesAll : Node → List Field → Shared → Type 0
SharesAll node fields (Fields shared) = All (IsInside node) fields
    × (shared ≡ map (shared_field node) fields)
SharesAll node fields (Outside key) = (f : Field) × (field_of fields key ≡ Some f)
    × IsOutside node f
    × ((k : ℕ) (g : Field) → k < key → field_of fields k ≡ Some g → IsInside node g)

-- what is offered is a Format (0x40003), and sound
abbrev pub IsSoundOffer : Offered → Type 0
IsSoundOffer (Offer format) = IsSoundFormat format × (format.object ≡ format_object)
IsSoundOffer (Nothing key) = Unit {0}
