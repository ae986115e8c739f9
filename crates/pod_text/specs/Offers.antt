-- The format of an offer. Source: SPA POD, "Object"; spa/utils/type.h, spa/param/param.h and
-- format.h.
use Rattle.std.specs.Prelude.{ℕ, [], ◌∷◌}
use Rattle.format_filter.specs.declared.choice.Choice.{Choice}
use Rattle.format_filter.specs.declared.format.Field.{Field}
use Rattle.format_filter.specs.declared.format.Format.{Format}

-- a property: its key, its flags and what it admits
abbrev pub field : ℕ → ℕ → Choice → Field
field key flags choice = record { key = key; flags = flags; choice = choice }

-- the object type Format (0x40003), the id EnumFormat (3), rate (0x10003) and channels (0x10004)
abbrev pub offer_of : Choice → Choice → ℕ → ℕ → Format
offer_of rate channels rate_flags channels_flags = record {
  object = 262147;
  id = 3;
  fields = field 65539 rate_flags rate ∷ field 65540 channels_flags channels ∷ [];
}
