-- The fixation of a format: each choice becomes its pick. Source: spa/pod/iter.h, spa_pod_fixate.
use Rattle.std.specs.Prelude.{map}
use Rattle.format_filter.specs.declared.choice.Choice.TheVariants.{Only}
use Rattle.format_filter.specs.declared.format.Field.{Field}
use Rattle.format_filter.specs.declared.format.Format.{Format}
use Rattle.format_filter.specs.Members.{pick_of}

-- a field with only its pick, without flags
abbrev pub fixed : Field → Field
fixed f = record { key = f.key; flags = 0; choice = Only (pick_of f.choice) }

-- FIXATION: the id is that of Format, 4
abbrev pub fixated : Format → Format
fixated format = record { object = format.object; id = 4; fields = map fixed format.fields }
