-- The fields that are passed are copied.
use Rattle.std.proofs.Common.{◌≡◌, take}
use Rattle.format_filter.proofs.copying.copy_fields.Given as goal

abbrev pub invariant-loop-field : goal.invariant-loop-field
invariant-loop-field l = l.all ≡ take l.field-index l.fields
