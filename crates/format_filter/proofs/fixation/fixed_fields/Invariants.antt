-- The fields that are passed are fixed.
use Rattle.std.proofs.Common.{◌≡◌, take, map}
use Rattle.format_filter.specs.Fixation.{fixed}
use Rattle.format_filter.proofs.fixation.fixed_fields.Given as goal

abbrev pub invariant-loop-field : goal.invariant-loop-field
invariant-loop-field l = l.all ≡ map fixed (take l.field-index l.fields)
