-- The fields that are passed are written.
use Rattle.std.proofs.Common.{take}
use Rattle.std.specs.List.{AllZip}
use Rattle.format_filter.specs.FormatWriting.{WritesField}
use Rattle.format_filter.proofs.to_pod.props_of.Given as goal

abbrev pub invariant-loop-field : goal.invariant-loop-field
invariant-loop-field l = AllZip WritesField (take l.field-index l.fields) l.props
