-- What is passed is of the type.
use Rattle.std.specs.List.{All}
use Rattle.pod_codec.specs.SoundChoices.{IsOfType}
use Rattle.format_filter.specs.FormatWriting.{type_of_wide}
use Rattle.pod_tests.proofs.formats.values.Given as goal

abbrev pub invariant-loop-n : goal.invariant-loop-n
invariant-loop-n l = All (IsOfType (type_of_wide l.wide)) l.all
