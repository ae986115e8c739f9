-- The formats so far are sound.
use Rattle.std.specs.Prelude.{All}
use Rattle.format_filter.specs.CommonFormat.{IsSoundFormat}
use Rattle.plan_tests.proofs.offers.formats_in.Given as goal

abbrev pub invariant-loop-bytes : goal.invariant-loop-bytes
invariant-loop-bytes l = All IsSoundFormat l.formats
