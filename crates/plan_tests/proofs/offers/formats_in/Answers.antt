-- The formats so far and one more are sound.
use Rattle.std.proofs.Common.{All, subst, sym}
use Rattle.std.proofs.lemmas.List.Elements.{All-push}
use Rattle.format_filter.specs.CommonFormat.{IsSoundFormat}
use Rattle.plan_tests.proofs.offers.formats_in.Goals as goal

pub loop-bytes-preserved : goal.loop-bytes-preserved
loop-bytes-preserved c = subst (All IsSoundFormat) (sym c.in-Ok.ensures.ok)
    (All-push IsSoundFormat c.loop-bytes.formats c.in_ok-format.format c.loop-bytes.invariant c.in_ok-format.ensures)
