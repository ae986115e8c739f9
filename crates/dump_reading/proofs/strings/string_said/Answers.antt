-- A byte that no string has there.
use Rattle.std.proofs.Common.{sym, ap, ◌∙◌, arith}
use Rattle.dump_reading.specs.working.Strings.{string_said, whole}
use Rattle.dump_reading.proofs.StringLoops.{string_stops}
use Rattle.dump_reading.proofs.strings.string_said.Goals as goal

pub returns-in-None : goal.returns-in-None
unfolding string_said
returns-in-None c =
    sym (ap whole (sym c.loop-b.invariant.read
    ∙ string_stops c.loop-b.state c.loop-b.bytes c.args.text.now c.loop-b.b-index (omega arith)
    (sym c.step.ensures.said ∙ c.in-None.is)))
