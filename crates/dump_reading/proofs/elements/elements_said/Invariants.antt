-- The values that are left, after those so far, are all.
use Rattle.std.proofs.Common.{◌≡◌, ◌-◌, []}
use Rattle.dump_reading.specs.working.Lines.{many}
use Rattle.dump_reading.specs.Values.{element_said}
use Rattle.dump_reading.proofs.elements.elements_said.Given as goal

abbrev pub invariant-values : goal.invariant-values
invariant-values l = many (element_said l.child l.level) (l.count - l.counter) l.values l.rest
    ≡ many (element_said l.child l.level) l.count [] l.fn.text
