use Rattle.steal_shelf.specs.Seats.{cells_of}
use Rattle.steal_shelf.proofs.SafetyLemmas.{are_alone}
use Rattle.steal_shelf.proofs.safety.cells_are_alone.Goals as goal

pub returns : goal.returns
returns c = λ s h. are_alone (cells_of c.args._shelf.now) s h
