use Rattle.steal_shelf.specs.Seats.{cells_of}
use Rattle.steal_shelf.proofs.SafetyLemmas.{are_in_reach}
use Rattle.steal_shelf.proofs.safety.cells_are_in_reach.Goals as goal

pub returns : goal.returns
returns c = λ s h. are_in_reach (cells_of c.args._shelf.now) s h
