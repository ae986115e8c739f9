use Rattle.steal_loops.proofs.ClaimantLemmas.{at_end}
use Rattle.steal_loops.proofs.collecting.is_finished.Goals as goal

pub returns-in-None-clause-finished : goal.returns-in-None-clause-finished
returns-in-None-clause-finished g c is = at_end c.args.shared.now c.args.cell c.advance_unless_ended.new.state c.requires.cells
    c.advance_unless_ended.ensures.allowed c.in-None.ensures.end
