use Rattle.driver_cycle.proofs.LeadingLemmas.{begun_leads}
use Rattle.driver_cycle.proofs.rounds.begin_next.Goals as goal

pub returns-clause-leads : goal.returns-clause-leads
returns-clause-leads c = λ run_model k h. begun_leads run_model k c.args.board.now c.args.seat.now c.begin.new.seat c.begin.ensures.table h c.begin.ensures.knows
