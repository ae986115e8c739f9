use Rattle.driver_cycle.proofs.LeadingLemmas.{checked_leads}
use Rattle.driver_cycle.proofs.rounds.look.Goals as goal

pub returns-then-due-clause-leads : goal.returns-then-due-clause-leads
returns-then-due-clause-leads g c = λ run_model k h. checked_leads run_model k c.args.board.now c.args.seat.now c.check_late.new.seat c.check_late.ensures.table h
    c.check_late.result c.check_late.ensures.knows
