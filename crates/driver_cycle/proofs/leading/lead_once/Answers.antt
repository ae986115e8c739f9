use Rattle.std.proofs.Common.{sym, ap, subst}
use Rattle.board_rule.specs.declared.view.View.{View}
use Rattle.board_rule.specs.OnBoard.{layout}
use Rattle.data_loop.specs.Driving.{MayDrive}
use Rattle.driver_cycle.proofs.LeadingLemmas.{woken_may, tried_leads}
use Rattle.driver_cycle.proofs.leading.lead_once.Goals as goal

pub conclude-requires-clause-awake : goal.conclude-requires-clause-awake
conclude-requires-clause-awake g c = let p = layout c.args.board.now in let w = c.claim_driver.new.seat.knows in
    let is = c.in-Awake.ensures.claim.1 in
    subst (MayDrive p w) (sym (ap (λ (x : View). x.lead.cycle) is))
    (woken_may p c.args.seat.now.knows w c.requires.waits c.requires.leads.even is)

pub returns-in-NotYet-clause-leads : goal.returns-in-NotYet-clause-leads
returns-in-NotYet-clause-leads g c = c.look_once.ensures.leads c.args.own.now.run_model c.args.own.now.epoch
    (tried_leads c.args.own.now.run_model c.args.own.now.epoch c.args.board.now c.args.seat.now c.claim_driver.new.seat
    c.claim_driver.ensures.table c.requires.leads c.in-NotYet.found c.in-NotYet.ensures.claim.1)
