use Rattle.steal_loops.proofs.crew.SharedCrewClaimantClaimant.lead.Goals as goal

pub drive-driving-requires-clause-cells : goal.drive-driving-requires-clause-cells
drive-driving-requires-clause-cells g c = c.requires.leads.1.cells

pub drive-driving-requires-clause-drives : goal.drive-driving-requires-clause-drives
drive-driving-requires-clause-drives g c = c.requires.leads.1.can_drive

pub returns : goal.returns
returns g c = let led = c.drive-driving.ensures in record {
  own = led.own;
  drivers = led.drivers;
  looked = led.looked;
  claimant = led.claimant;
  done = (λ _. c.args.lead.done);
}
