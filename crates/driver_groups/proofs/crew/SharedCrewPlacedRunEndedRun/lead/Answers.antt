use Rattle.std.proofs.Common.{sym, subst, arith}
use Rattle.std.specs.List.{AllZip}
use Rattle.graph_run.specs.declared.ended.EndedRun.{EndedRun}
use Rattle.graph_run.specs.RunStates.{HasRunAlone}
use Rattle.driver_groups.specs.declared.crew.PlacedRun.{PlacedRun}
use Rattle.driver_groups.proofs.crew.SharedCrewPlacedRunEndedRun.lead.Goals as goal

pub run_alone-first-requires : goal.run_alone-first-requires
run_alone-first-requires g c = c.requires.leads.1.first

pub run_all-requires-clause-empty : goal.run_all-requires-clause-empty
run_all-requires-clause-empty g c = c.requires.leads.1.bare.0

pub run_all-requires-clause-room : goal.run_all-requires-clause-room
run_all-requires-clause-room g c = let few = c.requires.leads.2 in let room = c.requires.leads.1.waited in omega (arith, few, room)

pub returns : goal.returns
returns g c = record {
  first = c.run_alone-first.ensures;
  waited = subst (AllZip (λ (p : PlacedRun) (e : EndedRun). HasRunAlone p.run e) c.args.held) (sym c.into_items.ensures) c.run_all.ensures;
  room = (λ _. c.args.lead.ended);
}
