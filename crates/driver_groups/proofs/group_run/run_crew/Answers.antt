use denote.Param.Send.{IsSend, IsSync, sendable}
use Rattle.std.proofs.Crossing.{crosses}
use Rattle.std.proofs.alloc.Global.TheSendSync as heap
use Rattle.std.proofs.Common.{◌∙◌, List, ◌∷◌, length, false, sym, ap, subst}
use Rattle.std.specs.List.{AllZip}
use Rattle.std.proofs.lemmas.List.{length-replicate}
use Rattle.graph_run.specs.RunStates.{CanRunAlone}
use Rattle.pw_graph.specs.declared.parts.Part.{Part}
use Rattle.driver_groups.specs.declared.crew.PlacedRun.{PlacedRun}
use Rattle.driver_groups.specs.working.Crew.{runs_of}
use Rattle.driver_groups.specs.working.Groups.{IsRunOfPart, IsEndedPart}
use Rattle.driver_groups.proofs.GroupLemmas.{zip_all, part_can_run, unplaced, ended_parts}
use Rattle.graph_run.proofs.SendLemmas.{alone_field, ended_send}
use Rattle.graph_run.specs.contracts.alone.AloneRun as alone_row
use Rattle.driver_groups.specs.contracts.crew.PlacedRun as placed_row
use Rattle.driver_groups.specs.contracts.crew.Shared as shared_row
use Rattle.driver_groups.proofs.group_run.run_crew.Goals as goal

placed_send : IsSend placed_row.the_row
placed_send = let a : IsSend alone_row.the_field.row = alone_field in search (sendable, crosses) depth 30

shared_sync : IsSync shared_row.the_row
shared_sync = search (sendable, crosses, heap.the_send, heap.the_sync) depth 30 fits 50000

pub run-ended-requires-send-M : goal.run-ended-requires-send-M
run-ended-requires-send-M g c κs within = search (sendable, placed_send) depth 30

pub run-ended-requires-send-B : goal.run-ended-requires-send-B
run-ended-requires-send-B g c κs within = search (sendable, ended_send) depth 30

pub run-ended-requires-sync-C : goal.run-ended-requires-sync-C
run-ended-requires-sync-C g c κs within = search (sendable, shared_sync) depth 30

pub run-ended-requires-clause-leads : goal.run-ended-requires-clause-leads
run-ended-requires-clause-leads g c κs within = c.requires.crew.lead

pub run-ended-requires-clause-members : goal.run-ended-requires-clause-members
run-ended-requires-clause-members g c κs within = let is = c.requires.crew in
    zip_all (λ (p : Part) (r : PlacedRun). IsRunOfPart c.args.waves.now p r.run) (λ (r : PlacedRun). CanRunAlone r.run)
    (λ p r of. part_can_run c.args.waves.now p r.run of) is.tail c.args.crew.others is.others.each

pub run-ended-requires-clause-adopt : goal.run-ended-requires-clause-adopt
run-ended-requires-clause-adopt g c κs within = ap (λ l. length l) (c.as_slice-adopt.ensures ∙ c.requires.crew.named) ∙ length-replicate (length c.args.crew.others) false

pub run-ended-requires-clause-places : goal.run-ended-requires-clause-places
run-ended-requires-clause-places g c κs within = c.requires.crew.places

pub finish_all-requires-clause-ended : goal.finish_all-requires-clause-ended
finish_all-requires-clause-ended g c = let is = c.requires.crew in let waves = c.args.waves.now in
    subst (λ (l : List Part). AllZip (λ (p : Part) e. IsEndedPart waves p.plan e) l c.run-ended.result) (sym is.parts_are)
    (ended_parts waves (is.head ∷ is.tail) (c.args.crew.lead.first ∷ runs_of c.args.crew.others) c.run-ended.result
    (is.first, unplaced waves is.tail c.args.crew.others is.others.each) c.run-ended.ensures)
