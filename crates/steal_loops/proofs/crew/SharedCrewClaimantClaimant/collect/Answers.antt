use Rattle.std.proofs.Common.{◌∙◌, ◌≤◌, ◌<◌, List, length, ap, arith}
use Rattle.pw_lists.specs.Listed.{Listed}
use Rattle.data_loop.specs.declared.loop_state.LoopState.{LoopState}
use Rattle.steal_loops.proofs.DoneLemmas.{are_done}
use Rattle.steal_loops.proofs.crew.SharedCrewClaimantClaimant.collect.Goals as goal

pub collect_all-requires-clause-cells : goal.collect_all-requires-clause-cells
collect_all-requires-clause-cells g c = c.requires.5.cells

pub collect_all-requires-clause-seat : goal.collect_all-requires-clause-seat
collect_all-requires-clause-seat g c = c.requires.6.claimant.0.seat

pub collect_all-requires-clause-empty : goal.collect_all-requires-clause-empty
collect_all-requires-clause-empty g c = let r = c.requires in ap (λ (l : Listed LoopState). l.list) r.6.done ∙ r.5.bare

pub collect_all-requires-clause-room : goal.collect_all-requires-clause-room
collect_all-requires-clause-room g c = let r = c.requires in let room = r.5.room in let same = ap (λ (l : Listed LoopState). l.spare) r.6.done in omega (arith, room, same)

pub push_spare-requires : goal.push_spare-requires
push_spare-requires g c = let r = c.requires in let room = r.5.room in let same = ap (λ (l : Listed LoopState). l.spare) r.6.done in
    let left = c.collect_all.ensures.spare in omega (arith, room, same, left)

pub returns : goal.returns
returns g c = λ lead members held m n can led dealt. let d = can.can_drive in record {
  done = are_done c.args.self.now can.cells lead.driving.own c.args.led.driving.own d.plan_is d.waves_are led.own
      c.collect_all.new.done.list c.collect_all.ensures.collected c.into_items.result
      (c.into_items.ensures ∙ c.push_spare.ensures.list) can.nodes;
  drivers = led.drivers;
  looked = led.looked;
}
