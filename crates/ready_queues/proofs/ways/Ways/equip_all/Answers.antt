use Rattle.std.proofs.Common.{◌∙◌, refl, arith, length-set}
use Rattle.std.proofs.lemmas.Option.{slice_get_within}
use Rattle.ready_queues.specs.Lanes.{unparks}
use Rattle.ready_queues.proofs.OpeningLemmas.{equipped_bare, equipped_ends, bare_empty}
use Rattle.ready_queues.proofs.ways.Ways.equip_all.Goals as goal

pub equip-requires-clause-old : goal.equip-requires-clause-old
equip-requires-clause-old c = let ways = c.args.self.now in let l = c.loop-k in let i = l.invariant in let below = c.loop-k-test.true in let long = l.auto.ways in
    let count = i.count in let end = l.auto.k-end in
    bare_empty ways.lanes (unparks ways.driver) l.ways l.k c.index-ways-k.result (omega arith) i.count i.bare

pub loop-k-preserved : goal.loop-k-preserved
loop-k-preserved c = let ways = c.args.self.now in let l = c.loop-k in let i = l.invariant in let below = c.loop-k-test.true in let long = l.auto.ways in
    let count = i.count in let new = c.equip.new.self in let dealt = c.in_ok-deal.ensures.dealt in let is = c.equip.ensures in record {
      count = length-set l.ways l.k new ∙ i.count;
      kept = c.deal.ensures.kept;
      bare = equipped_bare ways.owner ways.lanes (unparks ways.driver) l.ways l.k c.index-ways-k.result new c.in_ok-deal.field-0 (omega arith) i.count i.bare is.ends dealt is.thread;
      ends = equipped_ends ways.owner ways.lanes (unparks ways.driver) l.ways l.k c.index-ways-k.result new c.in_ok-deal.field-0 (omega arith) i.count i.bare is.ends dealt _ refl i.ends;
    }

pub returns-clause-ends : goal.returns-clause-ends
returns-clause-ends c = λ k w at. let low = slice_get_within c.loop-k.ways k w at in let past = c.loop-k-test.false in let long = c.loop-k.auto.ways in
    c.loop-k.invariant.ends k w (omega arith) at
