use Rattle.std.proofs.Common.{◌∙◌}
use Rattle.ready_queues.proofs.SightLemmas.{looked_more, for_driver_more}
use Rattle.ready_queues.proofs.ForwardLemmas.{one_found, all_found}
use Rattle.ready_queues.proofs.ways.Ways.has_watched.Goals as goal

pub returns-then-is_watched-clause-looked : goal.returns-then-is_watched-clause-looked
returns-then-is_watched-clause-looked c = let l = c.loop-node in
    looked_more c.args.ends.now l.ends c.is_watched.new.ends l.auto.ends l.invariant.looked c.is_watched.ensures.looked

pub returns-then-is_watched-clause-yes : goal.returns-then-is_watched-clause-yes
returns-then-is_watched-clause-yes c = let ways = c.args.self.now in let l = c.loop-node in let i = l.invariant in let n = c.in-Some.node in let first = c.in-Some.ensures.some in
    λ _. (
      n,
      i.found.part n first.0 first.1,
      for_driver_more ways.owner ways.loops n c.args.ends.now l.ends c.is_watched.new.ends l.auto.ends
          (λ j a b was at. (i.looked j a b was at).sight.misses) (c.is_watched.ensures.yes c.if-is_watched.true),
    )

pub loop-node-preserved : goal.loop-node-preserved
loop-node-preserved c = let ways = c.args.self.now in let l = c.loop-node in let i = l.invariant in let w = c.is_watched in let cut = c.without-rest in record {
  ends = w.ensures.ends;
  looked = looked_more c.args.ends.now l.ends w.new.ends l.auto.ends i.looked w.ensures.looked;
  found = one_found ways.owner ways.loops c.args.woke l.rest cut.result c.in-Some.node l.ends w.new.ends w.auto.ends w.ensures.looked (w.ensures.no c.if-is_watched.false)
      cut.ensures.here cut.ensures.others i.found;
  count = w.ensures.count ∙ i.count;
}

pub returns-clause-no : goal.returns-clause-no
returns-clause-no c = let ways = c.args.self.now in let l = c.loop-node in
    λ _. all_found ways.owner ways.loops c.args.woke l.rest l.ends c.ranges.woke.fits l.invariant.found c.in_default.ensures.none
