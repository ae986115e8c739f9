use Rattle.ready_queues.proofs.PoppingLemmas.{rest_count, popped_at, stood_at}
use Rattle.loop_tests.proofs.queues.row_ways.Goals as goal

pub returns-clause-second : goal.returns-clause-second
returns-clause-second c = let n = c.in-Ok-new.ensures in let w = c.in-Some.second in
    let new = n.ways 1 w (popped_at c.in-Ok-new.others c.pop.new.self c.pop.result w 1 c.pop.ensures.list c.in-Some.is n.count) in (new.answered, new.loop_is)

pub returns-clause-first : goal.returns-clause-first
returns-clause-first c = let n = c.in-Ok-new.ensures in let w = c.in-Some-pop.first in
    let left = rest_count c.in-Ok-new.others c.pop.new.self c.pop.result c.in-Some.second 1 c.pop.ensures.list c.in-Some.is n.count in
    let at = popped_at c.pop.new.self c.pop-2.new.self c.pop-2.result w 0 c.pop-2.ensures.list c.in-Some-pop.is left in
    let new = n.ways 0 w (stood_at c.in-Ok-new.others c.pop.new.self c.pop.result w w 0 c.pop.ensures.list at) in (new.answered, new.loop_is)
