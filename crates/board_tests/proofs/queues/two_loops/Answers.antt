use Rattle.std.proofs.Common.{ap}
use Rattle.ready_queues.specs.declared.start_view.StartView.{StartView}
use Rattle.ready_queues.proofs.PoppingLemmas.{rest_count, popped_at, stood_at}
use Rattle.board_tests.proofs.queues.two_loops.Goals as goal

pub returns-clause-second : goal.returns-clause-second
returns-clause-second c = let n = c.in_ok-ways.ensures in let w = c.in-Some.second in
    let new = n.ways 1 w (popped_at c.in_ok-ways.others c.pop.new.self c.pop.result w 1 c.pop.ensures.list c.in-Some.is n.count) in (new.answered, new.loop_is)

pub returns-clause-first : goal.returns-clause-first
returns-clause-first c = let n = c.in_ok-ways.ensures in let w = c.in-Some-pop.first in
    let left = rest_count c.in_ok-ways.others c.pop.new.self c.pop.result c.in-Some.second 1 c.pop.ensures.list c.in-Some.is n.count in
    let at = popped_at c.pop.new.self c.pop-2.new.self c.pop-2.result w 0 c.pop-2.ensures.list c.in-Some-pop.is left in
    let new = n.ways 0 w (stood_at c.in_ok-ways.others c.pop.new.self c.pop.result w w 0 c.pop.ensures.list at) in (new.answered, new.loop_is)

pub returns-clause-idle : goal.returns-clause-idle
returns-clause-idle c = let n = c.in_ok-ways.ensures in let second = c.in-Some.second in let first = c.in-Some-pop.first in
    let left = rest_count c.in_ok-ways.others c.pop.new.self c.pop.result second 1 c.pop.ensures.list c.in-Some.is n.count in
    let at = popped_at c.pop.new.self c.pop-2.new.self c.pop-2.result first 0 c.pop-2.ensures.list c.in-Some-pop.is left in
    let one = n.ways 0 first (stood_at c.in_ok-ways.others c.pop.new.self c.pop.result second first 0 c.pop.ensures.list at) in
    let other = n.ways 1 second (popped_at c.in_ok-ways.others c.pop.new.self c.pop.result second 1 c.pop.ensures.list c.in-Some.is n.count) in
    (ap (λ (v : StartView). v.runs) one.idle, ap (λ (v : StartView). v.runs) other.idle)
