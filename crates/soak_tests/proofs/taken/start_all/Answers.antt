use Rattle.std.proofs.Common.{subst}
use Rattle.std.specs.Prelude.{All}
use Rattle.std.proofs.lemmas.List.Elements.{All-head, All-tail}
use Rattle.soak_tests.specs.Threads.{CanStart}
use Rattle.soak_tests.proofs.taken.start_all.Goals as goal

pub loop-one-preserved : goal.loop-one-preserved
loop-one-preserved g c = let can = CanStart c.args.common.now.boards c.args.common.now.ways in
    All-tail can c.in-Some.one c.next.new.self.rest.items (subst (All can) c.in-Some.ensures.steps.0 c.loop-one.invariant)

pub start_one-requires-after_bounds : goal.start_one-requires-after_bounds
start_one-requires-after_bounds g c κs within = let can = CanStart c.args.common.now.boards c.args.common.now.ways in
    All-head can c.in-Some.one c.next.new.self.rest.items (subst (All can) c.in-Some.ensures.steps.0 c.loop-one.invariant)
