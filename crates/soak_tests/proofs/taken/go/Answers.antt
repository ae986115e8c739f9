use Rattle.graph_run.proofs.ThreadLemmas.{under_way}
use Rattle.soak_tests.proofs.taken.go.Goals as goal

pub run_all-state-requires-clause-under_way : goal.run_all-state-requires-clause-under_way
run_all-state-requires-clause-under_way g c = under_way c.args.common.now.boards c.args.one.0 c.requires.ready
