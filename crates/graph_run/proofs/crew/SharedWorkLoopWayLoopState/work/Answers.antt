use Rattle.graph_run.proofs.ThreadLemmas.{under_way}
use Rattle.graph_run.proofs.crew.SharedWorkLoopWayLoopState.work.Goals as goal

pub run_all-state-requires-clause-under_way : goal.run_all-state-requires-clause-under_way
run_all-state-requires-clause-under_way g c = under_way c.args.self.now.boards c.args.member.state c.requires.can_run.ready
