use Rattle.std.proofs.Common.{arith}
use Rattle.driver_groups.proofs.GroupLemmas.{part_run, closed_count}
use Rattle.graph_run.specs.Assignment.{loop_of}
use Rattle.graph_run.specs.Leads.{checks_of}
use Rattle.driver_groups.proofs.finishing.finish_one.Goals as goal

pub returns-clause-run : goal.returns-clause-run
returns-clause-run c = let f = c.finish_run-outcome.ensures in (
  c.finish_run-outcome.result.1,
  c.append.ensures.list,
  part_run c.args.plan.now c.args.waves.now c.finish_run-outcome.result.0 c.finish_run-outcome.result.1 (checks_of c.args.ended.drivers)
      f.sinks f.peaks f.waves (f.run (loop_of c.args.plan.now 0) 0 c.requires.ended.boards) c.requires.ended.quiet,
)

pub returns-clause-spare : goal.returns-clause-spare
returns-clause-spare c = let f = c.finish_run-outcome.ensures in
    let n = closed_count c.args.plan.now c.args.waves.now c.finish_run-outcome.result.0 c.finish_run-outcome.result.1
    (part_run c.args.plan.now c.args.waves.now c.finish_run-outcome.result.0 c.finish_run-outcome.result.1 (checks_of c.args.ended.drivers)
    f.sinks f.peaks f.waves (f.run (loop_of c.args.plan.now 0) 0 c.requires.ended.boards) c.requires.ended.quiet) in
    let s = c.append.ensures.spare in omega (arith, n, s)

pub append-requires : goal.append-requires
append-requires c = let f = c.finish_run-outcome.ensures in
    let n = closed_count c.args.plan.now c.args.waves.now c.finish_run-outcome.result.0 c.finish_run-outcome.result.1
    (part_run c.args.plan.now c.args.waves.now c.finish_run-outcome.result.0 c.finish_run-outcome.result.1 (checks_of c.args.ended.drivers)
    f.sinks f.peaks f.waves (f.run (loop_of c.args.plan.now 0) 0 c.requires.ended.boards) c.requires.ended.quiet) in
    let room = c.requires.room in omega (arith, n, room)
