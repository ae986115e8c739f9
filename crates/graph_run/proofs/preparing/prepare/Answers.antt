use Rattle.std.proofs.Common.{List, arith}
use Rattle.board_rule.specs.Known.{Known}
use Rattle.data_loop.specs.declared.loop_state.LoopState.{LoopState}
use Rattle.graph_run.specs.declared.opening.OpenedRun.{OpenedRun}
use Rattle.graph_run.specs.declared.shared.Shared.{Shared}
use Rattle.graph_run.specs.Assignment.{loop_of}
use Rattle.graph_run.proofs.OpenedLemmas.{opened_by}
use Rattle.graph_run.proofs.ReadyLemmas.{own_is}
use Rattle.graph_run.proofs.SeatingLemmas.{loops_seat}
use Rattle.graph_run.proofs.PrepareLemmas.{all_start, pair_count, all_nodes, drives}
use Rattle.graph_run.proofs.preparing.prepare.Goals as goal

pub returns : goal.returns
returns c = let plan = c.args.plan.now in let waves = c.args.waves.now in let loops = c.args.loops in
    let w = c.in_ok-ways.ensures in let few = c.requires.few in let f = loop_of plan loops in let o : OpenedRun = c.in_ok-boards.field-0 in
    let opened = opened_by f plan loops c.in_ok-seating.seating c.in_ok-seating.ensures.is c.requires.sound (loops_seat plan loops (omega (arith, few)))
    waves o c.in_ok-boards.ensures in
    let shared : Shared = record { boards = o.boards; ways = c.in_ok-ways.ways; run_model = c.of.result } in
    let xs : List LoopState = o.loops in let own : LoopState = o.own in let rows : List (List Known) = opened.rows in
    let ready = opened.ready in let are = opened.are in let is = own_is o.boards loops xs own ready plan waves f rows are in
    let p = c.of.ensures.plan in let v = c.of.ensures.waves in let pairs = c.in_ok-loops.ensures in record {
      plan_is = p;
      waves_are = v;
      shapes = opened.shapes;
      drivers = opened.drivers;
      owner = w.owner;
      loops_are = w.loops;
      can_start = all_start plan waves loops shared xs own rows ready are p v w.owner w.loops c.in_ok-ways.others w.ways c.in_ok-loops.loops
          pairs.states pairs.ways;
      can_drive = drives plan waves loops shared xs own rows ready are p v w.owner w.loops o.drivers c.in_ok-ways.way
          (opened.leads own.run_model is.plan_is is.waves_are) w.driver;
      count = pair_count plan waves loops shared xs own rows ready are p v w.owner w.loops c.in_ok-ways.others w.ways c.in_ok-loops.loops
          pairs.states pairs.ways;
      nodes = all_nodes plan waves loops shared xs own rows ready are p v w.owner w.loops c.in_ok-ways.others w.ways c.in_ok-loops.loops
          pairs.states pairs.ways;
    }
