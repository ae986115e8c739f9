use Rattle.std.proofs.Common.{sym, subst, arith}
use Rattle.board_rule.specs.OnBoard.{layout, table_of}
use Rattle.data_loop.specs.LoopsOnBoards.{IsOnBoard}
use Rattle.loop_tests.proofs.CrewLemmas.{one_tried}
use Rattle.loop_tests.proofs.stepping.settle_at.Goals as goal

pub settle_loop-requires : goal.settle_loop-requires
settle_loop-requires g c = record {
  on = subst (IsOnBoard (layout c.args.board.now) (table_of c.args.board.now)) (sym c.index_mut.ensures.value)
      (c.requires.on.thread.adopted_stand c.args.which c.index_mut.result.now (omega arith));
}

pub returns-then-which-len : goal.returns-then-which-len
returns-then-which-len g c = let crew = c.args.crew.now in record {
  on = record {
    thread = one_tried c.args.board.now crew.seat crew.own crew.others.items c.requires.on.thread c.args.which c.settle_loop.new.state c.settle_loop.ensures.on;
    driving = c.requires.on.driving;
    checked = c.requires.on.checked;
  };
}
