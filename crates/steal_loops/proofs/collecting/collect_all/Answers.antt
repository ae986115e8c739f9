use Rattle.std.proofs.Common.{◌∙◌, sym, arith}
use Rattle.steal_loops.proofs.DoneLemmas.{none_collected, one_collected}
use Rattle.steal_loops.proofs.collecting.collect_all.Goals as goal

pub loop-cell-init : goal.loop-cell-init
loop-cell-init g c = record {
  end = c.loops-cell-end.ensures ∙ sym c.requires.cells.count;
  seat = c.requires.seat;
  collected = none_collected c.args.shared.now c.args.done.now.list c.requires.empty;
  spare = omega arith;
}

pub loop-cell-preserved : goal.loop-cell-preserved
loop-cell-preserved g c = let i = c.loop-cell.invariant in let spare = i.spare in let less = c.push_spare.ensures.spare in record {
  end = i.end;
  seat = c.collect.ensures.seat;
  collected = one_collected c.args.shared.now c.loop-cell.cell c.loop-cell.done.list c.push_spare.new.self.list c.collect.result i.collected
      c.push_spare.ensures.list c.collect.ensures.finished;
  spare = omega (arith, spare, less);
}
