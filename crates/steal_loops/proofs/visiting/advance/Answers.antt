use Rattle.data_loop.proofs.RunningLemmas.{none_on}
use Rattle.steal_shelf.proofs.CellLemmas.{under_way, stepped_cell}
use Rattle.steal_loops.proofs.visiting.advance.Goals as goal

pub step_cell-requires : goal.step_cell-requires
step_cell-requires g c = let s = c.args.state.now in let h = c.requires.allowed in let f = c.requires.cells.each c.args.cell h.0 h.1 in record {
  under_way = under_way c.args.shared.now.boards h.0 s f.loop f.boards_are h.2;
  left = c.requires.left;
  none = none_on h.0 s (record { run_model = h.2.run_model; nodes = h.2.nodes }) f.none;
}

pub returns : goal.returns
returns g c = let h = c.requires.allowed in let f = c.requires.cells.each c.args.cell h.0 h.1 in let step = c.step_cell.ensures.stepped in record {
  allowed = (h.0, h.1, stepped_cell c.args.shared.now.boards h.0 c.args.state.now c.step_cell.new.state f.boards_are h.2 step);
  stepped = step;
  made = c.step_cell.ensures.made;
}
