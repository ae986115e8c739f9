use Rattle.std.proofs.Common.{true≢false, sym, ◌∙◌}
use Rattle.data_loop.proofs.RunningLemmas.{loop_of, left}
use Rattle.steal_shelf.proofs.CellLemmas.{under_way}
use Rattle.steal_loops.proofs.visiting.advance_unless_ended.Goals as goal

pub at_end-requires : goal.at_end-requires
at_end-requires g c = let s = c.args.state.now in let h = c.requires.allowed in let f = c.requires.cells.each c.args.cell h.0 h.1 in
    let boards = c.args.shared.now.boards in loop_of boards s (under_way boards h.0 s f.loop f.boards_are h.2)

pub advance-requires-clause-left : goal.advance-requires-clause-left
advance-requires-clause-left g c = let s = c.args.state.now in let h = c.requires.allowed in let f = c.requires.cells.each c.args.cell h.0 h.1 in
    let boards = c.args.shared.now.boards in
    left boards s (under_way boards h.0 s f.loop f.boards_are h.2) (λ end. true≢false (sym (c.at_end.ensures.1 end) ∙ c.if-at_end.false))
