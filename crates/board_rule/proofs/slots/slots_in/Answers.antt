use Rattle.std.proofs.Common.{◌≤◌, ◌∙◌, sym, subst}
use Rattle.std.specs.Prelude.{All}
use Rattle.board_rule.proofs.start.SeatRangeLemmas.{nodes_most, writes_most, reads_most, blocks_most}
use Rattle.board_rule.proofs.slots.slots_in.Goals as goal

pub slots_of-requires : goal.slots_of-requires
slots_of-requires c = let bs = c.args.board_shape.now in
    subst (All (λ o. o ≤ bs.seats)) (sym (c.as_slice.ensures ∙ c.requires.owners.blocks_are)) (blocks_most bs c.requires.seats)

pub slots_of-requires-2 : goal.slots_of-requires-2
slots_of-requires-2 c = let bs = c.args.board_shape.now in
    subst (All (λ o. o ≤ bs.seats)) (sym (c.as_slice-2.ensures ∙ c.requires.owners.nodes_are)) (nodes_most bs c.requires.seats)

pub slots_of-requires-3 : goal.slots_of-requires-3
slots_of-requires-3 c = let bs = c.args.board_shape.now in
    subst (All (λ o. o ≤ bs.seats)) (sym (c.as_slice-3.ensures ∙ c.requires.owners.writes_are)) (writes_most bs c.requires.seats)

pub slots_of-requires-4 : goal.slots_of-requires-4
slots_of-requires-4 c = let bs = c.args.board_shape.now in
    subst (All (λ o. o ≤ bs.seats)) (sym (c.as_slice-4.ensures ∙ c.requires.owners.reads_are)) (reads_most bs c.requires.seats)
