use Rattle.std.proofs.Common.{◌≤◌, ◌∙◌, length, sym, subst, ap}
use Rattle.std.specs.Prelude.{All}
use Rattle.pw_graph.specs.Pools.{pools_of}
use Rattle.board_rule.specs.Layout.{layout_of}
use Rattle.board_rule.specs.start.Owners.{seat_with}
use Rattle.board_rule.proofs.start.SeatRangeLemmas.{nodes_most, writes_most, reads_most, blocks_most}
use Rattle.board_rule.proofs.start.OwnerLemmas.{blocks_long}
use Rattle.board_rule.proofs.buffers.HolderLemmas.{placed}
use Rattle.board_rule.proofs.shares.all_shares.Goals as goal

pub deal-requires-clause-most : goal.deal-requires-clause-most
deal-requires-clause-most c = let bs = c.args.board_shape.now in
    subst (All (λ o. o ≤ bs.seats)) (sym (c.as_slice.ensures ∙ c.requires.starts.owners.nodes_are)) (nodes_most bs c.requires.seats)

pub deal-requires-2-clause-most : goal.deal-requires-2-clause-most
deal-requires-2-clause-most c = let bs = c.args.board_shape.now in
    subst (All (λ o. o ≤ bs.seats)) (sym (c.as_slice-3.ensures ∙ c.requires.starts.owners.writes_are)) (writes_most bs c.requires.seats)

pub deal-requires-3-clause-most : goal.deal-requires-3-clause-most
deal-requires-3-clause-most c = let bs = c.args.board_shape.now in
    subst (All (λ o. o ≤ bs.seats)) (sym (c.as_slice-5.ensures ∙ c.requires.starts.owners.reads_are)) (reads_most bs c.requires.seats)

pub deal-requires-4-clause-most : goal.deal-requires-4-clause-most
deal-requires-4-clause-most c = let bs = c.args.board_shape.now in
    subst (All (λ o. o ≤ bs.seats)) (sym (c.as_slice-7.ensures ∙ c.requires.starts.owners.blocks_are)) (blocks_most bs c.requires.seats)

pub deal-requires-4-clause-same : goal.deal-requires-4-clause-same
deal-requires-4-clause-same c = let bs = c.args.board_shape.now in let p = layout_of bs in let st = c.requires.starts in
    ap (λ xs. length xs) (c.as_slice-7.ensures ∙ st.owners.blocks_are)
    ∙ blocks_long p.shape (λ x. seat_with p x.port.node) (pools_of p.shape) (λ q h. ((placed bs c.requires.pooled c.requires.seats).some q h).1)
    ∙ sym (ap (λ xs. length xs) (c.as_slice-8.ensures ∙ st.blocks_are))
