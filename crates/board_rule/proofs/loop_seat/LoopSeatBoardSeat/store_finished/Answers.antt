use Rattle.std.proofs.Common.{◌≡◌, ℕ, sym, ap, subst, arith}
use Rattle.board_rule.specs.declared.view.View.{View}
use Rattle.board_rule.specs.Layout.{layout_of}
use Rattle.board_rule.specs.Known.{Known}
use Rattle.board_rule.specs.View.{node_of}
use Rattle.board_rule.specs.declared.view.Phase.TheVariants.{Running}
use Rattle.board_rule.proofs.activation.ProgressLemmas.{seat_finishes}
use Rattle.board_rule.specs.activation.SeatNodes.{Has}
use Rattle.board_rule.proofs.start.SlotLemmas.{node_sits}
use Rattle.board_rule.proofs.start.EntryLemmas.{node_in}
use Rattle.board_rule.proofs.loop_seat.LoopSeatBoardSeat.store_finished.Goals as goal

-- the view, and the index of the node
knows : (v w : Known) → v ≡ w → v.knows ≡ w.knows
knows v w e = ap (λ (k : Known). k.knows) e

pub index_mut-kept-requires : goal.index_mut-kept-requires
index_mut-kept-requires c = let i = c.self.inside in let is = knows _ _ c.self.view_is in let p = layout_of c.args.board.now.board_shape in
    let at : ℕ = c.index_of-at.result in
    let has : Has p i.token.me.0 at = subst (λ (k : ℕ × View). Has p k.1 k.0) (λ j. (sym c.index_of-at.ensures j, sym is j)) c.requires.phase.0.0 in
    let there = node_in p i.token.me.0 i.nodes.items i.writes.items i.reads.items i.blocks.items i.woke c.self.invariant
    c.args.board.now.sound at c.node_slot-slot.result has c.node_slot-slot.ensures in let len = i.nodes.ok.0 in omega arith

pub invariant_of-self : goal.invariant_of-self
invariant_of-self c = let i = c.self.inside in let is = knows _ _ c.self.view_is in let p = layout_of c.args.board.now.board_shape in
    let at : ℕ = c.index_of-at.result in
    let has : Has p i.token.me.0 at = subst (λ (k : ℕ × View). Has p k.1 k.0) (λ j. (sym c.index_of-at.ensures j, sym is j)) c.requires.phase.0.0 in
    seat_finishes p i.token.me.0 c.finish.new.token.me.0 at i.nodes.items i.writes.items i.reads.items i.blocks.items i.woke
    c.index_mut-kept.result.now c.finish-2.new.node c.self.invariant
    has.there
    c.node_slot-slot.result (node_sits p i.token.me.0 at c.node_slot-slot.result c.args.board.now.sound has c.node_slot-slot.ensures)
    c.index_mut-kept.ensures.value c.finish.ensures.after
    (subst (λ (k : ℕ × View). (node_of k.1 k.0).phase ≡ Running) (λ j. (sym c.index_of-at.ensures j, sym is j)) c.requires.phase.1)
    c.finish-2.ensures
