use Rattle.std.proofs.Common.{◌≡◌, ◌∙◌, ℕ, sym, ap, subst, arith, false}
use Rattle.board_rule.specs.declared.view.View.{View}
use Rattle.board_rule.specs.Layout.{layout_of}
use Rattle.board_rule.specs.Known.{Known}
use Rattle.board_rule.specs.View.{node_of}
use Rattle.board_rule.specs.declared.progress.NodeProgress.{NodeProgress}
use Rattle.board_rule.specs.Steps.{lowered_of}
use Rattle.board_rule.proofs.activation.ProgressLemmas.{seat_triggers}
use Rattle.board_rule.specs.activation.SeatNodes.{Has, HasNode}
use Rattle.board_rule.proofs.start.SlotLemmas.{node_sits}
use Rattle.board_rule.proofs.start.EntryLemmas.{node_in, next_here}
use Rattle.board_rule.proofs.loop_seat.LoopSeatBoardSeat.store_triggered.Goals as goal

-- the view, and the index of the node
knows : (v w : Known) → v ≡ w → v.knows ≡ w.knows
knows v w e = ap (λ (k : Known). k.knows) e

pub index_mut-kept-requires : goal.index_mut-kept-requires
index_mut-kept-requires c = let i = c.self.inside in let is = knows _ _ c.self.view_is in let p = layout_of c.args.board.now.board_shape in
    let at : ℕ = c.index_of-at.result in
    let has : Has p i.token.me.0 at = subst (λ (k : ℕ × View). Has p k.1 k.0) (λ j. (sym c.index_of-at.ensures j, sym is j)) c.requires.phase.0.0 in
    let there = node_in p i.token.me.0 i.nodes.items i.writes.items i.reads.items i.blocks.items i.woke c.self.invariant
    c.args.board.now.sound at c.node_slot-slot.result has c.node_slot-slot.ensures in let len = i.nodes.ok.0 in omega arith

pub settle-requires : goal.settle-requires
settle-requires c = let i = c.self.inside in let is = knows _ _ c.self.view_is in let p = layout_of c.args.board.now.board_shape in
    let at : ℕ = c.index_of-at.result in
    let h : HasNode false p i.token.me.0 at =
    subst (λ (k : ℕ × View). HasNode false p k.1 k.0) (λ j. (sym c.index_of-at.ensures j, sym is j)) c.requires.phase.0 in
    next_here p i.token.me.0 i.nodes.items i.writes.items i.reads.items i.blocks.items i.woke c.self.invariant
    c.args.board.now.sound at c.node_slot-slot.result c.index_mut-kept.result.now h.0 c.node_slot-slot.ensures c.index_mut-kept.ensures.value h.1.1

pub invariant_of-self : goal.invariant_of-self
invariant_of-self c = let i = c.self.inside in let is = knows _ _ c.self.view_is in let p = layout_of c.args.board.now.board_shape in
    let at : ℕ = c.index_of-at.result in
    let has : Has p i.token.me.0 at = subst (λ (k : ℕ × View). Has p k.1 k.0) (λ j. (sym c.index_of-at.ensures j, sym is j)) c.requires.phase.0.0 in
    let told : c.node_at-before.result.told ≡ lowered_of (node_of i.token.me.0 at).phase =
    ap (λ (k : NodeProgress). k.told) c.node_at-before.ensures ∙ ap (λ (v : View). lowered_of (node_of v at).phase) (sym is) in
    seat_triggers p i.token.me.0 c.trigger.new.token.me.0 at i.nodes.items i.writes.items i.reads.items i.blocks.items i.woke
    c.index_mut-kept.result.now c.settle.new.node c.self.invariant
    has.there
    c.node_slot-slot.result (node_sits p i.token.me.0 at c.node_slot-slot.result c.args.board.now.sound has c.node_slot-slot.ensures)
    c.index_mut-kept.ensures.value c.targets_at.result c.node_at-before.result.told c.trigger.ensures.after c.targets_at.ensures told
    c.settle.ensures
