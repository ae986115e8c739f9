use Rattle.std.proofs.Common.{ℕ, sym, ap, ◌≡◌, subst}
use Rattle.board_rule.specs.declared.view.View.{View}
use Rattle.board_rule.specs.Known.{Known}
use Rattle.board_rule.specs.View.{node_of}
use Rattle.board_rule.specs.events.EventSteps.{CanStore}
use Rattle.board_rule.proofs.activation.ProgressLemmas.{seat_stores}
use Rattle.board_rule.proofs.loop_seat.LoopSeatBoardSeat.store_event.Goals as goal

-- the view, and the index of the node
knows : (v w : Known) → v ≡ w → v.knows ≡ w.knows
knows v w e = ap (λ (k : Known). k.knows) e

pub invariant_of-self : goal.invariant_of-self
invariant_of-self c = let i = c.self.inside in let is = knows _ _ c.self.view_is in
    seat_stores i.token.me.0 c.store.new.token.me.0 c.index_of-at.result i.nodes.items i.writes.items i.reads.items i.blocks.items i.woke
    c.store.ensures.after
    (subst (λ (k : ℕ × View). CanStore (node_of k.1 k.0).phase) (λ j. (sym c.index_of-at.ensures j, sym is j)) c.requires.phase.1)
    c.self.invariant
