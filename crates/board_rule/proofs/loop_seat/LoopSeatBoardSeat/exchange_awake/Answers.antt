use Rattle.std.proofs.Common.{◌≡◌, ℕ, sym, ap, subst}
use Rattle.board_rule.specs.declared.view.View.{View}
use Rattle.board_rule.specs.Layout.{layout_of}
use Rattle.board_rule.specs.Known.{Known}
use Rattle.board_rule.specs.View.{node_of}
use Rattle.board_rule.specs.declared.view.Phase.TheVariants.{Idle}
use Rattle.board_rule.proofs.activation.ProgressLemmas.{seat_claims}
use Rattle.board_rule.proofs.loop_seat.LoopSeatBoardSeat.exchange_awake.Goals as goal

-- the view, and the index of the node
knows : (v w : Known) → v ≡ w → v.knows ≡ w.knows
knows v w e = ap (λ (k : Known). k.knows) e

pub invariant_of-self : goal.invariant_of-self
invariant_of-self c = let i = c.self.inside in let is = knows _ _ c.self.view_is in
    seat_claims (layout_of c.args.board.now.board_shape)
    i.token.me.0 c.claim.new.token.me.0 c.index_of-at.result c.claim.result i.nodes.items i.writes.items i.reads.items i.blocks.items
    i.woke c.claim.ensures.after
    (subst (λ (k : ℕ × View). (node_of k.1 k.0).phase ≡ Idle) (λ j. (sym c.index_of-at.ensures j, sym is j)) c.requires.phase.1)
    c.self.invariant
