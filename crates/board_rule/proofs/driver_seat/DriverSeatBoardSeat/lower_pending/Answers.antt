use Rattle.std.proofs.Common.{◌∙◌, ◌+◌, ℕ, ap, sym, subst, cond, eqb, length}
use Rattle.board_rule.specs.declared.view.View.{View}
use Rattle.board_rule.specs.Known.{Known}
use Rattle.board_rule.specs.Layout.{layout_of}
use Rattle.board_rule.specs.events.Bits.{with_bit}
use Rattle.board_rule.specs.Steps.{CanKick}
use Rattle.board_rule.specs.working.DriverProgress.{told_so_far}
use Rattle.board_rule.proofs.LeadLemmas.{lead_lowers}
use Rattle.board_rule.proofs.driver_seat.DriverSeatBoardSeat.lower_pending.Goals as goal

pub invariant_of-self : goal.invariant_of-self
invariant_of-self c = let i = c.self.inside in let is = ap (λ (k : Known). k.knows) c.self.view_is in let p = layout_of c.args.board.now.board_shape in
    let at : ℕ = c.index_of-at.result in
    lead_lowers p i.token.me.0 c.lower-found.new.token.me.0 at i.lead i.reads.items i.woke c.self.invariant
    c.lower-found.result c.told_so_far-self-inside.result c.wake-self-inside.result c.lower-found.ensures.after
    (subst (λ (k : ℕ × View). CanKick (length (p.targets k.0)) k.1.lead.drive) (λ j. (sym c.index_of-at.ensures j, sym is j)) c.requires.phase.1)
    (c.told_so_far-self-inside.ensures ∙ ap (λ n. told_so_far n (i.lead.done + 1) (eqb c.lower-found.result 1)) c.targets_at.ensures)
    (c.wake-self-inside.ensures ∙ ap (λ n. cond (eqb c.lower-found.result 1) (with_bit i.woke (p.number n)) i.woke) c.target-target.ensures.is)
