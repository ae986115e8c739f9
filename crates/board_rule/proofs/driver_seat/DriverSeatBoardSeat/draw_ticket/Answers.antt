use Rattle.std.proofs.Common.{sym, ap, subst}
use Rattle.board_rule.specs.declared.view.View.{View}
use Rattle.board_rule.specs.Known.{Known}
use Rattle.board_rule.specs.events.EventSteps.{CanDrawLead}
use Rattle.board_rule.proofs.LeadLemmas.{lead_draws_on}
use Rattle.board_rule.proofs.driver_seat.DriverSeatBoardSeat.draw_ticket.Goals as goal

pub invariant_of-self : goal.invariant_of-self
invariant_of-self c = let i = c.self.inside in let is = ap (λ (k : Known). k.knows) c.self.view_is in
    lead_draws_on i.token.me.0 c.draw-ticket.new.token.me.0 c.index_of-at.result i.lead c.lead_draw.new.lead i.reads.items i.woke
    c.self.invariant c.draw-ticket.result c.woke_at_draw-self-inside.result c.draw-ticket.ensures.after
    (subst (λ (v : View). CanDrawLead v.lead.checked v.lead.drive) (sym is) c.requires.phase.1)
    c.lead_draw.ensures c.woke_at_draw-self-inside.ensures
