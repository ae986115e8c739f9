use Rattle.std.proofs.Common.{sym, ap, subst}
use Rattle.board_rule.specs.declared.view.View.{View}
use Rattle.board_rule.specs.Layout.{layout_of}
use Rattle.board_rule.specs.Known.{Known}
use Rattle.board_rule.specs.events.EventSteps.{StoresLate}
use Rattle.board_rule.proofs.driver_seat.DriverSeat.store_late.Goals as goal

pub store_late-requires-clause-phase : goal.store_late-requires-clause-phase
store_late-requires-clause-phase c = subst (λ (v : View). StoresLate (layout_of c.args.board.now.board_shape) v c.args.late)
    (sym (ap (λ (k : Known). k.knows) c.self.view_is)) c.requires.phase
