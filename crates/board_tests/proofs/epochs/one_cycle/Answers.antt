use Rattle.std.proofs.Common.{sym, subst}
use Rattle.board_rule.specs.Layout.{layout_of}
use Rattle.data_loop.specs.Driving.{MayDrive}
use Rattle.driver_cycle.proofs.LeadingLemmas.{woken_may}
use Rattle.board_tests.proofs.epochs.one_cycle.Goals as goal

pub pass_driver-requires-clause-awake : goal.pass_driver-requires-clause-awake
pass_driver-requires-clause-awake c = let p = layout_of c.args.board.now.board_shape in let e = c.in-Awake.ensures.claim in
    subst (MayDrive p c.claim_driver.new.seat.knows) (sym e.0) (woken_may p c.look.new.seat.knows c.claim_driver.new.seat.knows c.look.ensures.waits
    (λ l low is. absurd (c.requires.alone l low is)) e.1)
