use Rattle.std.proofs.Common.{◌≡◌, true, subst}
use Rattle.std.specs.Prelude.{All}
use Rattle.steal_loops.proofs.ClaimantLemmas.{all_ended}
use Rattle.steal_loops.proofs.workers.is_over.Goals as goal

pub returns-then-are_all-clause-over : goal.returns-then-are_all-clause-over
returns-then-are_all-clause-over g c is = all_ended c.args.shared.now c.visit_next.new.claimant c.visit_next.ensures.claimant
    (subst (All (λ e. e ≡ true)) c.as_slice.ensures.value (c.are_all.ensures c.if-are_all.true))
