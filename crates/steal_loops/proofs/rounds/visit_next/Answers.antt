use Rattle.std.proofs.Common.{refl}
use Rattle.steal_loops.proofs.ClaimantLemmas.{again}
use Rattle.steal_loops.proofs.rounds.visit_next.Goals as goal

pub visit-requires-clause-claimant : goal.visit-requires-clause-claimant
visit-requires-clause-claimant g c = let h = c.requires.claimant in again c.args.shared.now c.args.claimant.now _ h refl h.answered refl

pub returns-then-cell-len-clause-claimant : goal.returns-then-cell-len-clause-claimant
returns-then-cell-len-clause-claimant g c = let h = c.requires.claimant in again c.args.shared.now c.args.claimant.now _ h refl h.answered refl
