use Rattle.std.proofs.Common.{refl, sym, subst, ◌∙◌}
use Rattle.steal_loops.specs.working.Claimants.{IsDriverClaimant}
use Rattle.steal_loops.proofs.ClaimantLemmas.{again}
use Rattle.steal_loops.proofs.scan.look_on.Goals as goal

pub rest_unless-requires : goal.rest_unless-requires
rest_unless-requires g c = let v = c.visit_next.ensures in record { way = (v.claimant.answered, v.number ∙ c.requires.scan.1) }

pub returns : goal.returns
returns g c = let v = c.visit_next.ensures.claimant in let w = c.rest_unless.ensures.way in record {
  scan = subst (IsDriverClaimant c.args.shared.now) (sym c.begin_anew-2.ensures)
      (again c.args.shared.now c.visit_next.new.claimant _ v refl w.0 refl, w.1);
}
