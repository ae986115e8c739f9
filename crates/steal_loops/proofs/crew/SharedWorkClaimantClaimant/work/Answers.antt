use Rattle.steal_loops.proofs.ClaimantLemmas.{finished_in}
use Rattle.steal_loops.proofs.crew.SharedWorkClaimantClaimant.work.Goals as goal

pub returns : goal.returns
returns g c = record {
  finished = λ shared h. finished_in shared c.args.self.now c.args.member.seat c.run_worker.result.seat h.worker.0.0.seat c.requires.worker.0.0.seat
      c.run_worker.ensures.over;
  awake = c.run_worker.ensures.awake;
}
