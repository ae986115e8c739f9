use Rattle.std.proofs.Common.{◌+◌, [], ◌∷◌, List, take, subst, arith, refl}
use Rattle.pw_graph.specs.declared.event.Event.{Event}
use Rattle.pw_graph.specs.History.{AreJoined}
use Rattle.trace_check.specs.declared.following.Progress.TheVariants.{Part}
use Rattle.trace_check.specs.working.Progress.{IsProgressOf}
use Rattle.trace_check.proofs.EpochLemmas.{epoch_more, epoch_stops, epoch_cause}
use Rattle.trace_check.proofs.following.follow_epoch.Goals as goal

pub returns-in-Part-clause-progress : goal.returns-in-Part-clause-progress
returns-in-Part-clause-progress c =
    let s = c.args.shape.now in let k = c.loop-k.k in
    let at = c.loop-k.at in let n = c.in-Part.n in let cause = c.in-Part.cause in
    let progress = subst (λ es. IsProgressOf ((s, s.first + k) ∷ []) es (Part n cause)) c.split_at.ensures.back c.in-Part.ensures.progress in (
      epoch_stops s c.requires k (s.first + k) refl c.args.events.now at n c.loop-k-test.true c.loop-k.invariant.within c.loop-k.invariant.joined progress.0,
      epoch_cause s c.requires k (s.first + k) refl c.args.events.now at n cause c.loop-k-test.true c.loop-k.invariant.within c.loop-k.invariant.joined progress.1,
    )

pub loop-k-preserved : goal.loop-k-preserved
loop-k-preserved c =
    let s = c.args.shape.now in let k = c.loop-k.k in record {
      within = omega (arith, c.split_at.ensures.back_len, c.in-Whole.ensures.within);
      joined = epoch_more s c.requires k (s.first + k) refl c.args.events.now c.loop-k.at c.in-Whole.n c.loop-k.invariant.within c.loop-k.invariant.joined
          (subst (λ (es : List Event). AreJoined ((s, s.first + k) ∷ []) (take c.in-Whole.n es)) c.split_at.ensures.back c.in-Whole.ensures.progress);
    }
