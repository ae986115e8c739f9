use Rattle.std.proofs.Common.{◌≤◌, List, length, take, map, subst, sym, arith}
use Rattle.std.proofs.lemmas.List.{take_all}
use Rattle.pw_graph.specs.declared.event.Event.{Event}
use Rattle.pw_graph.specs.History.{AreJoined, epoch_cycles, cycles_of}
use Rattle.pw_graph.specs.SoundShape.{IsSoundShape}
use Rattle.trace_check.specs.declared.following.Progress.{Progress}
use Rattle.trace_check.specs.working.Progress.{IsProgressOf, progress_length}
use Rattle.trace_check.proofs.EpochLemmas.{history_more, history_stops, history_cause}
use Rattle.trace_check.proofs.following.follow_epochs.Goals as goal

pub follow_epoch-requires : goal.follow_epoch-requires
follow_epoch-requires c = subst (λ e. IsSoundShape e.shape) (sym c.epoch-item.is)
    (c.requires c.loop-epoch.epoch-index c.epoch-item.result c.loop-epoch-test.true)

pub returns-in-Part-clause-progress : goal.returns-in-Part-clause-progress
returns-in-Part-clause-progress c =
    let e = c.epoch-item.result in
    let at = c.loop-epoch.at in let n = c.in-Part.n in
    let progress = subst (λ (p : List Event × Progress). IsProgressOf (epoch_cycles e.shape e.shape.cycles) p.0 p.1) (λ i. (c.split_at.ensures.back i, c.in-Part.is i))
    c.in_ok-n.ensures.progress in (
      history_stops c.args.epochs.now c.loop-epoch.epoch-index e c.loop-epoch-test.true c.epoch-item.is c.args.events.now at n
          c.requires c.loop-epoch.invariant.within c.loop-epoch.invariant.joined progress.0,
      history_cause c.args.epochs.now c.loop-epoch.epoch-index e c.loop-epoch-test.true c.epoch-item.is c.args.events.now at n c.in-Part.cause
          c.loop-epoch.invariant.within c.loop-epoch.invariant.joined progress.1,
    )

pub loop-epoch-preserved : goal.loop-epoch-preserved
loop-epoch-preserved c =
    let e = c.epoch-item.result in
    let le : c.in-Whole.n ≤ length c.split_at.result.1.now = subst (λ f. progress_length f ≤ length c.split_at.result.1.now) c.in-Whole.is c.in_ok-n.ensures.within in
    record {
      within = omega (arith, c.split_at.ensures.back_len);
      joined = history_more c.args.epochs.now c.loop-epoch.epoch-index e c.loop-epoch-test.true c.epoch-item.is c.args.events.now c.loop-epoch.at c.in-Whole.n
          c.loop-epoch.invariant.within c.loop-epoch.invariant.joined
          (subst (λ (p : List Event × Progress). IsProgressOf (epoch_cycles e.shape e.shape.cycles) p.0 p.1) (λ i. (c.split_at.ensures.back i, c.in-Whole.is i)) c.in_ok-n.ensures.progress);
    }

pub returns : goal.returns
returns c = record {
  within = c.loop-epoch.invariant.within;
  progress = subst (λ es. AreJoined (cycles_of (map (λ e. e.shape) es)) (take c.loop-epoch.at c.args.events.now))
      (take_all c.loop-epoch.epoch-index c.args.epochs.now c.loop-epoch-test.false) c.loop-epoch.invariant.joined;
}
