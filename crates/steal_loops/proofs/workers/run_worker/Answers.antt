use Rattle.std.proofs.Common.{◌<◌, ℕ, true≢false, refl, sym, ap, ◌∙◌, subst}
use Rattle.crossbeam_utils.specs.Token.{parker_view}
use Rattle.atomic_table.specs.declared.shared.Seat.{Seat}
use Rattle.ready_queues.specs.declared.parking.Woken.{Woken}
use Rattle.ready_queues.specs.declared.start_view.StartView.{StartView}
use Rattle.ready_queues.specs.Starting.{IsStarted}
use Rattle.data_loop.proofs.RunningLemmas.{started_on}
use Rattle.steal_loops.specs.declared.claimant.Claimant.{Claimant}
use Rattle.steal_loops.specs.working.Cells.{HaveFinished}
use Rattle.steal_loops.proofs.ClaimantLemmas.{again}
use Rattle.steal_loops.proofs.workers.run_worker.Goals.{in-None, in-Some+then-is_over}
use Rattle.steal_loops.proofs.workers.run_worker.Goals as goal

pub loop-init : goal.loop-init
loop-init g c = let new = c.start.ensures in record {
  next = tt;
  finite = tt;
  claimant = again c.args.shared.now c.args.claimant _ c.requires.worker.0.0 refl new.answered refl;
  own = subst (λ (n : ℕ). n < c.args.shared.now.ways.loops) (sym new.started.number) c.requires.worker.0.1;
  started = ap (λ (v : StartView). v.runs) new.started.begins;
  awake = ap (λ (p : Seat (Unit {0}) Woken). parker_view p) new.started.own;
}

pub loop-preserved : goal.loop-preserved
loop-preserved g c = let i = c.loop.invariant in let e = c.is_over.ensures in record {
  next = tt;
  finite = tt;
  claimant = e.claimant;
  own = subst (λ (n : ℕ). n < c.args.shared.now.ways.loops) (sym e.number) i.own;
  started = started_on c.loop.claimant.way c.is_over.new.claimant.way e.begins i.started;
  awake = e.awake ∙ i.awake;
}

pub returns-clause-started : goal.returns-clause-started
returns-clause-started g c = elim c.match-next.branch [
  | in-None w ↦ absurd (true≢false (sym w.in-None.ensures.steps))
  | in-Some+then-is_over w ↦ subst (λ (x : Claimant). IsStarted x.way) (sym w.claimant-is)
      (started_on c.loop.claimant.way w.is_over.new.claimant.way w.is_over.ensures.begins c.loop.invariant.started)
]

pub returns-clause-over : goal.returns-clause-over
returns-clause-over g c = elim c.match-next.branch [
  | in-None w ↦ absurd (true≢false (sym w.in-None.ensures.steps))
  | in-Some+then-is_over w ↦
      subst (λ (x : Claimant). HaveFinished c.args.shared.now x.seat) (sym w.claimant-is) (w.is_over.ensures.over w.if-is_over.true)
]

pub returns-clause-awake : goal.returns-clause-awake
returns-clause-awake g c = elim c.match-next.branch [
  | in-None w ↦ absurd (true≢false (sym w.in-None.ensures.steps))
  | in-Some+then-is_over w ↦ ap (λ (x : Claimant). parker_view x.way.own) w.claimant-is ∙ w.is_over.ensures.awake ∙ c.loop.invariant.awake
]
