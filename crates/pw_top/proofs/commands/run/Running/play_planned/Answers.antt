-- A run gives its work, whose stores can be made; where memory is short for the work, the answer is that of the run.
use Rattle.std.proofs.Common.{refl, sym, ap, subst, inl, inr, []}
use Rattle.std.specs.Prelude.{Ok}
use Rattle.run_results.specs.declared.status.Status.TheVariants as S
use Rattle.command_frame.specs.declared.work.Work.{Work}
use Rattle.command_frame.specs.Answer.{ended}
use Rattle.command_frame.specs.Ending.IsEndOf.{is_end}
use Rattle.pw_top.specs.working.Ending.{IsDeliverable}
use Rattle.pw_top.specs.Playing.{HasNothing}
use Rattle.pw_top.specs.PlannedWork.{plan_work}
use Rattle.pw_top.proofs.PlanWorkLemmas.{stores_made}
use Rattle.pw_top.proofs.commands.run.Running.play_planned.Goals as goal

pub returns-in-Err-clause-done : goal.returns-in-Err-clause-done
returns-in-Err-clause-done g c = record {
  answer = ended [] S.Memory;
  allowed = (refl, inr refl);
  ends = is_end tt;
  played = inl (subst HasNothing (sym c.in-Err.ensures.none) c.requires.none);
}

pub returns-in-Err-plan_work-clause-done : goal.returns-in-Err-plan_work-clause-done
returns-in-Err-plan_work-clause-done g c = record {
  answer = record { loads = []; outcome = Ok (plan_work c.args.planned c.args.self.now.trace c.run_planned.new.played.history) };
  allowed = (refl, inl (c.in-Ok.ensures.run, refl));
  ends = is_end tt;
  played = inr refl;
}

pub returns-in-Ok-plan_work-clause-done : goal.returns-in-Ok-plan_work-clause-done
returns-in-Ok-plan_work-clause-done g c = record {
  answer = record { loads = []; outcome = Ok (plan_work c.args.planned c.args.self.now.trace c.run_planned.new.played.history) };
  allowed = (refl, inl (c.in-Ok.ensures.run, refl));
  ends = is_end (ap (λ (w : Work). Ok w) (sym c.in-Ok-plan_work.ensures.work));
  played = tt;
}

pub returns-in-Ok-plan_work-clause-cause : goal.returns-in-Ok-plan_work-clause-cause
returns-in-Ok-plan_work-clause-cause g c = subst IsDeliverable (sym c.in-Ok-plan_work.ensures.work)
    (stores_made c.args.planned.script.lines c.args.planned.plan c.args.planned.waves c.requires.planned.sound
    c.requires.planned.fit c.requires.planned.placed)
