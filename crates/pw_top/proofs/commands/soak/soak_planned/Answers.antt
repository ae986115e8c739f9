-- A run gives its line; where memory is short for it, the answer is that of the run.
use Rattle.std.proofs.Common.{refl, sym, ap, subst, inl, inr, []}
use Rattle.std.specs.Prelude.{Ok}
use Rattle.std.proofs.lemmas.List.Elements.{All-nil}
use Rattle.run_results.specs.declared.status.Status.TheVariants as S
use Rattle.command_frame.specs.declared.work.Work.{Work}
use Rattle.command_frame.specs.Answer.{ended}
use Rattle.command_frame.specs.Ending.IsEndOf.{is_end}
use Rattle.pw_top.specs.working.Ending.{IsStorable, IsDeliverable}
use Rattle.pw_top.specs.Playing.{HasNothing}
use Rattle.pw_top.specs.Soak.{soak_work}
use Rattle.pw_top.proofs.commands.soak.soak_planned.Goals as goal

pub returns-in-Err-clause-done : goal.returns-in-Err-clause-done
returns-in-Err-clause-done g c = record {
  answer = ended [] S.Memory;
  allowed = (refl, inr refl);
  ends = is_end tt;
  played = inl (subst HasNothing (sym c.in-Err.ensures.none) c.requires.none);
}

pub returns-in-Err-soak_work-clause-done : goal.returns-in-Err-soak_work-clause-done
returns-in-Err-soak_work-clause-done g c = record {
  answer = record { loads = []; outcome = Ok (soak_work c.args.number c.args.planned.now) };
  allowed = (refl, inl (c.in-Ok.ensures.run, refl));
  ends = is_end tt;
  played = inr refl;
}

pub returns-clause-done : goal.returns-clause-done
returns-clause-done g c = record {
  answer = record { loads = []; outcome = Ok (soak_work c.args.number c.args.planned.now) };
  allowed = (refl, inl (c.in-Ok.ensures.run, refl));
  ends = is_end (ap (λ (w : Work). Ok w) (sym c.in-Ok-soak_work.ensures));
  played = tt;
}

pub returns-clause-cause : goal.returns-clause-cause
returns-clause-cause g c = subst IsDeliverable (sym c.in-Ok-soak_work.ensures) (All-nil IsStorable)
