-- The runs give their work, whose stores can be made; where memory is short for the work, the answer is that of the runs.
use Rattle.std.proofs.Common.{refl, sym, ap, subst, inl, inr, [], length}
use Rattle.std.specs.Prelude.{Ok}
use Rattle.wav_files.specs.declared.outcome.Kept.{Kept}
use Rattle.wav_files.specs.WavWriting.{IsWave}
use Rattle.run_results.specs.declared.status.Status.TheVariants as S
use Rattle.command_frame.specs.declared.work.Work.{Work}
use Rattle.command_frame.specs.Answer.{ended}
use Rattle.command_frame.specs.Ending.IsEndOf.{is_end}
use Rattle.pw_top.specs.working.Ending.{IsDeliverable}
use Rattle.pw_top.specs.Groups.{parts_outcome}
use Rattle.pw_top.specs.GroupsWork.{groups_work}
use Rattle.pw_top.specs.Playing.{HasNothing}
use Rattle.pw_top.proofs.GroupsLemmas.{in_order_meets, stores_made, waves_kept}
use Rattle.pw_top.proofs.commands.groups.play_parts.Goals as goal

pub returns-in-Err-clause-done : goal.returns-in-Err-clause-done
returns-in-Err-clause-done g c = λ n. record {
  answer = ended [] S.Memory;
  allowed = (refl, inr refl);
  ends = is_end tt;
  played = inl (subst HasNothing (sym c.in-Err.ensures.none) c.requires.none);
}

pub returns-in-Err-groups_work-clause-done : goal.returns-in-Err-groups_work-clause-done
returns-in-Err-groups_work-clause-done g c = λ n. record {
  answer = record { loads = []; outcome = Ok (groups_work c.args.parted) };
  allowed = (refl, inl (c.in-Ok.ensures.run n, refl));
  ends = is_end tt;
  played = inr refl;
}

pub returns-in-Ok-groups_work-clause-done : goal.returns-in-Ok-groups_work-clause-done
returns-in-Ok-groups_work-clause-done g c = λ n. record {
  answer = record { loads = []; outcome = Ok (groups_work c.args.parted) };
  allowed = (refl, inl (c.in-Ok.ensures.run n, refl));
  ends = is_end (ap (λ (w : Work). Ok w) (sym c.in-Ok-groups_work.ensures.work));
  played = tt;
}

pub returns-in-Ok-groups_work-clause-cause : goal.returns-in-Ok-groups_work-clause-cause
returns-in-Ok-groups_work-clause-cause g c = let p = c.args.parted in let r = c.requires.parted in
    subst IsDeliverable (sym c.in-Ok-groups_work.ensures.work) (stores_made p.script.lines (parts_outcome p).sinks r.placed
    (in_order_meets p.waves (λ (kept : Kept). IsWave kept.wav) (length p.script.names) p.parts.parts (waves_kept p.waves p.parts.parts r.sound r.fit)))
