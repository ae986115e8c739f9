-- What is planned plays, and is found; a refusal has run nothing.
use Rattle.std.proofs.Common.{refl, inl}
use Rattle.pw_outside.specs.Files.{names_in}
use Rattle.run_results.specs.declared.status.Status.TheVariants as S
use Rattle.pw_top.specs.ScriptFile.{PlansFile}
use Rattle.pw_top.specs.ScriptFound.{end_of}
use Rattle.pw_top.proofs.PlayingLemmas.{plays_goes, plays_stops}
use Rattle.pw_top.proofs.FoundLemmas.{script_later}
use Rattle.pw_top.proofs.RunFoundLemmas.{run_found}
use Rattle.pw_top.proofs.commands.run.Running.play.Goals as goal

pub returns-clause-told : goal.returns-clause-told
returns-clause-told g c = λ h. plays_goes (PlansFile (names_in (g.F.Files.held c.args.files.now)) c.args.self.script) _ _ c.in-Ok.planned
    c.play_planned.result (c.in-Ok.ensures.told h) c.play_planned.ensures.done

pub returns-in-Err-clause-told : goal.returns-in-Err-clause-told
returns-in-Err-clause-told g c = λ h. plays_stops (PlansFile (names_in (g.F.Files.held c.args.files.now)) c.args.self.script) _ _ c.in-Err.status
    (c.in-Err.ensures.told h) c.requires.none

pub returns-clause-source : goal.returns-clause-source
returns-clause-source g c = script_later (g.F.Files.held c.args.files.now) c.args.self.script _ S.Ok (end_of c.play_planned.result) (inl refl)
    c.in-Ok.ensures.source

pub returns-clause-what : goal.returns-clause-what
returns-clause-what g c = run_found (g.F.Files.held c.args.files.now) c.args.self.script _ c.play_planned.result c.in-Ok.planned
    c.in-Ok.ensures.told c.play_planned.ensures.what
