-- What is found by the plan is found by its script, whose bytes are kept.
use Rattle.std.proofs.Common.{refl, inl}
use Rattle.run_results.specs.declared.status.Status.TheVariants as S
use Rattle.pw_top.specs.ScriptFound.{end_of}
use Rattle.pw_top.proofs.FoundLemmas.{check_found, script_later}
use Rattle.pw_top.proofs.commands.check_traces.CheckTrace.find.Goals as goal

pub returns-clause-what : goal.returns-clause-what
returns-clause-what g c = check_found (g.F.Files.held c.args.files.now) _ c.args.self.script c.args.self.trace c.in-Ok.planned _
    c.check_plan.result c.in-Ok.ensures.files.held c.in-Ok.ensures.told c.check_plan.ensures.what

pub returns-clause-source : goal.returns-clause-source
returns-clause-source g c = script_later (g.F.Files.held c.args.files.now) c.args.self.script _ S.Ok (end_of c.check_plan.result) (inl refl)
    c.in-Ok.ensures.source
