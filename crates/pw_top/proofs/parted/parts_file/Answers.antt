-- The bytes of a script that was loaded stay.
use Rattle.std.proofs.Common.{refl, inl}
use Rattle.run_results.specs.declared.status.Status.TheVariants as S
use Rattle.pw_top.specs.ScriptFound.{end_of}
use Rattle.pw_top.proofs.FoundLemmas.{script_later}
use Rattle.pw_top.proofs.parted.parts_file.Goals as goal

pub returns-in-Ok-clause-source : goal.returns-in-Ok-clause-source
returns-in-Ok-clause-source g c = script_later (g.F.Files.held c.args.files.now) c.args.script.now _ S.Ok (end_of c.parts_inputs.result) (inl refl)
    c.in-Ok.ensures.source
