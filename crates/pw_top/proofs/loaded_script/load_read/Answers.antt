use Rattle.std.proofs.Common.{◌≡◌}
use Rattle.pw_outside.specs.Files.{names_in}
use Rattle.graph_script.specs.Grammar.{script_of}
use Rattle.pw_top.specs.Allowed.{Reads}
use Rattle.pw_top.specs.Refusals.{script_outcome}
use Rattle.pw_top.specs.ScriptFile.{LoadsInputs}
use Rattle.pw_top.proofs.AllowedLemmas.{binds_goes}
use Rattle.pw_top.proofs.loaded_script.load_read.Goals as goal

pub returns-in-Ok-clause-told : goal.returns-in-Ok-clause-told
returns-in-Ok-clause-told g c = λ h.
    binds_goes (Reads (λ outcome. outcome ≡ script_outcome (script_of c.args.bytes.now)))
    (LoadsInputs (names_in (g.F.Files.held c.args.files.now))) c.in-Ok.script c.load_lines_of.result c.in-Ok.ensures.told
    (c.load_lines_of.ensures.told h)
