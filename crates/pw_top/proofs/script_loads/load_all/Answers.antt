-- Out of memory before the first line.
use Rattle.pw_outside.specs.Files.{names_in}
use Rattle.pw_top.specs.PlanInputs.{nothing_loaded}
use Rattle.pw_top.proofs.LoadsLemmas.{all_memory}
use Rattle.pw_top.proofs.script_loads.load_all.Goals as goal

pub returns-in-Err-clause-told : goal.returns-in-Err-clause-told
returns-in-Err-clause-told g c = λ h. all_memory (names_in (g.F.Files.held c.args.files.now)) c.args.lines.now nothing_loaded
