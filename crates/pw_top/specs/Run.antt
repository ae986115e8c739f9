-- The expected answer of `run SCRIPT` with its options: the plan of the script, and the work of a
-- run of that.
-- Source: this project's.
use Rattle.pw_outside.specs.Files.{Names}
use Rattle.pw_top.specs.declared.commands.run.Running.{Running}
use Rattle.pw_top.specs.Answer.{Answer}
use Rattle.pw_top.specs.Allowed.{Binds}
use Rattle.pw_top.specs.PlannedWork.{PlaysPlan}
use Rattle.pw_top.specs.Playing.{Happened}
use Rattle.pw_top.specs.ScriptFile.{PlansFile}

-- THE ANSWER: the plan, then the work of a run by the loops that the words name, which happened
abbrev pub IsRunAnswer : Running → Happened → Names → Answer → Type 0
IsRunAnswer c h names = Binds (PlansFile names c.script) (PlaysPlan c.crew c.trace h)
