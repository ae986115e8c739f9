-- What a call stored and put, where all was done. Source: this project's own.
use Rattle.std.specs.Prelude.{◌≡◌, Option, Some, None, Result, Ok, Err}
use Rattle.pw_outside.specs.Files.{Held}
use Rattle.pw_outside.specs.Output.{Given, Gave}
use Rattle.run_results.specs.declared.status.Status.{Status}
use Rattle.run_results.specs.declared.status.Status.TheVariants as S
use Rattle.command_frame.specs.declared.work.Work.{Work}
use Rattle.command_frame.specs.Stores.{AllStored}

-- work was found, and all of it was stored and put: files and output before and after
pub record IsDone (held held' : Held) (given given' : Given) (found : Option Work) : Type 0 where
  pub work : Work
  pub there : found ≡ Some work
  pub stored : AllStored work.stores held held'
  pub put : Gave work.text given given'

-- BY THE STATUS: the work that was done, and nothing where not all was done
abbrev pub IsWorkFound : Status → Held → Held → Given → Given → Option Work → Type 0
IsWorkFound S.Ok held held' given given' found = IsDone held held' given given' found
IsWorkFound status held held' given given' found = found ≡ None

-- the work that was prepared
abbrev pub work_in : Result Work Status → Option Work
work_in (Ok work) = Some work
work_in (Err status) = None
