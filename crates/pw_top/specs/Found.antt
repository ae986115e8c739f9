-- What a call found, beyond its report: the script that it read, the work that was done, and what
-- its command found. Source: this project's own.
use Rattle.std.specs.Prelude.{◌≡◌, None, Result}
use Rattle.pw_outside.specs.Files.{Held}
use Rattle.run_results.specs.declared.found.Found.{Found}
use Rattle.run_results.specs.declared.found.What.TheVariants.{Nothing}
use Rattle.run_results.specs.declared.status.Status.{Status}
use Rattle.run_results.specs.declared.status.Status.TheVariants as S
use Rattle.command_frame.specs.declared.work.Work.{Work}
use Rattle.command_frame.specs.Words.{Words}
use Rattle.pw_top.specs.ScriptFound.{IsScriptOf}
use Rattle.pw_top.specs.Usage.{command_of}
use Rattle.pw_top.specs.WhatFound.{IsWhat}
use Rattle.pw_top.specs.WorkFound.{work_in}

-- WHAT A CALL FOUND of its script and of its trace, by its words, by what the files held before it
-- and by its status; of its work `IsWorkFound` speaks
pub record IsFound (words : Words) (held : Held) (status : Status) (found : Found) : Type 0 where
  pub script : IsScriptOf (command_of words) held status found.script
  pub what : IsWhat words held status found.what

abbrev pub HasFoundNothing : Found → Type 0
HasFoundNothing found = (found.script ≡ None) × (found.work ≡ None) × (found.what ≡ Nothing)

-- what is left of what was found, and of the work that was prepared
abbrev pub found_after : Status → Result Work Status → Found → Found
found_after S.Ok made found =
    record { script = found.script; work = work_in made; what = found.what }
found_after status made found = record { script = found.script; work = None; what = Nothing }
