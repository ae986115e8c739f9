-- What a call found beyond its report, by its command and its status.
-- Source: this project's own.
use Rattle.std.specs.Prelude.{◌≡◌, ℕ, Result, Ok, Err, IsSome}
use Rattle.pw_outside.specs.Files.{Held, names_in}
use Rattle.run_results.specs.declared.found.What.{What}
use Rattle.run_results.specs.declared.found.What.TheVariants.{Nothing}
use Rattle.run_results.specs.declared.status.Status.{Status}
use Rattle.run_results.specs.declared.status.Status.TheVariants as S
use Rattle.command_frame.specs.Words.{Words}
use Rattle.pw_top.specs.declared.usage.CommandLine.{CommandLine}
use Rattle.pw_top.specs.declared.usage.CommandLine.TheVariants as C
use Rattle.pw_top.specs.CheckFound.{IsFoundByCheck}
use Rattle.pw_top.specs.FilterFound.{IsFoundByFilter}
use Rattle.pw_top.specs.RunFound.{IsFoundByRun, IsFoundByGroups}
use Rattle.pw_top.specs.Usage.{command_of}

-- BY A COMMAND that was done, where the files report what they hold; other commands find nothing
abbrev pub IsWhatBy : CommandLine → Held → What → Type 0
IsWhatBy (C.Run c) held what = IsSome held → IsFoundByRun (names_in held) c.script what
IsWhatBy (C.Groups c) held what = IsSome held → IsFoundByGroups (names_in held) c.script what
IsWhatBy (C.Check c) held what = IsSome held
    → IsFoundByCheck (names_in held) c.script c.trace what
IsWhatBy (C.Filter c) held what = IsSome held → IsFoundByFilter (names_in held) c.a c.b what
IsWhatBy command held what = what ≡ Nothing

abbrev pub IsWhatOf : Result CommandLine ℕ → Held → What → Type 0
IsWhatOf (Ok command) held what = IsWhatBy command held what
IsWhatOf (Err word) held what = what ≡ Nothing

-- BY THE STATUS: nothing where not all was done
abbrev pub IsWhat : Words → Held → Status → What → Type 0
IsWhat words held S.Ok what = IsWhatOf (command_of words) held what
IsWhat words held status what = what ≡ Nothing
