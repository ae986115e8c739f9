-- Laws of `specs/RunFound.antt`: what is found of a plan, or of parts, is found of the script whose file gave them.
use Rattle.std.proofs.Common.{◌≡◌, ℕ, List}
use Rattle.std.specs.Prelude.{Result, Ok, OnOk, IsSome}
use Rattle.pw_outside.specs.Files.{Held, names_in}
use Rattle.run_results.specs.declared.found.What.{What}
use Rattle.run_results.specs.declared.status.Status.{Status}
use Rattle.command_frame.specs.declared.work.Work.{Work}
use Rattle.pw_top.specs.declared.parted.Parted.{Parted}
use Rattle.pw_top.specs.declared.planned.Planned.{Planned}
use Rattle.pw_top.specs.Groups.{PartsFile}
use Rattle.pw_top.specs.RunFound.{IsFoundOfPlan, parts_found, IsFoundByRun, IsFoundByGroups}
use Rattle.pw_top.specs.ScriptFile.{PlansFile}
use Rattle.pw_top.specs.working.Ending.{Tells}
use Rattle.pw_top.proofs.FoundLemmas.{part_gives_it, ok_then}

module _ (held : Held) (script : List ℕ) (what : What) (r : Result Work Status) where
  pub run_found : (p : Planned) → Tells held (λ names. PlansFile names script) (Ok p) → OnOk r (IsFoundOfPlan p what)
      → OnOk r (IsSome held → IsFoundByRun (names_in held) script what)
  run_found p told found = ok_then r (IsFoundOfPlan p what) (IsSome held → IsFoundByRun (names_in held) script what)
      (λ f h. record { planned = p; plan = part_gives_it (PlansFile (names_in held) script) p (told h); found = f })
      found

  pub groups_found : (p : Parted) → Tells held (λ names. PartsFile names script) (Ok p) → OnOk r (what ≡ parts_found p)
      → OnOk r (IsSome held → IsFoundByGroups (names_in held) script what)
  groups_found p told found = ok_then r (what ≡ parts_found p) (IsSome held → IsFoundByGroups (names_in held) script what)
      (λ f h. record { parted = p; parts = part_gives_it (PartsFile (names_in held) script) p (told h); found = f })
      found
