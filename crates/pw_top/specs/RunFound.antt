-- What `run` and `groups` found: the script that was run, its plan, the peaks of its meters, and of
-- `run` what both sides of its refused links admit.
-- Source: PipeWire's documentation, "Graph Scheduling"; scripts are this project's.
use Rattle.std.specs.Prelude.{◌≡◌, ℕ, List, [], length}
use Rattle.pw_outside.specs.Files.{Names}
use Rattle.cycle_model.specs.Rendering.{rendered_peaks}
use Rattle.refused_links.specs.declared.refused_link.RefusedLink.{RefusedLink}
use Rattle.run_results.specs.declared.found.What.{What}
use Rattle.run_results.specs.declared.found.What.TheVariants.{Run}
use Rattle.pw_top.specs.declared.parted.Parted.{Parted}
use Rattle.pw_top.specs.declared.planned.Planned.{Planned}
use Rattle.pw_top.specs.Allowed.{Gives}
use Rattle.pw_top.specs.Groups.{PartsFile, parts_outcome}
use Rattle.pw_top.specs.Joined.{joined_plan}
use Rattle.pw_top.specs.RefusedFound.{AreRefusedIn}
use Rattle.pw_top.specs.ScriptFile.{PlansFile}

-- the script and its plan, the peaks that the cycle function gives, and these refused links
abbrev pub plan_found : Planned → List RefusedLink → What
plan_found p refused = Run p.script p.plan (rendered_peaks p.plan p.waves) refused

-- OF A PLAN: with its refused links
pub record IsFoundOfPlan (p : Planned) (what : What) : Type 0 where
  pub refused : List RefusedLink
  pub links : AreRefusedIn p refused
  pub found : what ≡ plan_found p refused

-- OF `run`: of what the file of the script gives
pub record IsFoundByRun (names : Names) (script : List ℕ) (what : What) : Type 0 where
  pub planned : Planned
  pub plan : Gives (PlansFile names script) planned
  pub found : IsFoundOfPlan planned what

-- the same of all parts together: the nodes as each part ends them, the lines, and the peaks
-- ascending by node. No refused link: each part has a driver of its own, and a rehearsal of all
-- lines has not
abbrev pub parts_found : Parted → What
parts_found p =
    Run p.script (joined_plan (length p.script.names) p.parts) (parts_outcome p).peaks []

-- OF `groups`: by the parts that the file of the script gives
pub record IsFoundByGroups (names : Names) (script : List ℕ) (what : What) : Type 0 where
  pub parted : Parted
  pub parts : Gives (PartsFile names script) parted
  pub found : what ≡ parts_found parted
