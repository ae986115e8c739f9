-- The file of a script: the script, and what its lines load, in order; then its plan.
-- Source: this project's.
use Rattle.std.specs.Prelude.{◌≡◌, ℕ, List, Ok}
use Rattle.pw_outside.specs.Files.{Names}
use Rattle.pw_lists.specs.Limits.{script_bytes_limit}
use Rattle.pw_lists.specs.declared.limit.Which.TheVariants as W
use Rattle.graph_script.specs.declared.script.Script.{Script}
use Rattle.graph_script.specs.Grammar.{script_of}
use Rattle.graph_script.specs.Kinds.{HasKinds}
use Rattle.graph_script.specs.Order.{HasOrder}
use Rattle.graph_script.specs.Ranges.{HasRanges}
use Rattle.pw_top.specs.declared.planned.Planned.{Planned}
use Rattle.pw_top.specs.declared.inputs.PlanInputs.{PlanInputs}
use Rattle.pw_top.specs.declared.loaded_script.LoadedScript.{LoadedScript}
use Rattle.pw_top.specs.Answer.{Expected}
use Rattle.pw_top.specs.Allowed.{Binds, Reads, IsLoad}
use Rattle.pw_top.specs.Loads.{LoadsAll}
use Rattle.pw_top.specs.PlannedWork.{PlansInputs}
use Rattle.pw_top.specs.Refusals.{script_outcome}
use Rattle.pw_top.specs.PlanInputs.{nothing_loaded, AreInputsOf}

-- the files that the lines of a script name, in order
abbrev pub KeepsInputs : Script → PlanInputs → Expected LoadedScript → Type 0
KeepsInputs script inputs = Reads (λ outcome. outcome
    ≡ Ok (record { script = script; inputs = inputs }))

abbrev pub LoadsInputs : Names → Script → Expected LoadedScript → Type 0
LoadsInputs names script = Binds (LoadsAll names script.lines nothing_loaded) (KeepsInputs script)

abbrev pub ReadsScript : Names → List ℕ → Expected LoadedScript → Type 0
ReadsScript names bytes = Binds (Reads (λ outcome. outcome ≡ script_outcome (script_of bytes)))
    (LoadsInputs names)

-- THE SCRIPT of a file is loaded and read, then what its lines name is loaded
abbrev pub LoadsScript : Names → List ℕ → Expected LoadedScript → Type 0
LoadsScript names word = Binds (IsLoad names 0 word script_bytes_limit W.ScriptBytes)
    (ReadsScript names)

-- what follows from it: what a plan asks of a script, its ports and its waves
pub record IsLoadedScript (s : LoadedScript) : Type 0 where
  pub ranges : HasRanges s.script
  pub kinds : HasKinds s.script
  pub order : HasOrder s.script
  pub inputs : AreInputsOf s.script.lines s.inputs

-- THE PLAN of the script of a file
abbrev pub PlansFile : Names → List ℕ → Expected Planned → Type 0
PlansFile names word = Binds (LoadsScript names word) (λ s. PlansInputs s.script s.inputs)
