-- The expected answer of `groups SCRIPT`: what `run` loads, and the plan of each part of it.
-- Source: PipeWire's documentation, "Graph Scheduling" (several drivers); scripts are this
-- project's.
use Rattle.std.specs.Prelude.{◌≡◌, ℕ, ◌<◌, ◌≤◌, List, length, map, All, Result, Ok, Err}
use Rattle.pw_outside.specs.Files.{Names}
use Rattle.pw_lists.specs.Limits.{nodes_limit}
use Rattle.pw_graph.specs.SoundPlan.{IsSoundPlan}
use Rattle.pw_graph.specs.declared.parts.Parts.{Parts}
use Rattle.wav_files.specs.declared.outcome.Outcome.{Outcome}
use Rattle.wav_files.specs.declared.wav.WavIn.{WavIn}
use Rattle.graph_script.specs.declared.script.Script.{Script}
use Rattle.port_model.specs.declared.port_state.Node.{Node}
use Rattle.graph_plan.specs.declared.fault.PlanFault.TheVariants as F
use Rattle.graph_plan.specs.Parted.{IsParted}
use Rattle.cycle_model.specs.WavesFit.{WavesFit}
use Rattle.cycle_trace.specs.Printable.{JoinsPorts}
use Rattle.pw_top.specs.declared.parted.Parted.{Parted}
use Rattle.run_results.specs.declared.status.Status.{Status}
use Rattle.run_results.specs.declared.status.Status.TheVariants as S
use Rattle.pw_top.specs.declared.inputs.PlanInputs.{PlanInputs}
use Rattle.pw_top.specs.Answer.{Expected}
use Rattle.pw_top.specs.Allowed.{Binds, Reads}
use Rattle.pw_top.specs.Joined.{joined_plan, all_of, in_order}
use Rattle.pw_top.specs.PlannedWork.{rendered}
use Rattle.pw_top.specs.ScriptFile.{LoadsScript}
use Rattle.pw_top.specs.SinkStores.{place_of, sink_line_of}

-- the plans of all parts, or the first line that passes a limit
abbrev pub PartsTo : Script → List Node → List WavIn → Result Parts Status → Type 0
PartsTo script ports waves (Ok parts) = IsParted script.lines script.names waves ports (Ok parts)
PartsTo script ports waves (Err (S.Limit line which)) =
    IsParted script.lines script.names waves ports (Err (F.Limit line which))
PartsTo script ports waves (Err status) = ⊥

abbrev pub KeepsParts : Script → List WavIn → Parts → Expected Parted → Type 0
KeepsParts script waves parts = Reads (λ outcome. outcome
    ≡ Ok (record { script = script; waves = waves; parts = parts }))

abbrev pub PartsInputs : Script → PlanInputs → Expected Parted → Type 0
PartsInputs script inputs = Binds (Reads (PartsTo script inputs.ports inputs.waves))
    (KeepsParts script inputs.waves)

-- of the script of a file
abbrev pub PartsFile : Names → List ℕ → Expected Parted → Type 0
PartsFile names word = Binds (LoadsScript names word) (λ s. PartsInputs s.script s.inputs)

-- what the parts give, whatever their histories
abbrev pub parts_outcome : Parted → Outcome
parts_outcome p = in_order (length p.script.names)
    (all_of (map (λ part. rendered part.plan p.waves) p.parts.parts))

-- what follows from it: the plans can be run, the text be printed, and what sinks keep be stored
pub record CanBeGrouped (p : Parted) : Type 0 where
  pub few : length p.script.names ≤ nodes_limit
  pub sound : All (λ part. IsSoundPlan part.plan) p.parts.parts
  pub fit : All (λ part. WavesFit part.plan p.waves) p.parts.parts
  pub joins : All (JoinsPorts (joined_plan (length p.script.names) p.parts).nodes) p.parts.lines
  pub placed : All (λ kept. 0 < place_of (sink_line_of p.script.lines kept.node))
      (parts_outcome p).sinks
