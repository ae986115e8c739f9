-- The plan of a script, and the files and text of its run.
-- Source: PipeWire's documentation, "Graph Scheduling"; scripts are this project's.
use Rattle.std.specs.Prelude.{◌≡◌, Bool, true, false, List, [], map, Option, Some, None, Result, Ok, Err}
use Rattle.pw_graph.specs.declared.event.Event.{Event}
use Rattle.pw_graph.specs.declared.plan.Plan.{Plan}
use Rattle.wav_files.specs.declared.wav.WavIn.{WavIn}
use Rattle.wav_files.specs.declared.outcome.Outcome.{Outcome}
use Rattle.graph_script.specs.declared.script.Script.{Script}
use Rattle.port_model.specs.declared.port_state.Node.{Node}
use Rattle.graph_plan.specs.declared.fault.PlanFault.TheVariants as F
use Rattle.graph_plan.specs.Planned.{IsPlanned}
use Rattle.cycle_model.specs.Rendering.{rendered_sinks, rendered_peaks}
use Rattle.cycle_trace.specs.RunText.{run_text_of}
use Rattle.pw_top.specs.declared.planned.Planned.{Planned}
use Rattle.pw_top.specs.declared.playing.Crew.{Crew}
use Rattle.run_results.specs.declared.status.Status.{Status}
use Rattle.run_results.specs.declared.status.Status.TheVariants as S
use Rattle.pw_top.specs.declared.inputs.PlanInputs.{PlanInputs}
use Rattle.command_frame.specs.declared.work.Work.{Work}
use Rattle.pw_top.specs.Answer.{Answer, Expected}
use Rattle.pw_top.specs.Allowed.{Binds, Reads}
use Rattle.pw_top.specs.Playing.{Happened, HasRun}
use Rattle.pw_top.specs.SinkStores.{sink_store}

-- a plan of the script, or the first line that passes a limit
abbrev pub PlansTo : Script → List Node → List WavIn → Result Plan Status → Type 0
PlansTo script ports waves (Ok plan) = IsPlanned script.lines script.names waves ports (Ok plan)
PlansTo script ports waves (Err (S.Limit line which)) =
    IsPlanned script.lines script.names waves ports (Err (F.Limit line which))
PlansTo script ports waves (Err status) = ⊥

-- the plan with the script, and its ports and waves as they were before the first line
abbrev pub KeepsPlan : Script → List Node → List WavIn → Plan → Expected Planned → Type 0
KeepsPlan script ports waves plan = Reads (λ outcome. outcome
    ≡ Ok (record { script = script; ports = ports; waves = waves; plan = plan }))

abbrev pub PlansPorts : Script → List Node → List WavIn → Expected Planned → Type 0
PlansPorts script ports waves = Binds (Reads (PlansTo script ports waves))
    (KeepsPlan script ports waves)

-- of what the lines have loaded
abbrev pub PlansInputs : Script → PlanInputs → Expected Planned → Type 0
PlansInputs script inputs = PlansPorts script inputs.ports inputs.waves

-- what a plan gives from its waves, whatever its history
abbrev pub rendered : Plan → List WavIn → Outcome
rendered plan waves = record {
  history = [];
  sinks = rendered_sinks plan waves;
  peaks = rendered_peaks plan waves;
}

-- the events, where they are wanted in the text
abbrev pub if_traced : Bool → List Event → Option (List Event)
if_traced true history = Some history
if_traced false history = None

-- THE WORK of what is planned: its sinks' files, and the text of its run
abbrev pub plan_work : Planned → Bool → List Event → Work
plan_work p trace history = record {
  stores = map (sink_store p.script.lines) (rendered_sinks p.plan p.waves);
  text = run_text_of p.plan (if_traced trace history) (rendered p.plan p.waves);
}

-- a run of it was made, and gives the work
abbrev pub PlaysTo : Crew → Bool → Happened → Planned → Result Work Status → Type 0
PlaysTo crew trace h p outcome = HasRun p.plan p.waves crew h
    × (outcome ≡ Ok (plan_work p trace h.history))

abbrev pub PlaysPlan : Crew → Bool → Happened → Planned → Answer → Type 0
PlaysPlan crew trace h p = Reads (PlaysTo crew trace h p)
