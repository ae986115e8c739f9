-- What a host plays: the voices that it gives, and the sinks that it gets.
-- Source: this project's own.
use Rattle.std.specs.Prelude.{◌≡◌, ℕ, ℤ, List, [], map, Ok}
use Rattle.pw_graph.specs.declared.plan.Plan.{Plan}
use Rattle.wav_files.specs.declared.wav.Wav.{Wav}
use Rattle.wav_files.specs.declared.outcome.Kept.{Kept}
use Rattle.graph_script.specs.declared.script.Script.{Script}
use Rattle.graph_script.specs.Grammar.{script_of}
use Rattle.graph_plan.specs.Planned.{IsPlanned}
use Rattle.script_inputs.specs.declared.inputs.Inputs.{Inputs}
use Rattle.script_inputs.specs.ScriptInputs.{AreInputsOf}
use Rattle.cycle_model.specs.Rendering.{rendered_sinks}

-- samples as a wave of one channel, 48000 frames a second
abbrev pub mono : List ℤ → Wav
mono samples = record { rate = 48000; channels = 1; samples = samples }

-- PLAYED: a text spells a script, whose lines make ports and waves of these voices and of no
-- format; with them it has a plan, and the sinks keep what the cycle function says of that plan
pub record IsPlayed (text : List ℕ) (voices : List (List ℤ)) (sinks : List Kept) : Type 0 where
  pub script : Script
  pub inputs : Inputs
  pub plan : Plan
  pub spelled : script_of text ≡ Ok script
  pub made : AreInputsOf script.lines (map mono voices) [] (Ok inputs)
  pub planned : IsPlanned script.lines script.names inputs.waves inputs.ports (Ok plan)
  pub kept : sinks ≡ rendered_sinks plan inputs.waves
