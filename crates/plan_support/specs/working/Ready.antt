-- A script that can be planned with its inputs.
-- Source: this project's own.
use Rattle.graph_script.specs.declared.script.Script.{Script}
use Rattle.graph_script.specs.Kinds.{HasKinds}
use Rattle.graph_script.specs.Order.{HasOrder}
use Rattle.graph_script.specs.Ranges.{HasRanges}
use Rattle.graph_plan.specs.Conditions.{AreScriptPorts, HaveWaves}
use Rattle.script_inputs.specs.declared.inputs.Inputs.{Inputs}

-- READY: all that a plan of the script asks of it, of its ports and of its waves
pub record IsReady (script : Script) (inputs : Inputs) : Type 0 where
  pub ranges : HasRanges script
  pub kinds : HasKinds script
  pub order : HasOrder script
  pub ports : AreScriptPorts script.lines inputs.ports
  pub waves : HaveWaves inputs.ports inputs.waves
