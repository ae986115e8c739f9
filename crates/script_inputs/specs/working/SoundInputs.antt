-- Sound inputs: what each line keeps of them, and what it asks of the nodes before it.
-- Source: this project's own.
use Rattle.std.specs.Prelude.{◌≡◌, ◌<◌, List, ◌++◌, map, Option, None, All, length, IfSome, option_map, option_to_list}
use Rattle.pw_graph.specs.declared.kind.Kind.{Kind}
use Rattle.pw_graph.specs.KindRanges.{IsInRange}
use Rattle.pw_lists.specs.Limits.{nodes_limit}
use Rattle.graph_script.specs.declared.command.Command.{Command}
use Rattle.graph_script.specs.declared.command.Command.TheVariants as C
use Rattle.graph_script.specs.Kinds.{made_by}
use Rattle.port_model.specs.declared.port_state.Node.{Node}
use Rattle.port_model.specs.Offers.{HasFileNumbers}
use Rattle.port_model.specs.PortState.{IsPort}
use Rattle.port_model.specs.SoundPorts.{AreSoundNodes}
use Rattle.graph_plan.specs.Conditions.{HaveWaves}
use Rattle.script_inputs.specs.declared.inputs.Inputs.{Inputs}
use Rattle.script_inputs.specs.Inputs.{plain_kind}

-- the kind of the node that a command makes
abbrev pub kind_by : Command → Option Kind
kind_by command = option_map (λ m. m.1) (made_by command)

-- what a line asks of the nodes before it: it makes the next one, or names a port that is there
abbrev pub MayMake : List Node → Command → Type 0
MayMake nodes (C.Source node file) = (node ≡ length nodes) × (length nodes < nodes_limit)
MayMake nodes (C.Offer port file) = IsPort nodes port
MayMake nodes command = IfSome (plain_kind command)
    (λ kind. (length nodes < nodes_limit) × IsInRange kind × HasFileNumbers kind 0 0)

-- SOUND: no port has a format or a count of buffers, and the waves are those of the sources
pub record AreSoundInputs (inputs : Inputs) : Type 0 where
  pub ports : AreSoundNodes inputs.ports
  pub unused : All (λ n. All (λ s. (s.format ≡ None) × (s.buffers ≡ None)) n.ports) inputs.ports
  pub waves : HaveWaves inputs.ports inputs.waves

-- sound after a line too, with the node that it made after the others
pub record AreInputsAfter (inputs : Inputs) (made : Option Kind) (after : Inputs) : Type 0 where
  pub sound : AreSoundInputs after
  pub kinds : map (λ n. n.kind) after.ports
      ≡ map (λ n. n.kind) inputs.ports ++ option_to_list made
