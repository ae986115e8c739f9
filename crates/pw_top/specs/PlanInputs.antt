-- The inputs of a plan: the nodes that the lines of a script have made so far, with what their
-- ports offer, and the waves of their sources.
-- Source: this project's own grammar, docs/FORMATS.md.
use Rattle.std.specs.Prelude.{◌≡◌, ℕ, ◌+◌, ◌≤◌, List, [], ◌∷◌, ◌++◌, map, Option, Some, None, All, option_to_list}
use Rattle.pw_graph.specs.declared.kind.Kind.{Kind}
use Rattle.pw_graph.specs.declared.kind.Kind.TheVariants as K
use Rattle.pw_lists.specs.Limits.{all_wav_bytes_limit}
use Rattle.wav_files.specs.declared.wav.Wav.{Wav}
use Rattle.graph_script.specs.declared.script.Line.{Line}
use Rattle.port_model.specs.declared.port_state.Node.{Node}
use Rattle.port_model.specs.Offers.{new_node}
use Rattle.port_model.specs.SoundPorts.{AreSoundNodes}
use Rattle.graph_plan.specs.Conditions.{AreScriptPorts, HaveWaves}
use Rattle.pw_top.specs.declared.inputs.PlanInputs.{PlanInputs}

-- before the first line
abbrev pub nothing_loaded : PlanInputs
nothing_loaded = record { ports = []; waves = []; used = 0 }

-- a node more, that of a source with its wave from a file of n bytes
abbrev pub with_wave : PlanInputs → ℕ → ℕ → Wav → PlanInputs
with_wave inputs node size wav = record {
  ports = inputs.ports ++ new_node K.Source wav.rate wav.channels ∷ [];
  waves = inputs.waves ++ (record { node = node; wav = wav }) ∷ [];
  used = inputs.used + size;
}

-- a node more of such a kind, if a line makes one
abbrev pub with_plain : PlanInputs → Option Kind → PlanInputs
with_plain inputs None = inputs
with_plain inputs (Some kind) = record inputs { ports = inputs.ports ++ new_node kind 0 0 ∷ [] }

-- no port has a format or a count of buffers yet
abbrev pub AreUnused : List Node → Type 0
AreUnused nodes = All (λ n. All (λ s. (s.format ≡ None) × (s.buffers ≡ None)) n.ports) nodes

-- SOUND: as lines leave it, one after the other
pub record AreSoundInputs (inputs : PlanInputs) : Type 0 where
  pub ports : AreSoundNodes inputs.ports
  pub unused : AreUnused inputs.ports
  pub waves : HaveWaves inputs.ports inputs.waves
  pub used : inputs.used ≤ all_wav_bytes_limit

-- sound after a line too, with the node that it made after the others
pub record AreInputsAfter (inputs : PlanInputs) (made : Option Kind) (after : PlanInputs)
    : Type 0 where
  pub sound : AreSoundInputs after
  pub kinds : map (λ n. n.kind) after.ports
      ≡ map (λ n. n.kind) inputs.ports ++ option_to_list made

-- what all lines of a script leave: what a plan asks of ports and waves
pub record AreInputsOf (lines : List Line) (inputs : PlanInputs) : Type 0 where
  pub ports : AreScriptPorts lines inputs.ports
  pub waves : HaveWaves inputs.ports inputs.waves
