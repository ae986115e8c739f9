-- The inputs of a plan: the nodes that the lines of a script have made so far, with what their
-- ports offer, and the waves of their sources.
-- Source: this project's own grammar, docs/FORMATS.md.
use Rattle.std.specs.Prelude.{ℕ, [], ◌∷◌, ◌++◌, Option, Some, None, option_map}
use Rattle.pw_graph.specs.declared.kind.Kind.{Kind}
use Rattle.pw_graph.specs.declared.kind.Kind.TheVariants.{Source}
use Rattle.pw_graph.specs.KindRanges.{IsRate, IsChannels}
use Rattle.wav_files.specs.declared.wav.Wav.{Wav}
use Rattle.graph_script.specs.declared.command.Command.{Command}
use Rattle.graph_script.specs.declared.command.Command.TheVariants as C
use Rattle.graph_script.specs.Kinds.{made_by}
use Rattle.port_model.specs.Offers.{new_node}
use Rattle.script_inputs.specs.declared.inputs.Inputs.{Inputs}

-- a wave's rate and channels are in range
abbrev pub HasForm : Wav → Type 0
HasForm wav = IsRate wav.rate × IsChannels wav.channels

-- before the first line
abbrev pub nothing_made : Inputs
nothing_made = record { ports = []; waves = [] }

-- a node more: a source whose port offers the rate and the channels of its wave
abbrev pub with_wave : Inputs → ℕ → Wav → Inputs
with_wave inputs node wav = record {
  ports = inputs.ports ++ new_node Source wav.rate wav.channels ∷ [];
  waves = inputs.waves ++ (record { node = node; wav = wav }) ∷ [];
}

-- the kind of a node that no wave belongs to
abbrev pub plain_kind : Command → Option Kind
plain_kind (C.Source node file) = None
plain_kind command = option_map (λ m. m.1) (made_by command)

-- a node more of such a kind, whose ports offer what the kind does, if a line makes one
abbrev pub with_plain : Inputs → Option Kind → Inputs
with_plain inputs None = inputs
with_plain inputs (Some kind) = record inputs { ports = inputs.ports ++ new_node kind 0 0 ∷ [] }
