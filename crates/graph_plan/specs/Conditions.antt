-- What a script, its ports and its waves meet before a plan is made of them.
-- Source: this project's script grammar.
use Rattle.std.specs.Prelude.{◌≡◌, ℕ, ◌==◌, List, length, All, Some, None, count_by}
use Rattle.pw_graph.specs.declared.kind.Kind.{Kind}
use Rattle.pw_graph.specs.declared.kind.Kind.TheVariants.{Source}
use Rattle.wav_files.specs.declared.wav.WavIn.{WavIn}
use Rattle.graph_script.specs.declared.script.Line.{Line}
use Rattle.graph_script.specs.Kinds.{HasPorts}
use Rattle.graph_script.specs.Ranges.{IsInRange, HasNodes}
use Rattle.port_model.specs.declared.port_state.Node.{Node}
use Rattle.port_model.specs.PortState.{AtPort, kind_of}
use Rattle.port_model.specs.Offers.{int_of}
use Rattle.port_model.specs.Forms.{value_at}
use Rattle.port_model.specs.SoundPorts.{AreSoundNodes}
use Rattle.graph_lines.specs.Forms.{HasKinds}
use Rattle.graph_lines.specs.Start.{kinds_of}
use Rattle.port_model.specs.Keys.{rate_key, channels_key}

-- the numbers of each line are in range, and its nodes and ports are there, of these kinds
pub record AreLinesOf (kinds : List Kind) (lines : List Line) : Type 0 where
  pub ranges : All (λ l. IsInRange l.command) lines
  pub ports : All (λ l. HasPorts kinds l.command) lines
  pub nodes : All (λ l. HasNodes (length kinds) l.command) lines

-- the nodes of the lines by number; their ports have own offers, no format and no count of buffers
pub record AreScriptPorts (lines : List Line) (nodes : List Node) : Type 0 where
  pub kinds : HasKinds nodes (kinds_of lines)
  pub sound : AreSoundNodes nodes
  pub unused : All (λ n. All (λ s. (s.format ≡ None) × (s.buffers ≡ None)) n.ports) nodes

-- a wave is that of a source, with the one rate and the one number of channels that its port offers
pub record IsWaveFor (nodes : List Node) (wave : WavIn) : Type 0 where
  pub source : kind_of nodes wave.node ≡ Some Source
  pub rate : AtPort nodes (record { node = wave.node; port = 0 })
      (λ node s. value_at s.own.fields rate_key ≡ Some (int_of wave.wav.rate))
  pub channels : AtPort nodes (record { node = wave.node; port = 0 })
      (λ node s. value_at s.own.fields channels_key ≡ Some (int_of wave.wav.channels))

-- one wave for each source, and no other
pub record HaveWaves (nodes : List Node) (waves : List WavIn) : Type 0 where
  pub each : All (IsWaveFor nodes) waves
  pub one : (node : ℕ) → kind_of nodes node ≡ Some Source
      → count_by (λ w. w.node == node) waves ≡ 1
