-- The graph before the first line of a script.
-- Source: this project's script grammar.
use Rattle.std.specs.Prelude.{◌≡◌, ℕ, true, false, List, [], ◌∷◌, map, length, replicate, None}
use Rattle.std.specs.List.{range_with_len}
use Rattle.pw_graph.specs.declared.kind.Kind.{Kind}
use Rattle.pw_lists.specs.Limits.{quantum_limit}
use Rattle.pw_graph.specs.SoundShape.{IsBetween}
use Rattle.graph_script.specs.declared.command.Command.{Command}
use Rattle.graph_script.specs.declared.command.Command.TheVariants as C
use Rattle.graph_script.specs.declared.script.Line.{Line}
use Rattle.graph_script.specs.Kinds.{made_of}
use Rattle.port_model.specs.declared.port_state.Node.{Node}
use Rattle.port_model.specs.SoundPorts.{AreSoundNodes}
use Rattle.graph_lines.specs.declared.graph.Graph.{Graph}
use Rattle.graph_lines.specs.declared.standing.Standing.{Standing}
use Rattle.graph_lines.specs.Forms.{HasKinds}

-- QUANTUM of a script: that of a `quantum` line, which is first; 1024 without one
abbrev pub quantum_in : Command → ℕ
quantum_in (C.Quantum n) = n
quantum_in other = 1024

abbrev pub quantum_of : List Line → ℕ
quantum_of [] = 1024
quantum_of (l ∷ ls) = quantum_in l.command

-- the kinds of the nodes that lines make, in their order
abbrev pub kinds_of : List Line → List Kind
kinds_of lines = map (λ m. m.1) (made_of lines)

-- a node before the line that makes it: on, no priority, its own number as its loop
abbrev pub newcomer : ℕ → Standing
newcomer n = record {
  there = false;
  on = true;
  marked = false;
  priority = None;
  k = n;
  gave_up = false;
  told = 0;
  kept = false;
  ran = 0;
}

-- the ports are those of the nodes that lines make, and sound; the quantum is in its range
pub record MayStart (script : List Line) (with_ports : List Node) : Type 0 where
  pub quantum : IsBetween 1 quantum_limit (quantum_of script)
  pub kinds : HasKinds with_ports (kinds_of script)
  pub ports : AreSoundNodes with_ports

-- START: all nodes are there with their ports, and no link, no line and no epoch
pub record IsStart (script : List Line) (with_ports : List Node) (g : Graph) : Type 0 where
  pub quantum : g.quantum ≡ quantum_of script
  pub kinds : g.kinds ≡ kinds_of script
  pub ports : g.ports ≡ with_ports
  pub links : g.links ≡ record { made = []; marks = replicate 64 false }
  pub wires : g.wires ≡ []
  pub nodes : g.nodes ≡ map newcomer (range_with_len 0 (length (kinds_of script)))
  pub lines : g.lines ≡ []
  pub epochs : g.epochs ≡ []
  pub first : g.first ≡ 0
  pub sums : g.sums ≡ record { events = 0; samples = 0; bytes = 0 }
