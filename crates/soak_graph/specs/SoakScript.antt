-- The script of a number, as commands and names: what its text says in this project's script
-- grammar. Source: this project's own.
use Rattle.std.specs.Prelude.{ℕ, ◌+◌, ◌*◌, List, [], ◌∷◌, ◌++◌, codes, flat_map, ℤ}
use Rattle.std.specs.List.{range_with_len}
use Rattle.pw_graph.specs.declared.ids.PortId.{PortId}
use Rattle.graph_script.specs.declared.command.Command.{Command}
use Rattle.graph_script.specs.declared.command.Command.TheVariants as C
use Rattle.graph_script.specs.declared.script.Line.{Line}
use Rattle.graph_script.specs.declared.script.Script.{Script}
use Rattle.soak_graph.specs.SoakChains.{chains, gain, delay, off, source_node, gain_node, delay_node}
use Rattle.soak_graph.specs.SoakText.{digit}

-- the sink and the meter, after the nodes of all chains
abbrev pub mix_node : ℕ
mix_node = 3 * chains

abbrev pub level_node : ℕ
level_node = 3 * chains + 1

abbrev pub port : ℕ → ℕ → PortId
port node n = record { node = node; port = n }

-- the commands, part by part as in the text
abbrev pub chain_commands : ℕ → ℤ → ℕ → List Command
chain_commands i g d =
    C.Source (source_node i) (codes "s" ++ digit i ++ codes ".wav")
    ∷ C.Gain (gain_node i) g ∷ C.Delay (delay_node i) d ∷ []

abbrev pub end_commands : List Command
end_commands =
    C.Sink mix_node (codes "mix.wav") ∷ C.Meter level_node ∷ C.Driver mix_node 1 ∷ []

abbrev pub link_commands : ℕ → List Command
link_commands i =
    C.Link (port (source_node i) 0) (port (gain_node i) 0)
    ∷ C.Link (port (gain_node i) 1) (port (delay_node i) 0)
    ∷ C.Link (port (delay_node i) 1) (port mix_node 0)
    ∷ C.Link (port (delay_node i) 1) (port level_node 0) ∷ []

abbrev pub play_commands : ℕ → List Command
play_commands k =
    C.Cycles 100 ∷ C.Off (source_node k) ∷ C.Cycles 50
    ∷ C.On (source_node k) ∷ C.Drain ∷ []

abbrev pub all_commands : (ℕ → ℤ) → (ℕ → ℕ) → ℕ → List Command
all_commands gains delays k =
    C.Quantum 256
    ∷ flat_map (λ i. chain_commands i (gains i) (delays i)) (range_with_len 0 chains)
    ++ end_commands ++ flat_map link_commands (range_with_len 0 chains) ++ play_commands k

-- commands, each on a line of its own, from a number on
abbrev pub numbered : ℕ → List Command → List Line
numbered n [] = []
numbered n (command ∷ commands) =
    record { line = n; command = command } ∷ numbered (n + 1) commands

-- the names of the nodes
abbrev pub chain_names : ℕ → List (List ℕ)
chain_names i =
    (codes "s" ++ digit i) ∷ (codes "g" ++ digit i) ∷ (codes "d" ++ digit i) ∷ []

abbrev pub all_names : List (List ℕ)
all_names = flat_map chain_names (range_with_len 0 chains) ++ codes "mix" ∷ codes "level" ∷ []

-- THE SCRIPT of a number
abbrev pub soak_lines : ℕ → List Line
soak_lines number = numbered 1 (all_commands (gain number) (delay number) (off number))

abbrev pub soak_script : ℕ → Script
soak_script number = record { lines = soak_lines number; names = all_names }
