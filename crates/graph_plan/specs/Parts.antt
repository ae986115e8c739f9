-- Parts: which nodes are joined by some link that the script makes, at whatever line.
-- Source: PipeWire's documentation, "Graph Scheduling" (several drivers); parts are this project's.
use Rattle.std.specs.Prelude.{◌≡◌, ◌↔◌, ℕ, ◌<◌, ◌==◌, Bool, List, Some, All, AllPairs, Contains, slice_get}
use Rattle.std.specs.List.{list_any}
use Rattle.std.specs.List.Sorted.{IsStrictlyIncreasing}
use Rattle.wav_files.specs.declared.wav.WavIn.{WavIn}
use Rattle.graph_script.specs.declared.script.Line.{Line}
use Rattle.port_model.specs.declared.port_state.Node.{Node}
use Rattle.graph_lines.specs.declared.graph.Graph.{Graph}
use Rattle.graph_lines.specs.declared.wire.Wire.{Wire}
use Rattle.graph_lines.specs.Activity.{AreJoined}
use Rattle.graph_lines.specs.Rehearsal.{HasMade}
use Rattle.graph_lines.specs.Start.{IsStart}

-- whether a node is one of these
abbrev pub is_among : List ℕ → ℕ → Bool
is_among nodes n = list_any (λ m. m == n) nodes

-- the nodes that are joined to a node, ascending; it is the least of them
pub record IsPartOf (count : ℕ) (made : List Wire) (nodes : List ℕ) : Type 0 where
  pub least : ℕ
  pub first : slice_get nodes 0 ≡ Some least
  pub ascend : IsStrictlyIncreasing nodes
  pub joined : (n : ℕ) → Contains nodes n ↔ ((n < count) × AreJoined made n least)

-- the least node of a part is below that of another
abbrev pub IsBeforePart : List ℕ → List ℕ → Type 0
IsBeforePart p q =
    (m n : ℕ) → slice_get p 0 ≡ Some m → slice_get q 0 ≡ Some n → m < n

-- PARTS of `count` nodes, by their least nodes; each node is in one
pub record AreParts (count : ℕ) (made : List Wire) (parts : List (List ℕ)) : Type 0 where
  pub each : All (IsPartOf count made) parts
  pub order : AllPairs IsBeforePart parts
  pub all : (n : ℕ) → n < count → (p : List ℕ) × Contains parts p × Contains p n

-- PARTITION of a script of `count` nodes, with these ports: its parts by the links that it makes
abbrev pub IsPartition : List Line → ℕ → List WavIn → List Node → List (List ℕ)
    → Type 0
IsPartition lines count waves ports parts = (start : Graph) × IsStart lines ports start
    × ((made : List Wire) × HasMade waves start lines made × AreParts count made parts)
