-- Draining: how many cycles it takes until the active sources have given all their frames.
-- Source: this project's.
use Rattle.std.specs.Prelude.{◌≡◌, ℕ, ◌-◌, ◌*◌, ◌/◌, ◌<◌, ◌≤◌, max, Bool, List, Contains, length, fold, filter}
use Rattle.std.specs.Int.{div_ceil}
use Rattle.wav_files.specs.declared.wav.WavIn.{WavIn}
use Rattle.graph_lines.specs.declared.graph.Graph.{Graph}
use Rattle.graph_lines.specs.declared.standing.Standing.{Standing}
use Rattle.graph_lines.specs.Activity.{standing, live_wires, IsDriver, IsActive}
use Rattle.graph_lines.specs.Searching.{is_in}

-- the frames of a wave
abbrev pub frames_of : WavIn → ℕ
frames_of w = length w.wav.samples / w.wav.channels

-- the cycles of a quantum each, rounded up, for the frames that are left: a source gives a quantum
-- in each cycle that it is active in, also past its end
abbrev pub rest_cycles : ℕ → List Standing → WavIn → ℕ
rest_cycles quantum nodes w = div_ceil (frames_of w - quantum * (standing nodes w.node).ran) quantum

-- the most that a source needs whose node is in
abbrev pub drain_cycles : ℕ → List Standing → List Bool → List WavIn → ℕ
drain_cycles quantum nodes active waves =
    fold (λ most w. max most (rest_cycles quantum nodes w)) 0
    (filter (λ w. is_in active w.node) waves)

-- a source that is active under this driver has `rest` cycles to go
abbrev pub IsLeft : List WavIn → Graph → ℕ → ℕ → Type 0
IsLeft waves g driver rest = (w : WavIn) × Contains waves w
    × IsActive (live_wires g.nodes g.wires) driver w.node
    × (rest_cycles g.quantum g.nodes w ≡ rest)

-- DRAIN: the most cycles that a source which is active now has to go; 0 where no source has any
pub record DrainsFor (waves : List WavIn) (g : Graph) (cycles : ℕ) : Type 0 where
  pub driver : ℕ
  pub drives : IsDriver g.kinds g.nodes driver
  pub enough : (rest : ℕ) → IsLeft waves g driver rest → rest ≤ cycles
  pub needed : 0 < cycles → IsLeft waves g driver cycles
