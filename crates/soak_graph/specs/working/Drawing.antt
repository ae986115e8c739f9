-- What is drawn for a number, as the code holds it: the numbers of each chain, the chain whose
-- source goes off, and the waves. This project's own graph.
use Rattle.std.specs.Prelude.{◌≡◌, ℕ, List, map, pos, slice_index_or}
use Rattle.std.specs.List.{range_with_len}
use Rattle.soak_graph.specs.declared.drawing.Chain.{Chain}
use Rattle.soak_graph.specs.declared.drawing.Drawn.{Drawn}
use Rattle.soak_graph.specs.SoakChains.{chains, gain, delay, off, soak_waves}

-- the numbers of chain i, and those of a chain in a list
abbrev pub chain : ℕ → ℕ → Chain
chain number i = record { gain = gain number i; delay = delay number i }

abbrev pub chain_in : List Chain → ℕ → Chain
chain_in list i = slice_index_or list i (record { gain = pos 0; delay = 0 })

-- all that is drawn for its number
pub record HasDrawn (drawn : Drawn) : Type 0 where
  pub chains : drawn.chains ≡ map (chain drawn.number) (range_with_len 0 chains)
  pub off : drawn.off ≡ off drawn.number
  pub waves : drawn.waves ≡ soak_waves drawn.number
