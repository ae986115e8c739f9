-- The waves and numbers so far are those of the chains so far, and all their draws were made.
use Rattle.std.proofs.Common.{◌≡◌, ◌*◌, map}
use Rattle.std.specs.List.{range_with_len}
use Rattle.soak_graph.specs.working.Drawing.{chain}
use Rattle.soak_graph.specs.Draws.{state_after}
use Rattle.soak_graph.specs.SoakChains.{chain_draws, soak_wave}
use Rattle.soak_graph.proofs.drawing.draw_graph.Given as goal

abbrev pub invariant-loop-i : goal.invariant-loop-i
invariant-loop-i l = (l.waves ≡ map (soak_wave l.fn.number) (range_with_len 0 l.i))
    × (l.chains ≡ map (chain l.fn.number) (range_with_len 0 l.i))
    × (l.draws.state ≡ state_after (l.i * chain_draws) l.fn.number)
