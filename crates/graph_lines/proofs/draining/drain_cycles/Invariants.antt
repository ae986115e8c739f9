-- The most of the waves so far.
use Rattle.std.proofs.Common.{◌≡◌, max, take}
use Rattle.std.specs.Prelude.{fold, filter}
use Rattle.graph_lines.specs.Searching.{is_in}
use Rattle.graph_lines.specs.Draining.{rest_cycles}
use Rattle.graph_lines.proofs.draining.drain_cycles.Given as goal

abbrev pub invariant-loop-wave : goal.invariant-loop-wave
invariant-loop-wave l = l.most ≡ fold (λ most w. max most (rest_cycles l.quantum l.nodes w)) 0
    (filter (λ w. is_in l.active w.node) (take l.wave-index l.wave-items))
