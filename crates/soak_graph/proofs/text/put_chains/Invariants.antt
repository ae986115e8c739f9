-- The chains so far are in the text.
use Rattle.std.proofs.Common.{◌≡◌, ◌++◌}
use Rattle.std.specs.Prelude.{flat_map}
use Rattle.std.specs.List.{range_with_len}
use Rattle.soak_graph.specs.working.Drawing.{chain_in}
use Rattle.soak_graph.specs.SoakText.{chain_lines, text_of_lines}
use Rattle.soak_graph.proofs.text.put_chains.Given as goal

abbrev pub invariant-loop-i : goal.invariant-loop-i
invariant-loop-i l = l.text ≡ l.fn.text ++ text_of_lines (flat_map
    (λ i. chain_lines i (chain_in l.chains i).gain (chain_in l.chains i).delay) (range_with_len 0 l.i))
