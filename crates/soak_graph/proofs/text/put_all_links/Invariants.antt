-- The links so far are in the text.
use Rattle.std.proofs.Common.{◌≡◌, ◌++◌}
use Rattle.std.specs.Prelude.{flat_map}
use Rattle.std.specs.List.{range_with_len}
use Rattle.soak_graph.specs.SoakText.{link_lines, text_of_lines}
use Rattle.soak_graph.proofs.text.put_all_links.Given as goal

abbrev pub invariant-loop-i : goal.invariant-loop-i
invariant-loop-i l = l.text ≡ l.fn.text ++ text_of_lines (flat_map link_lines (range_with_len 0 l.i))
