-- The bits of the nodes so far.
use Rattle.graph_lines.proofs.BitLemmas.{HasKeptBelow}
use Rattle.graph_lines.proofs.unlinking.kept_bits.Given as goal

abbrev pub invariant-loop-n : goal.invariant-loop-n
invariant-loop-n l = HasKeptBelow l.nodes l.n l.keep
