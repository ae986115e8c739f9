use Rattle.std.proofs.Common.{◌≡◌, length}
use Rattle.graph_script.specs.CommandWords.{name_among, name_called}
use Rattle.graph_script.proofs.name.name_called.Given as goal

abbrev pub invariant-loop-rest : goal.invariant-loop-rest
invariant-loop-rest l = name_called l.fn.word ≡ name_among l.rest l.fn.word

abbrev pub decreases-loop-rest : goal.decreases-loop-rest
decreases-loop-rest l = length l.rest
