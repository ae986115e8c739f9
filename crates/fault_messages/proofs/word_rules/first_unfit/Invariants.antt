use Rattle.std.proofs.Common.{◌≡◌, length}
use Rattle.graph_script.specs.Lexical.{words_of}
use Rattle.fault_messages.specs.WordRules.{first_unfit}
use Rattle.fault_messages.proofs.word_rules.first_unfit.Given as goal

abbrev pub invariant-loop-rest : goal.invariant-loop-rest
invariant-loop-rest l = first_unfit l.fn.params (words_of l.fn.args) ≡ first_unfit l.rest (words_of l.text)

abbrev pub decreases-loop-rest : goal.decreases-loop-rest
decreases-loop-rest l = length l.rest
