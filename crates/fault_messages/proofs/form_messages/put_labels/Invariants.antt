use Rattle.std.proofs.Common.{◌≡◌, ◌++◌, length, map}
use Rattle.graph_script.specs.Printing.{spaced}
use Rattle.graph_script.specs.Table.{label_word}
use Rattle.fault_messages.proofs.form_messages.put_labels.Given as goal

abbrev pub invariant-loop-rest : goal.invariant-loop-rest
invariant-loop-rest l = l.fn.text ++ spaced (map (λ p. label_word p.label) l.fn.params)
    ≡ l.text ++ spaced (map (λ p. label_word p.label) l.rest)

abbrev pub decreases-loop-rest : goal.decreases-loop-rest
decreases-loop-rest l = length l.rest
