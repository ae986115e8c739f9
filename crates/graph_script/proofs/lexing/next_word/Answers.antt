use Rattle.std.proofs.Common.{arith, sym, ◌∙◌}
use Rattle.std.proofs.lemmas.Bool.{eqb-true, eqb-false}
use Rattle.graph_script.proofs.LexicalLemmas.{cut_word, cut_nothing}
use Rattle.graph_script.proofs.lexing.next_word.Goals as goal

pub returns-then-is_empty : goal.returns-then-is_empty
returns-then-is_empty c =
    cut_nothing c.args.line.now c.split_at.result.1.now c.split_at-2.result.0.now (cc) (cc)
    (eqb-true _ 0 (sym c.is_empty.ensures ∙ c.if-is_empty.true))

pub returns-else-is_empty : goal.returns-else-is_empty
returns-else-is_empty c =
    cut_word c.args.line.now c.split_at.result.1.now c.split_at-2.result.0.now c.split_at-2.result.1.now (cc) (cc) (cc)
    (omega (arith, eqb-false _ 0 (sym c.is_empty.ensures ∙ c.if-is_empty.false)))
