-- The part that has the node, or no part so far.
use Rattle.std.proofs.Common.{◌≡◌, ℕ, false, List, ap, sym, ◌∙◌, subst}
use Rattle.std.specs.Prelude.{All}
use Rattle.std.proofs.lemmas.List.{take_all}
use Rattle.std.proofs.lemmas.List.Elements.{All-more}
use Rattle.graph_plan.specs.Parts.{is_among}
use Rattle.graph_plan.proofs.linked_parts.PartitionLemmas.{among_has}
use Rattle.graph_plan.proofs.partition.is_placed.Goals as goal

pub returns-then-is_among-clause-yes : goal.returns-then-is_among-clause-yes
returns-then-is_among-clause-yes c = λ e. (
  c.part-item.result,
  (c.loop-part.part-index, c.loop-part-test.true, sym c.part-item.is),
  among_has c.part-item.result c.args.node (ap (λ (p : List ℕ). is_among p c.args.node) (sym c.as_slice.ensures)
      ∙ (sym c.is_among.ensures ∙ c.if-is_among.true)),
)

pub loop-part-preserved : goal.loop-part-preserved
loop-part-preserved c = All-more (λ (p : List ℕ). is_among p c.args.node ≡ false) c.args.parts.now c.loop-part.part-index c.part-item.result
    c.loop-part-test.true c.loop-part.invariant (ap (λ (p : List ℕ). is_among p c.args.node) (sym c.part-item.is)
    ∙ (ap (λ (p : List ℕ). is_among p c.args.node) (sym c.as_slice.ensures) ∙ (sym c.is_among.ensures ∙ c.if-is_among.false)))

pub returns-clause-no : goal.returns-clause-no
returns-clause-no c = λ e. subst (All (λ (p : List ℕ). is_among p c.args.node ≡ false))
    (take_all c.loop-part.part-index c.args.parts.now c.loop-part-test.false) c.loop-part.invariant
