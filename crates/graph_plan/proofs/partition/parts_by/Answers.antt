-- One node more: it is in a part already, or all that are joined to it are a part.
use Rattle.std.proofs.Common.{◌≡◌, ◌+◌, ℕ, false, List, sym, ◌∙◌, subst}
use Rattle.std.specs.Prelude.{All, Contains}
use Rattle.graph_plan.specs.Parts.{is_among}
use Rattle.graph_plan.proofs.linked_parts.PartitionLemmas.{ArePartsBelow, parts_begin, part_there, part_new, parts_end}
use Rattle.graph_plan.proofs.partition.parts_by.Goals as goal
use Rattle.graph_plan.proofs.partition.parts_by.Goals.{then-not-is_placed+in_ok-nodes+in_ok-push, else-not-is_placed}

pub loop-node-init : goal.loop-node-init
loop-node-init c = parts_begin c.args.count c.args.made.now c.new-parts.result c.new-parts.ensures

pub loop-node-preserved : goal.loop-node-preserved
loop-node-preserved c =
    let count = c.args.count in let made = c.args.made.now in let node = c.loop-node.node in let parts = c.loop-node.parts in
    elim c.if-not-is_placed.branch [
      | then-not-is_placed+in_ok-nodes+in_ok-push w ↦ part_new count made node parts c.loop-node-test.true c.loop-node.invariant
          (subst (All (λ (p : List ℕ). is_among p node ≡ false)) c.as_slice.ensures (c.is_placed.ensures.no w.if-not-is_placed.true))
          w.joined_to-here.result w.joined_to-here.ensures w.in_ok-nodes.nodes w.in_ok-nodes.ensures c.if-not-is_placed.parts
          (w.parts-is ∙ w.in_ok-push.ensures.ok)
      | else-not-is_placed w ↦ subst (ArePartsBelow count made (node + 1)) (sym w.parts-is)
          (part_there count made node parts c.loop-node-test.true c.loop-node.invariant
          (subst (λ (ps : List (List ℕ)). (p : List ℕ) × Contains ps p × Contains p node) c.as_slice.ensures
          (c.is_placed.ensures.yes w.if-not-is_placed.false)))
    ]

pub returns : goal.returns
returns c = parts_end c.args.count c.args.made.now c.loop-node.node c.loop-node.parts c.loop-node-test.false c.loop-node.invariant
