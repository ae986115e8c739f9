use Rattle.std.proofs.Common.{refl, subst, sym}
use Rattle.std.specs.Prelude.{All}
use Rattle.std.proofs.lemmas.List.{take_all}
use Rattle.std.proofs.lemmas.List.Elements.{All-more}
use Rattle.pw_graph.specs.SoundPlan.{IsSoundNode}
use Rattle.graph_checks.proofs.plan_soundness.are_sound_nodes.Goals as goal

pub loop-node-preserved : goal.loop-node-preserved
loop-node-preserved c =
    All-more IsSoundNode c.args.nodes.now c.loop-node.node-index c.node-item.result c.loop-node-test.true c.loop-node.invariant
    (subst IsSoundNode c.node-item.is (c.if-not-is_sound_node.ensures.0 refl))

pub returns-then-not-is_sound_node : goal.returns-then-not-is_sound_node
returns-then-not-is_sound_node c = (
  λ f. cc,
  λ h. c.if-not-is_sound_node.ensures.1 (subst IsSoundNode (sym c.node-item.is)
      (h c.loop-node.node-index c.node-item.result c.loop-node-test.true)),
)

pub returns : goal.returns
returns c = (
  λ t. subst (All IsSoundNode) (take_all c.loop-node.node-index c.args.nodes.now c.loop-node-test.false) c.loop-node.invariant,
  λ h. refl,
)
