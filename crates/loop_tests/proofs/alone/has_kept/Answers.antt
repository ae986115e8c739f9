use Rattle.std.proofs.Common.{◌<◌, ◌∙◌, ℕ, List, length, sym, subst, rules}
use Rattle.std.specs.Prelude.{Contains}
use Rattle.std.proofs.lemmas.Bool.{ltb-true}
use Rattle.pw_graph.specs.declared.plan.PlanNode.{PlanNode}
use Rattle.graph_run.specs.Seating.{holder_of}
use Rattle.graph_run.proofs.ReadyLemmas.{is_in}
use Rattle.loop_tests.proofs.alone.has_kept.Goals as goal

pub kept-requires-clause-own : goal.kept-requires-clause-own
kept-requires-clause-own c = let plan = c.args.plan.now in let s = c.args.seating.now in let node = c.args.node in
    let low : node < length plan.nodes = subst (λ (l : List PlanNode). node < length l) c.as_slice.ensures
    (ltb-true node (length c.as_slice.result.now) (sym c.in-Some.ensures.lookup.0)) in
    subst (λ (l : List ℕ). Contains l node) (sym c.requires.nodes_are)
    (is_in (holder_of s) plan s.loops node low (sym c.holder.ensures ∙ search rules))
