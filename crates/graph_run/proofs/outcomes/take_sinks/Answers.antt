use Rattle.std.proofs.Common.{arith, ◌≡◌, ◌<◌, ◌≤◌, ◌+◌, ℕ, suc, ◌++◌, length, get_or, filter_map, option_to_list, sym, ap, subst, ◌∙◌}
use Rattle.std.specs.List.{enumerate_from}
use Rattle.std.proofs.lemmas.List.{take_all}
use Rattle.std.proofs.lemmas.List.FromFn.{length-enumerate_from}
use Rattle.pw_graph.specs.declared.plan.PlanNode.{PlanNode}
use Rattle.cycle_model.specs.Rendering.{kept_of, rendered_sinks}
use Rattle.cycle_model.proofs.OutcomeLemmas.{kept_more}
use Rattle.graph_run.specs.Outcomes.{AreLeftFrom}
use Rattle.graph_run.proofs.OutcomesLemmas.{all_in, left_whole}
use Rattle.graph_run.proofs.outcomes.take_sinks.Goals as goal

next : (n : ℕ) → suc n ≡ n + 1
next n = omega arith

pub loop-place-init : goal.loop-place-init
loop-place-init c = let d = c.requires.done in let room = c.requires.room in record {
  end = ap length c.as_slice-nodes.ensures;
  all = all_in c.args.plan.now d.0 c.args.loops.now d.1;
  left = λ waves done. left_whole c.args.plan.now waves c.args.loops.now done;
  kept = λ waves done. c.requires.empty;
  room = omega (arith, room);
}

pub loop-place-preserved : goal.loop-place-preserved
loop-place-preserved c =
    let plan = c.args.plan.now in let i = c.loop-place.place in let node : PlanNode = c.index-nodes-place.result in let v = c.loop-place.invariant in
    let same : c.as_slice-nodes.result.now ≡ plan.nodes = c.as_slice-nodes.ensures in
    let lt : i < length plan.nodes = omega (arith, ap length same) in
    let read : node ≡ get_or plan.nodes i node = subst (λ xs. node ≡ get_or xs i node) same c.index-nodes-place.is in
    let room = v.room in let less = c.push_some.ensures.spare in record {
      end = ap length same;
      all = c.take_sink-kept.ensures.all;
      left = λ waves done. subst (λ n. AreLeftFrom n waves c.take_sink-kept.new.loops) (next i) (c.take_sink-kept.ensures.left waves (v.left waves done));
      kept = λ waves done. c.push_some.ensures.list
          ∙ ap (λ k. c.loop-place.sinks.list ++ option_to_list k) (c.take_sink-kept.ensures.kept waves (v.left waves done))
          ∙ ap (λ t. t ++ option_to_list (kept_of plan waves (i, node))) (v.kept waves done)
          ∙ sym (kept_more (kept_of plan waves) plan.nodes i node lt read);
      room = omega (arith, room, less);
    }

pub returns : goal.returns
unfolding rendered_sinks
returns c = λ waves done.
    let nodes = c.args.plan.now.nodes in
    let same : c.as_slice-nodes.result.now ≡ nodes = c.as_slice-nodes.ensures in
    let past = c.loop-place-test.false in
    let n : length (enumerate_from 0 nodes) ≤ c.loop-place.place = omega (arith, length-enumerate_from 0 nodes, ap length same, past) in
    c.into_items.ensures ∙ c.loop-place.invariant.kept waves done
    ∙ ap (filter_map (kept_of c.args.plan.now waves)) (take_all c.loop-place.place (enumerate_from 0 nodes) n)
