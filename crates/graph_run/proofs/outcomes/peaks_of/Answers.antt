use Rattle.std.proofs.Common.{arith, ◌≡◌, ◌<◌, ◌≤◌, ◌++◌, length, get_or, filter_map, option_to_list, sym, ap, subst, ◌∙◌}
use Rattle.std.specs.List.{enumerate_from}
use Rattle.std.proofs.lemmas.List.{take_all}
use Rattle.std.proofs.lemmas.List.FromFn.{length-enumerate_from}
use Rattle.pw_graph.specs.declared.plan.PlanNode.{PlanNode}
use Rattle.cycle_model.specs.Rendering.{peak_at, rendered_peaks}
use Rattle.cycle_model.proofs.OutcomeLemmas.{kept_more}
use Rattle.graph_run.proofs.outcomes.peaks_of.Goals as goal

pub loop-place-preserved : goal.loop-place-preserved
loop-place-preserved c =
    let plan = c.args.plan.now in let i = c.loop-place.place in let node : PlanNode = c.index-nodes-place.result in let v = c.loop-place.invariant in
    let same : c.as_slice-nodes.result.now ≡ plan.nodes = c.as_slice-nodes.ensures in
    let lt : i < length plan.nodes = omega (arith, ap length same) in
    let read : node ≡ get_or plan.nodes i node = subst (λ xs. node ≡ get_or xs i node) same c.index-nodes-place.is in
    let room = v.room in let less = c.push_some.ensures.spare in record {
      end = ap length same;
      kept = λ waves done. c.push_some.ensures.list
          ∙ ap (λ k. c.loop-place.peaks.list ++ option_to_list k) (c.peak_by.ensures waves done)
          ∙ ap (λ t. t ++ option_to_list (peak_at plan waves (i, node))) (v.kept waves done)
          ∙ sym (kept_more (peak_at plan waves) plan.nodes i node lt read);
      room = omega (arith, room, less);
    }

pub returns : goal.returns
unfolding rendered_peaks
returns c = λ waves done.
    let nodes = c.args.plan.now.nodes in
    let same : c.as_slice-nodes.result.now ≡ nodes = c.as_slice-nodes.ensures in
    let past = c.loop-place-test.false in
    let n : length (enumerate_from 0 nodes) ≤ c.loop-place.place = omega (arith, length-enumerate_from 0 nodes, ap length same, past) in
    c.into_items.ensures ∙ c.loop-place.invariant.kept waves done
    ∙ ap (filter_map (peak_at c.args.plan.now waves)) (take_all c.loop-place.place (enumerate_from 0 nodes) n)
