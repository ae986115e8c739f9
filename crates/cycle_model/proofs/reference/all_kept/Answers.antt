use Rattle.std.proofs.Common.{arith, ◌≡◌, ◌<◌, ◌≤◌, ◌++◌, length, get_or, filter_map, option_to_list, sym, ap, subst, ◌∙◌}
use Rattle.std.specs.List.{enumerate_from}
use Rattle.std.proofs.lemmas.List.{take_all, get_or_default}
use Rattle.std.proofs.lemmas.List.FromFn.{length-enumerate_from}
use Rattle.pw_graph.specs.declared.plan.PlanNode.{PlanNode}
use Rattle.cycle_model.specs.working.Known.{kept_by}
use Rattle.cycle_model.specs.Progress.{nothing}
use Rattle.cycle_model.specs.Rendering.{kept_of, rendered_sinks}
use Rattle.cycle_model.proofs.OutcomeLemmas.{kept_more, kept_is}
use Rattle.cycle_model.proofs.reference.all_kept.Goals as goal

pub loop-i-preserved : goal.loop-i-preserved
loop-i-preserved c =
    let plan = c.args.plan.now in
    let received = c.args.received.now in
    let h = kept_of plan c.args.waves.now in
    let i = c.loop-i.i in
    let node : PlanNode = c.index-nodes-i.result in
    let same : c.as_slice-nodes.result.now ≡ plan.nodes = c.as_slice-nodes.ensures in
    let lt : i < length plan.nodes = omega (arith, ap length same) in
    let read : node ≡ get_or plan.nodes i node = subst (λ xs. node ≡ get_or xs i node) same c.index-nodes-i.is in
    let has : i < length received = omega (arith, lt, c.requires.received.counted) in
    let here : c.index-received-i.result ≡ get_or received i nothing = c.index-received-i.is
    ∙ get_or_default received i c.index-received-i.result nothing has in
    let kept : c.in_ok-kept.kept ≡ h (i, node) = c.in_ok-kept.ensures ∙ ap (λ r. kept_by i node r) here
    ∙ kept_is plan c.args.waves.now received c.requires.received i node lt read in
    c.in_ok-append.ensures
    ∙ ap (λ k. c.loop-i.sinks ++ option_to_list k) kept
    ∙ ap (λ t. t ++ option_to_list (h (i, node))) c.loop-i.invariant
    ∙ sym (kept_more h plan.nodes i node lt read)

pub returns : goal.returns
unfolding rendered_sinks
returns c =
    let nodes = c.args.plan.now.nodes in
    let same : c.as_slice-nodes.result.now ≡ nodes = c.as_slice-nodes.ensures in
    let n : length (enumerate_from 0 nodes) ≤ c.loop-i.i = omega (arith, length-enumerate_from 0 nodes, ap length same) in
    c.loop-i.invariant ∙ ap (filter_map (kept_of c.args.plan.now c.args.waves.now)) (take_all c.loop-i.i (enumerate_from 0 nodes) n)
