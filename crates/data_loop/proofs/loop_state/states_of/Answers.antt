use Rattle.std.proofs.Common.{ℕ, List, get_or, take, sym, subst, arith}
use Rattle.std.proofs.lemmas.List.{take_all, take_more}
use Rattle.node_state.specs.declared.node_state.NodeState.{NodeState}
use Rattle.data_loop.specs.LoopStart.{AreFirstStates}
use Rattle.data_loop.proofs.StartLemmas.{one_state}
use Rattle.data_loop.proofs.loop_state.states_of.Goals as goal

pub loop-node-preserved : goal.loop-node-preserved
loop-node-preserved c = let nodes = c.args.nodes.now in let i = c.loop-node.node-index in let run_model = c.args.run_model.now in
    let low = c.loop-node-test.true in let n : ℕ = 0 in
    subst (λ (x : List ℕ × List NodeState). AreFirstStates run_model x.0 x.1)
    (λ j. (sym (take_more nodes i n low) j, sym c.in_ok-push.ensures.ok j))
    (one_state run_model (take i nodes) c.loop-node.states (get_or nodes i n) c.in_ok-prepare_node.field-0 c.loop-node.invariant
    c.in_ok-prepare_node.ensures)

pub returns : goal.returns
returns c = let past = c.loop-node-test.false in
    subst (λ (l : List ℕ). AreFirstStates c.args.run_model.now l c.loop-node.states) (take_all c.loop-node.node-index c.args.nodes.now (omega (arith, past)))
    c.loop-node.invariant
