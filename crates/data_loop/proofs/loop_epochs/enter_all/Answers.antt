use Rattle.std.proofs.Common.{◌≡◌, ℕ, suc, ◌<◌, ◌≤◌, ◌∙◌, length, get_or, set, sym, ap, subst, arith, ⊎_elim, length-set}
use Rattle.std.proofs.Common.{get_or-set_same, get_or-set_other}
use Rattle.std.proofs.lemmas.Bool.{cases_lt}
use Rattle.node_state.specs.declared.node_state.NodeState.{NodeState}
use Rattle.node_progress.specs.NodeStates.{IsNodeState}
use Rattle.node_progress.specs.Restarts.{next_first}
use Rattle.data_loop.proofs.loop_epochs.enter_all.Goals as goal

pub loop-j-preserved : goal.loop-j-preserved
loop-j-preserved c = let i = c.loop-j.j in let v = c.loop-j.invariant in let x : NodeState = c.enter_next.new.state in
    let states = c.loop-j.states in let nodes = c.args.nodes.now in let run_model = c.args.run_model.now in
    let low : i < length nodes = c.loop-j-test.true in let n = v.count in
    let inside : i < length states = omega (arith, low, n) in record {
      count = length-set states i x ∙ n;
      entered = λ j d less. ⊎_elim
          (λ (early : j < i).
          subst (IsNodeState run_model (suc c.args.epoch) (next_first run_model.plan.value c.args.epoch) (get_or nodes j 0))
          (sym (get_or-set_other states i j x d (λ is. omega (arith, is, early)))) (v.entered j d early))
          (λ (last : i ≤ j). let at : j ≡ i = omega (arith, last, less) in
          subst (λ (y : ℕ × NodeState). IsNodeState run_model (suc c.args.epoch) (next_first run_model.plan.value c.args.epoch) (get_or nodes y.0 0) y.1)
          (λ k. (sym at k, sym (ap (λ m. get_or (set states i x) m d) at ∙ get_or-set_same states i x d inside) k))
          c.enter_next.ensures.state)
          (cases_lt j i);
      left = λ j d past. get_or-set_other states i j x d (λ is. omega (arith, is, past)) ∙ v.left j d (omega (arith, past));
    }
