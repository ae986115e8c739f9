-- What the nodes of a loop keep.
use Rattle.std.proofs.Common.{◌≡◌, ℕ, ℤ, ◌<◌, List, length, get_or, sym, ap, ◌∙◌, subst, refl}
use Rattle.std.proofs.Common.{get_or-set_other}
use Rattle.std.specs.Vec.{with_item}
use Rattle.std.proofs.lemmas.List.{get_or_default}
use Rattle.pw_graph.specs.declared.kind.Kind.TheVariants.{Sink}
use Rattle.pw_graph.specs.PlanForms.{kind_at}
use Rattle.cycle_model.specs.Epochs.{all_cycles}
use Rattle.node_state.specs.declared.node_state.NodeState.{NodeState}
use Rattle.node_state.specs.StandsFor.{kept_stream}
use Rattle.node_progress.specs.Ends.{IsNodeAtEnd}
use Rattle.node_progress.specs.NodeStates.{IsNodeState, first_of}
use Rattle.node_progress.proofs.EndLemmas.{end_first, kept_at_end}
use Rattle.data_loop.specs.declared.loop_state.LoopState.{LoopState}
use Rattle.data_loop.specs.Loops.{IsLoop, plan_of, node_at}
use Rattle.data_loop.specs.LoopKept.{IsDone, IsDoneWith, HasTaken}

-- the state of a node when all epochs are done
pub done_state : (s : LoopState) (n i : ℕ) (x : NodeState) → IsDone s → i < length s.nodes → node_at s i ≡ n
    → get_or s.states.items i x ≡ x → IsNodeAtEnd s.run_model n x
done_state s n i x done low node state =
    let at : first_of (plan_of s) s.epoch ≡ all_cycles (plan_of s) = ap (first_of (plan_of s)) done.1 ∙ end_first (plan_of s) in
    subst (λ (y : (ℕ × ℕ) × (ℕ × NodeState)). IsNodeState s.run_model y.0.0 y.0.1 y.1.0 y.1.1)
    (λ j. ((done.1 j, at j), (node j, state j))) (done.0.states i low x)

-- so it is of each node
pub all_done : (s : LoopState) (n : ℕ) → IsDone s → IsDoneWith s n
all_done s n done j d low node = done_state s n j (get_or s.states.items j d) done low node
    (get_or_default s.states.items j (get_or s.states.items j d) d (subst (λ m. j < m) (sym done.0.loop.states) low))

-- the stream of a sink is moved out of its state x, which is y then
pub taken : (s : LoopState) (n i : ℕ) (x y : NodeState) (stream : List ℤ) → IsLoop s → i < length s.nodes → node_at s i ≡ n
    → kind_at (plan_of s) n ≡ Sink → x ≡ get_or s.states.items i x → stream ≡ kept_stream x
    → HasTaken s n stream (record s { states = with_item s.states i y })
taken s n i x y stream whole low node sink is value = let inside : i < length s.states.items = subst (λ m. i < m) (sym whole.states) low in record {
  keeps = (x, (i, low, node, λ d. get_or_default s.states.items i d x inside ∙ sym is), value);
  end = λ done. value ∙ kept_at_end s.run_model whole.sound n x (subst (IsNodeAtEnd s.run_model n) (sym is) (done i x low node)) sink;
  others = λ m other done j d within there. subst (IsNodeAtEnd s.run_model m)
      (sym (get_or-set_other s.states.items i j y d (λ same. other (sym there ∙ ap (λ k. get_or s.nodes k 0) same ∙ node)))) (done j d within there);
  same = record { run_model = refl; nodes = refl };
  states_alone = refl;
}
