use Rattle.std.proofs.Common.{◌≡◌, ◌<◌, ◌+◌, ◌∙◌, ℕ, suc, List, length, get_or, sym, ap, subst, arith}
use Rattle.std.proofs.lemmas.Option.{slice_get_within}
use Rattle.std.proofs.lemmas.List.{with_items_is}
use Rattle.node_state.specs.declared.node_state.NodeState.{NodeState}
use Rattle.node_progress.specs.NodeStates.{IsNodeState}
use Rattle.node_progress.specs.Restarts.{restart_of, next_first, IsEndOf}
use Rattle.data_loop.specs.declared.epoch_state.EpochState.{EpochState}
use Rattle.std.specs.Vec.{with_items}
use Rattle.data_loop.specs.EpochStateParts.{restarts_in, restart_at}
use Rattle.data_loop.specs.Loops.{plan_of}
use Rattle.data_loop.proofs.PoolCountLemmas.{few_epochs}
use Rattle.data_loop.proofs.EpochLemmas.{ends_so, states_so, restarts_so, between}
use Rattle.data_loop.proofs.loop_state.LoopState.next_epoch.Goals as goal

pub overflow_add-next : goal.overflow_add-next
overflow_add-next c = let s = c.args.self.now in let end = c.requires.ended.2 in
    let few = few_epochs (plan_of s) end.on.loop.sound in
    let low = slice_get_within (plan_of s).epochs s.epoch end.on.stands.epoch end.on.stands.at in record { fits = omega (arith, few, low) }

pub enter_all-requires-clause-restarts : goal.enter_all-requires-clause-restarts
enter_all-requires-clause-restarts c = λ j less. let s = c.args.self.now in let end = c.requires.ended in
    let z : s.epoch + 1 ≡ suc s.epoch = omega arith in
    ap (λ l. restart_at l j) (c.restarts_in.ensures ∙ ap (λ (l : List EpochState). restarts_in l (s.epoch + 1)) c.as_slice-2.ensures.value)
    ∙ restarts_so end.0 end.1 s end.2 (s.epoch + 1) z j (subst (λ (l : List ℕ). j < length l) c.as_slice.ensures less)
    ∙ ap (λ (l : List ℕ). restart_of (plan_of s) (suc s.epoch) (get_or l j 0)) (sym c.as_slice.ensures)

pub enter_all-requires-clause-ended : goal.enter_all-requires-clause-ended
enter_all-requires-clause-ended c = λ j less. let s = c.args.self.now in let end = c.requires.ended in
    subst (λ (l : List ℕ). IsEndOf s.run_model s.epoch (next_first (plan_of s) s.epoch) (get_or l j 0)) (sym c.as_slice.ensures)
    (ends_so end.0 end.1 s end.2 j (subst (λ (l : List ℕ). j < length l) c.as_slice.ensures less))

pub enter_all-requires-clause-states : goal.enter_all-requires-clause-states
enter_all-requires-clause-states c = λ j d less. let s = c.args.self.now in let end = c.requires.ended in
    subst (λ (x : List ℕ × List NodeState). IsNodeState s.run_model s.epoch (next_first (plan_of s) s.epoch) (get_or x.0 j 0) (get_or x.1 j d))
    (λ i. (sym c.as_slice.ensures i, sym c.as_mut_slice.ensures.value i))
    (states_so end.0 end.1 s end.2 j d (subst (λ (l : List ℕ). j < length l) c.as_slice.ensures less))

pub returns-clause-between : goal.returns-clause-between
returns-clause-between c = let s = c.args.self.now in let end = c.requires.ended in
    let long = c.enter_all.auto.states ∙ c.as_mut_slice.ensures.len in
    let items = with_items_is s.states c.enter_all.new.states long in
    between end.0 end.1 s end.2 (with_items s.states c.enter_all.new.states)
    (ap (λ (l : List NodeState). length l) items ∙ long ∙ s.states.ok.0)
    (λ j d less. subst (λ (l : List NodeState). IsNodeState s.run_model (suc s.epoch) (next_first (plan_of s) s.epoch) (get_or s.nodes j 0) (get_or l j d)) (sym items)
    (subst (λ (l : List ℕ). IsNodeState s.run_model (suc s.epoch) (next_first (plan_of s) s.epoch) (get_or l j 0) (get_or c.enter_all.new.states j d)) c.as_slice.ensures
    (c.enter_all.ensures.states j d (subst (λ (l : List ℕ). j < length l) (sym c.as_slice.ensures) less))))
    (s.epoch + 1) (let z : s.epoch + 1 ≡ suc s.epoch = omega arith in z)
