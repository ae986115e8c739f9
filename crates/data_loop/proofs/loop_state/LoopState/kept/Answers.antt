use Rattle.std.proofs.Common.{◌≡◌, ◌<◌, ◌∙◌, ℕ, List, length, get_or, sym, ap, subst}
use Rattle.std.proofs.lemmas.List.{get_or_default}
use Rattle.node_state.specs.declared.node_state.NodeState.{NodeState}
use Rattle.node_progress.proofs.EndLemmas.{kept_at_end}
use Rattle.data_loop.proofs.KeptLemmas.{done_state}
use Rattle.data_loop.proofs.loop_state.LoopState.kept.Goals as goal

pub returns-clause-state : goal.returns-clause-state
returns-clause-state c = let s = c.args.self.now in let i = c.index_in.result in let x : NodeState = c.index.result.now in
    let low : i < length s.nodes = subst (λ (l : List ℕ). i < length l) c.as_slice.ensures c.index_in.ensures.inside in
    let node : get_or s.nodes i 0 ≡ c.args.node = ap (λ (l : List ℕ). get_or l i 0) (sym c.as_slice.ensures) ∙ c.index_in.ensures.at in
    let inside : i < length s.states.items = subst (λ n. i < n) (sym c.requires.whole.states) low in
    (x, (i, low, node, λ d. get_or_default s.states.items i d x inside ∙ sym c.index.ensures), c.kept.ensures.value)

pub returns-clause-end : goal.returns-clause-end
returns-clause-end c = λ done. let s = c.args.self.now in let i = c.index_in.result in let x : NodeState = c.index.result.now in
    let low : i < length s.nodes = subst (λ (l : List ℕ). i < length l) c.as_slice.ensures c.index_in.ensures.inside in
    let node : get_or s.nodes i 0 ≡ c.args.node = ap (λ (l : List ℕ). get_or l i 0) (sym c.as_slice.ensures) ∙ c.index_in.ensures.at in
    c.kept.ensures.value ∙ kept_at_end s.run_model c.requires.whole.sound c.args.node x
    (done_state s c.args.node i x done low node (sym c.index.ensures)) c.requires.sink
