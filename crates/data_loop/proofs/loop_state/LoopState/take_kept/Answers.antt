use Rattle.std.proofs.Common.{◌≡◌, ◌<◌, ◌∙◌, ℕ, List, length, get_or, sym, ap, subst}
use Rattle.node_state.specs.declared.node_state.NodeState.{NodeState}
use Rattle.data_loop.proofs.KeptLemmas.{taken}
use Rattle.data_loop.proofs.loop_state.LoopState.take_kept.Goals as goal

pub returns-clause-taken : goal.returns-clause-taken
returns-clause-taken c = let s = c.args.self.now in let i = c.index_in-at.result in let x : NodeState = c.index_mut.result.now in
    let low : i < length s.nodes = subst (λ (l : List ℕ). i < length l) c.as_slice.ensures c.index_in-at.ensures.inside in
    let node : get_or s.nodes i 0 ≡ c.args.node = ap (λ (l : List ℕ). get_or l i 0) (sym c.as_slice.ensures) ∙ c.index_in-at.ensures.at in
    taken s c.args.node i x c.take_kept.new.self c.take_kept.result c.requires.whole low node c.requires.sink c.index_mut.ensures.value
    c.take_kept.ensures.value
