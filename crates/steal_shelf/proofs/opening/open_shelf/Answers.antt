use Rattle.std.proofs.Common.{◌∙◌, ℕ, List, Option, replicate, sym, ap, subst}
use Rattle.atomic_table.specs.Table.{opening}
use Rattle.data_loop.specs.declared.loop_state.LoopState.{LoopState}
use Rattle.steal_shelf.specs.ShelfRule.{Holds, root_view}
use Rattle.steal_shelf.proofs.OpeningLemmas.{opens}
use Rattle.steal_shelf.proofs.opening.open_shelf.Goals as goal

pub new-requires : goal.new-requires
new-requires c = let words = c.as_slice.ensures ∙ c.in_ok-words.ensures ∙ ap (λ n. replicate n 0) c.len.ensures in
    let slots = c.into_vec.ensures ∙ c.in_ok-slots.ensures in
    subst (λ (x : List LoopState × List ℕ × List (Option LoopState)). Holds x.0 (opening x.1 x.2 (root_view x.0)))
    (λ i. (sym c.of.ensures i, sym words i, sym slots i)) (opens c.args.cells c.requires.between)
