-- The shelf at the start keeps its rule.
use Rattle.std.proofs.Common.{◌≡◌, ℕ, zero, suc, true≢false, List, [], ◌∷◌, length, map, replicate, sym, ap, ◌∙◌, subst, inl}
use Rattle.std.specs.Prelude.{All, Option, Some, is_some, slice_get, unwrap_or}
use Rattle.std.proofs.lemmas.List.{get_or-replicate, length-replicate, length-map}
use Rattle.std.proofs.lemmas.Option.{slice_get_within, get_or_from_slice_get}
use mathlib.Core.Option.{some, some-injective, some-ne-none}
use lib.ListN.{get_elem?}
use Rattle.atomic_table.specs.Table.{opening}
use Rattle.data_loop.specs.declared.loop_state.LoopState.{LoopState}
use Rattle.data_loop.specs.Loops.{IsBetweenEpochs}
use Rattle.steal_shelf.specs.declared.view.CellView.{CellView}
use Rattle.steal_shelf.specs.ShelfRule.{Holds, root_view}
use Rattle.steal_shelf.proofs.CellLemmas.{new_cell}

slots_at : (xs : List LoopState) (i : ℕ) (c : LoopState) → slice_get xs i ≡ Some c → get_elem? (map some (map (λ x. Some x) xs)) i ≡ some (some (Some c))
slots_at [] i c e = absurd (true≢false (sym (ap (λ (o : Option LoopState). is_some o) e)))
slots_at (x ∷ xs) zero c e = ap (λ o. some (some (Some (unwrap_or o x)))) e
slots_at (x ∷ xs) (suc i) c e = slots_at xs i c e

only : (root v : CellView) (k : ℕ) → get_elem? (root ∷ []) k ≡ some v → root ≡ v
only root v zero e = some-injective root v e
only root v (suc k) e = absurd (some-ne-none v (sym e))

pub opens : (cells : List LoopState) → All IsBetweenEpochs cells
    → Holds cells (opening (replicate (length cells) 0) (map (λ x. Some x) cells) (root_view cells))
opens cells between = record {
  words = length-replicate (length cells) 0;
  homes = length-map (map (λ (x : LoopState). Some x) cells) some ∙ length-map cells (λ (x : LoopState). Some x);
  agree = λ k v e. ap (λ (q : CellView). q.made) (sym (only (root_view cells) v k e));
  each = λ i c e. let low = slice_get_within cells i c e in inl (record {
    word = get_or-replicate (length cells) i 0 0 low;
    state = c;
    slot = slots_at cells i c e;
    allowed = new_cell c (subst IsBetweenEpochs (get_or_from_slice_get cells i c c e) (between i c low));
    nobody = λ k v f turn. true≢false (sym turn.1 ∙ ap (λ (q : CellView). q.has) (sym (only (root_view cells) v k f)));
  });
}
