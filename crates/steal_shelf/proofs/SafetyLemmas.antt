-- By the rule of the shelf no cell is with two seats, and no cell is lost.
use Rattle.std.proofs.Common.{◌≡◌, ℕ, zero, suc, ◌<◌, ◌∙◌, List, [], ◌∷◌, length, sym, refl, arith, inl, inr, ⊎_elim}
use Rattle.std.specs.Prelude.{Some, slice_get}
use Rattle.data_loop.specs.declared.loop_state.LoopState.{LoopState}
use Rattle.steal_shelf.specs.ShelfRule.{ShelfState, IsHome, IsOut, Holds}
use Rattle.steal_shelf.specs.ShelfSafety.{AreAlone}
use Rattle.steal_shelf.specs.ShelfReach.{AreInReach}

cell_at : (made : List LoopState) (i : ℕ) → i < length made → (c : LoopState) × (slice_get made i ≡ Some c)
cell_at [] i low = absurd (omega (arith, low))
cell_at (c ∷ cs) zero low = (c, refl)
cell_at (c ∷ cs) (suc i) low = cell_at cs i (omega (arith, low))

pub are_alone : (made : List LoopState) (s : ShelfState) → Holds made s → AreAlone made s
are_alone made s h i id v low here turn = let d = cell_at made i low in ⊎_elim
    (λ (x : IsHome i d.0 s). absurd (x.nobody id v here turn))
    (λ (x : IsOut i s). record {
      word = x.word;
      slot = x.slot;
      alone = λ jd w there other. x.alone jd w there other ∙ sym (x.alone id v here turn);
    })
    (h.each i d.0 d.1)

pub are_in_reach : (made : List LoopState) (s : ShelfState) → Holds made s → AreInReach made s
are_in_reach made s h i low = let d = cell_at made i low in ⊎_elim
    (λ (x : IsHome i d.0 s). inl record {
      word = x.word;
      given = d.0;
      state = x.state;
      was = d.1;
      slot = x.slot;
      is = x.allowed;
    })
    (λ (x : IsOut i s). inr record {
      seat = x.owner;
      view = x.view;
      there = x.there;
      has = x.has;
      slot = x.slot;
      alone = x.alone;
    })
    (h.each i d.0 d.1)
