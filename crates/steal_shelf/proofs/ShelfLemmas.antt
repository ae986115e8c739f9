-- Each kind of step keeps the rule of the shelf.
use Rattle.std.proofs.Common.{◌≡◌, ◌⊎◌, ℕ, zero, suc, ◌<◌, ◌==◌, Bool, true, false, true≢false, List, [], ◌∷◌, ◌++◌, length, set, length-set, get_or-set_same, get_or-set_other, refl, sym, ap, ◌∙◌, ⊎_elim, inl, inr, subst, arith}
use Rattle.std.specs.Prelude.{Option, Some, None, IfSome, slice_get}
use mathlib.Core.Option.{some, none, some-injective}
use mathlib.Core.Logic.{dite}
use native.Mathlib.Decide.{ℕ_discrete}
use lib.ListN.{get_elem?}
use prog.Atomic.{either}
use Rattle.atomic_table.specs.Table.{Act, Allows, Splits, Valid, stepped, carried_after, rest}
use Rattle.atomic_table.specs.Table.Act.{keeps, takes, gives}
use Rattle.atomic_table.proofs.Lists.{at_set, at_snoc, at_longer, set_here, set_else, set_again}
use Rattle.data_loop.specs.declared.loop_state.LoopState.{LoopState}
use Rattle.steal_shelf.specs.declared.view.CellView.{CellView}
use Rattle.steal_shelf.specs.Cells.{IsCell}
use Rattle.steal_shelf.specs.ShelfRule.{ShelfState, HasTurn, IsHome, IsOut, Holds}
use Rattle.steal_shelf.specs.working.ShelfSteps.{ShelfMe, IsCellOf, in_hand, tried, taken, rested, dealt, HasTried, HasReturned}
use Rattle.steal_shelf.proofs.FrameLemmas.{Beside, beside}

-- a place that is read is inside
inside : {A : Type 0} (l : List A) (i : ℕ) (a : A) → get_elem? l i ≡ some a → i < length l
inside [] i a e = absurd (mathlib.Core.Option.some-ne-none a (sym e))
inside (x ∷ xs) zero a e = omega arith
inside (x ∷ xs) (suc i) a e = let h = inside xs i a e in omega arith

is_false : (b : Bool) → (b ≡ true → ⊥) → b ≡ false
is_false true f = absurd (f refl)
is_false false f = refl

module _ (made : List LoopState) where
  -- the rule after a step of the seat id on the cell i, from what is now so of this cell
  kept : (i id : ℕ) (v w : CellView) (s t : ShelfState) → Holds made s → Beside i id v w s t → w.made ≡ v.made
      → length t.words ≡ length s.words → length t.homes ≡ length s.homes
      → ((c : LoopState) → slice_get made i ≡ Some c → IsHome i c t ⊎ IsOut i t) → Holds made t
  kept i id v w s t h b same words homes here = record {
    words = words ∙ h.words;
    homes = homes ∙ h.homes;
    agree = λ k u e. ⊎_elim
        (λ x. ap (λ (y : CellView). y.made) (sym x.1) ∙ same ∙ h.agree id v b.at)
        (λ x. h.agree k u x.1)
        (at_set s.views id k w u (ap (λ l. get_elem? l k) (sym b.views) ∙ e));
    each = λ j c e. dite (ℕ_discrete j i)
        (λ is. subst (λ n. IsHome n c t ⊎ IsOut n t) (sym is) (here c (ap (slice_get made) (sym is) ∙ e)))
        (λ other. beside i id v w s t b j other c (h.each j c e));
  }

  -- what a step owes, where the word becomes m and n was found
  abbrev Owes : (i id : ℕ) (me : ShelfMe) (s : ShelfState) (n m : ℕ) → Type 0
  Owes i id me s n m = (w : CellView) × (a : Act (Option LoopState)) × Valid s.homes me.1 a
      × Holds made (stepped s i m id me.1 w a) × HasTried i me n (w, carried_after me.1 a)

  module _ (i id : ℕ) (me : ShelfMe) (cell : me.0.cell ≡ i) (s : ShelfState) (h : Holds made s) (at : get_elem? s.views id ≡ some me.0) where
    mine : me.0.made ≡ made
    mine = h.agree id me.0 at

    of_mine : (c x : LoopState) → slice_get made i ≡ Some c → IsCell c x → IsCellOf me.0 x
    of_mine c x e is = (c, (λ k. slice_get (mine k) (cell k)) ∙ e, is)

    -- the turn is taken
    takes_home : (c : LoopState) → slice_get made i ≡ Some c → i < length made → IsHome i c s → Owes i id me s 0 1
    takes_home c e low x =
        let w : CellView = taken x.state me.0 in
        let t : ShelfState = stepped s i 1 id me.1 w (takes i (Some x.state)) in
        let wide = h.words in let slots = h.homes in
        let b : Beside i id me.0 w s t = record {
          at = at;
          old = cell;
          new = cell;
          views = refl;
          words = λ j other. get_or-set_other s.words i j 1 0 other;
          homes = λ j other. set_else s.homes i j none other;
        } in
        let out : IsOut i t = record {
          word = get_or-set_same s.words i 1 0 (omega (arith, low, wide));
          slot = set_here s.homes i none (omega (arith, low, slots));
          owner = id;
          view = w;
          there = set_here s.views id w (inside s.views id me.0 at);
          has = (cell, refl);
          alone = λ k u f turn. ⊎_elim (λ y. y.0) (λ y. absurd (x.nobody k u y.1 turn)) (at_set s.views id k w u f);
        } in (
          w,
          takes i (Some x.state),
          x.slot,
          kept i id me.0 w s t h b refl (length-set s.words i 1) (length-set s.homes i none) (λ d f. inr out),
          (is_false me.0.has (λ on. x.nobody id me.0 at (cell, on)), (x.state, refl, refl, of_mine c x.state e x.allowed)),
        )

    -- the cell is out
    finds_out : i < length made → IsOut i s → Owes i id me s 1 1
    finds_out low x =
        let w : CellView = tried me.0 in
        let t : ShelfState = stepped s i 1 id me.1 w keeps in
        let wide = h.words in
        let b : Beside i id me.0 w s t = record {
          at = at;
          old = cell;
          new = cell;
          views = refl;
          words = λ j other. get_or-set_other s.words i j 1 0 other;
          homes = λ j other. refl;
        } in
        let low' = inside s.views id me.0 at in
        let there : (y : CellView) × (get_elem? t.views x.owner ≡ some y) × HasTurn i y = dite (ℕ_discrete x.owner id)
        (λ is. (
          w,
          ap (get_elem? t.views) is ∙ set_here s.views id w low',
          (cell, ap (λ (y : CellView). y.has) (some-injective me.0 x.view (sym at ∙ ap (get_elem? s.views) (sym is) ∙ x.there)) ∙ x.has.1),
        ))
        (λ ne. (x.view, set_else s.views id x.owner w ne ∙ x.there, x.has)) in
        let out : IsOut i t = record {
          word = get_or-set_same s.words i 1 0 (omega (arith, low, wide));
          slot = x.slot;
          owner = x.owner;
          view = there.0;
          there = there.1;
          has = there.2;
          alone = λ k u f turn. ⊎_elim
              (λ y. y.0 ∙ x.alone id me.0 at (cell, ap (λ (z : CellView). z.has) y.1 ∙ turn.1))
              (λ y. x.alone k u y.1 turn) (at_set s.views id k w u f);
        } in (
          w,
          keeps,
          tt,
          kept i id me.0 w s t h b refl (length-set s.words i 1) refl (λ d f. inr out),
          (refl, refl, refl),
        )

  -- ONE TRY: the exchange of 0 for 1
  pub tries_cell : (slots id i : ℕ) (me : ShelfMe) → me.0.cell ≡ i → i < length made
      → Allows (Holds made) slots id me i (λ n. either (n == 0) 1 n) (HasTried i me)
  tries_cell slots id i me cell low s h long at fits =
      let d : (c : LoopState) × (slice_get made i ≡ Some c) = first_at made i low in
      ⊎_elim
      (λ x. subst (λ n. Owes i id me s n (either (n == 0) 1 n)) (sym x.word) (takes_home i id me cell s h at d.0 d.1 low x))
      (λ x. subst (λ n. Owes i id me s n (either (n == 0) 1 n)) (sym x.word) (finds_out i id me cell s h at low x))
      (h.each i d.0 d.1)
    where
      first_at : (l : List LoopState) (k : ℕ) → k < length l → (c : LoopState) × (slice_get l k ≡ Some c)
      first_at [] k low = absurd (omega arith)
      first_at (x ∷ xs) zero low = (x, refl)
      first_at (x ∷ xs) (suc k) low = first_at xs k (omega arith)

  -- THE TURN'S END: the slot goes home, and 0 is stored
  returned : (id i : ℕ) (me : ShelfMe) (carried : List (ℕ × Option LoopState)) (x : LoopState) → me.0.cell ≡ i → i < length made → me.0.has ≡ true
      → carried ≡ (i, Some x) ∷ [] → me.1 ≡ carried → IsCellOf me.0 x
      → (s : ShelfState) → Holds made s → get_elem? s.views id ≡ some me.0
      → (w : CellView) × (a : Act (Option LoopState)) × Valid s.homes carried a × Holds made (stepped s i 0 id carried w a)
      × ((w ≡ rested (in_hand carried) me.0) × (carried_after carried a ≡ rest carried))
  returned id i me carried x cell low has is own allowed s h at =
      let w : CellView = rested (Some x) me.0 in
      let c : List (ℕ × Option LoopState) = (i, Some x) ∷ [] in
      let t : ShelfState = stepped s i 0 id c w gives in
      let wide = h.words in let slots = h.homes in
      let made_is : me.0.made ≡ made = h.agree id me.0 at in
      let b : Beside i id me.0 w s t = record {
        at = at;
        old = cell;
        new = cell;
        views = refl;
        words = λ j other. get_or-set_other s.words i j 0 0 other;
        homes = λ j other. set_else s.homes i j (some (Some x)) other;
      } in
      let here : (d : LoopState) → slice_get made i ≡ Some d → IsHome i d t ⊎ IsOut i t = λ d e. ⊎_elim
      (λ (y : IsHome i d s). absurd (y.nobody id me.0 at (cell, has)))
      (λ (y : IsOut i s). inl (record {
        word = get_or-set_same s.words i 0 0 (omega (arith, low, wide));
        state = x;
        slot = set_here s.homes i (some (Some x)) (omega (arith, low, slots));
        allowed = subst (λ z. IsCell z x) (same_some (sym allowed.1 ∙ (λ k. slice_get (made_is k) (cell k)) ∙ e)) allowed.2;
        nobody = λ k u f turn. ⊎_elim
            (λ z. true≢false (sym turn.1 ∙ ap (λ (q : CellView). q.has) (sym z.1)))
            (λ z. z.0 (y.alone k u z.1 turn ∙ sym (y.alone id me.0 at (cell, has))))
            (at_set s.views id k w u f);
      }))
      (h.each i d e) in
      subst (λ l. (w : CellView) × (a : Act (Option LoopState)) × Valid s.homes l a × Holds made (stepped s i 0 id l w a)
      × ((w ≡ rested (in_hand l) me.0) × (carried_after l a ≡ rest l))) (sym is) (
        w,
        gives,
        tt,
        kept i id me.0 w s t h b refl (length-set s.words i 0) (length-set s.homes i (some (Some x))) here,
        (refl, refl),
      )
    where
      same_some : {A : Type 0} {y z : A} → Some y ≡ Some z → y ≡ z
      same_some {A} {y} {z} e = ap (λ o. Rattle.std.specs.Prelude.unwrap_or o y) e

  pub returns_cell : (slots id i : ℕ) (me : ShelfMe) (x : LoopState) → me.0.cell ≡ i → i < length made → me.0.has ≡ true
      → me.1 ≡ (i, Some x) ∷ [] → IsCellOf me.0 x
      → Allows (Holds made) slots id me i (λ _. 0) (λ _. HasReturned me)
  returns_cell slots id i me x cell low has is allowed s h long at fits = returned id i me me.1 x cell low has is refl allowed s h at

  -- A SPLIT: the new seat has no turn
  pub deals : (id n : ℕ) (v : CellView) → Splits {S = Option LoopState} (Holds made) id v v (dealt n v)
  deals id n v s h at =
      let t : ShelfState = record { words = s.words; homes = s.homes; views = set s.views id v ++ dealt n v ∷ [] } in
      let same : set s.views id v ≡ s.views = set_again s.views id v at in
      let back : (k : ℕ) (u : CellView) → get_elem? t.views k ≡ some u → (get_elem? s.views k ≡ some u) ⊎ (dealt n v ≡ u) =
      λ k u e. at_snoc s.views (dealt n v) u k (ap (λ l. get_elem? (l ++ dealt n v ∷ []) k) (sym same) ∙ e) in
      let idle : (i k : ℕ) (u : CellView) → get_elem? t.views k ≡ some u → HasTurn i u → get_elem? s.views k ≡ some u =
      λ i k u e turn. ⊎_elim (λ x. x) (λ x. absurd (true≢false (sym turn.1 ∙ ap (λ (q : CellView). q.has) (sym x)))) (back k u e) in
      let on : (k : ℕ) (u : CellView) → get_elem? s.views k ≡ some u → get_elem? t.views k ≡ some u =
      λ k u e. ap (λ l. get_elem? (l ++ dealt n v ∷ []) k) same ∙ at_longer s.views (dealt n v ∷ []) k u e in record {
        words = h.words;
        homes = h.homes;
        agree = λ k u e. ⊎_elim (λ x. h.agree k u x) (λ x. ap (λ (q : CellView). q.made) (sym x) ∙ h.agree id v at) (back k u e);
        each = λ i c e. ⊎_elim
            (λ x. inl (record {
              word = x.word;
              state = x.state;
              slot = x.slot;
              allowed = x.allowed;
              nobody = λ k u f turn. x.nobody k u (idle i k u f turn) turn;
            }))
            (λ x. inr (record {
              word = x.word;
              slot = x.slot;
              owner = x.owner;
              view = x.view;
              there = on x.owner x.view x.there;
              has = x.has;
              alone = λ k u f turn. x.alone k u (idle i k u f turn) turn;
            }))
            (h.each i c e);
      }

-- what a seat learns by a try that found 0
abbrev pub HasFoundHome : ℕ → ShelfMe → ShelfMe → Type 0
HasFoundHome i me m = (me.0.has ≡ false)
    × ((s : LoopState) × (m.0 ≡ taken s me.0) × (m.1 ≡ (i, Some s) ∷ me.1) × IsCellOf me.0 s)

pub found_zero : (i : ℕ) (me : ShelfMe) (n : ℕ) (m : ShelfMe) → n ≡ 0 → HasTried i me n m → HasFoundHome i me m
found_zero i me n m e h = subst (λ k. HasTried i me k m) e h

-- and when it has changed the state in the slot for none
pub took_out : (i : ℕ) (me m n : ShelfMe) (r : Option LoopState) → HasFoundHome i me m → m.1 ≡ (i, r) ∷ rest m.1 → n ≡ (m.0, (i, None) ∷ rest m.1)
    → IfSome r (λ s. IsCellOf me.0 s × (me.0.has ≡ false) × (n.0 ≡ taken s me.0) × (n.1 ≡ (i, None) ∷ me.1))
took_out i me m n r h was now = let got = h.1 in let is : Some got.0 ≡ r = ap in_hand (sym got.2 ∙ was) in
    subst (λ (o : Option LoopState). IfSome o (λ s. IsCellOf me.0 s × (me.0.has ≡ false) × (n.0 ≡ taken s me.0) × (n.1 ≡ (i, None) ∷ me.1))) is (
      got.3,
      h.0,
      ap (λ (x : ShelfMe). x.0) now ∙ got.1,
      ap (λ (x : ShelfMe). x.1) now ∙ ap (λ (l : List (ℕ × Option LoopState)). (i, None) ∷ rest l) got.2,
    )
