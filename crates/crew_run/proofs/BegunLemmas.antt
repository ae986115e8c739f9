-- Members by what became of them, one more.
use Rattle.std.proofs.Common.{◌≡◌, ℕ, suc, ◌<◌, ◌≤◌, Bool, true, false, List, [], ◌∷◌, ◌++◌, length, map, get_or, refl, sym, ap, ◌∙◌, subst, arith, ⊎_elim, inl, inr}
use Rattle.crew_run.specs.declared.starting.Held.{Held}
use Rattle.crew_run.specs.declared.starting.Begun.{Begun}
use Rattle.crew_run.specs.declared.starting.Lists.{Lists}
use Rattle.crew_run.specs.declared.starting.Start.{Start}
use Rattle.crew_run.specs.declared.starting.Start.TheVariants.{Kept, Gone}
use Rattle.std.specs.Prelude.{All}
use Rattle.std.proofs.lemmas.List.Elements.{All-cons, All-head, All-tail}
use Rattle.crew_run.specs.Dealt.{AreDealt}
use Rattle.crew_run.specs.Starting.{IsStart, IsBegun, AreBegun, AreEnded, HasPlaced, HaveRooms}

module _ {M B H : Type 0} (given_of : H → M) (number_of : M → ℕ) (R : M → B → Type 0) where
  kept_push : (names : List Bool) (ms : List M) (m : M) (h : Held M) (kept : List Bool) (held : List (Held M)) (begun : List (Begun B H))
      → AreBegun given_of number_of R names ms kept held begun → length ms < length names
      → IsStart given_of number_of R (get_or names (length ms) false) m (Kept h)
      → AreBegun given_of number_of R names (ms ++ m ∷ []) (kept ++ true ∷ []) (held ++ h ∷ []) begun
  kept_push [] [] m h kept held begun all low is = absurd (omega (arith, low))
  kept_push [] (x ∷ ms) m h kept held begun all low is = absurd all
  kept_push (n ∷ names) [] m h kept held begun all low is =
      inl (h, [], [], ap (λ l. l ++ true ∷ []) all.0, ap (λ l. l ++ h ∷ []) all.1, is, nil names all.2)
    where
      nil : (ns : List Bool) → begun ≡ [] → AreBegun given_of number_of R ns [] [] [] begun
      nil [] e = (refl, refl, e)
      nil (x ∷ ns) e = (refl, refl, e)
  kept_push (n ∷ names) (x ∷ ms) m h kept held begun all low is = ⊎_elim
      (λ a. inl (
        a.0,
        a.1 ++ true ∷ [],
        a.2 ++ h ∷ [],
        ap (λ l. l ++ true ∷ []) a.3,
        ap (λ l. l ++ h ∷ []) a.4,
        a.5,
        kept_push names ms m h a.1 a.2 begun a.6 (omega (arith, low)) is,
      ))
      (λ a. inr (
        a.0,
        a.1 ++ true ∷ [],
        a.2,
        ap (λ l. l ++ true ∷ []) a.3,
        a.4,
        a.5,
        kept_push names ms m h a.1 held a.2 a.6 (omega (arith, low)) is,
      ))
      all

  gone_push : (names : List Bool) (ms : List M) (m : M) (b : Begun B H) (kept : List Bool) (held : List (Held M)) (begun : List (Begun B H))
      → AreBegun given_of number_of R names ms kept held begun → length ms < length names
      → IsStart given_of number_of R (get_or names (length ms) false) m (Gone b)
      → AreBegun given_of number_of R names (ms ++ m ∷ []) (kept ++ false ∷ []) held (begun ++ b ∷ [])
  gone_push [] [] m b kept held begun all low is = absurd (omega (arith, low))
  gone_push [] (x ∷ ms) m b kept held begun all low is = absurd all
  gone_push (n ∷ names) [] m b kept held begun all low is =
      inr (b, [], [], ap (λ l. l ++ false ∷ []) all.0, ap (λ l. l ++ b ∷ []) all.2, is, nil names all.1)
    where
      nil : (ns : List Bool) → held ≡ [] → AreBegun given_of number_of R ns [] [] held []
      nil [] e = (refl, e, refl)
      nil (x ∷ ns) e = (refl, e, refl)
  gone_push (n ∷ names) (x ∷ ms) m b kept held begun all low is = ⊎_elim
      (λ a. inl (
        a.0,
        a.1 ++ false ∷ [],
        a.2,
        ap (λ l. l ++ false ∷ []) a.3,
        a.4,
        a.5,
        gone_push names ms m b a.1 a.2 begun a.6 (omega (arith, low)) is,
      ))
      (λ a. inr (
        a.0,
        a.1 ++ false ∷ [],
        a.2 ++ b ∷ [],
        ap (λ l. l ++ false ∷ []) a.3,
        ap (λ l. l ++ b ∷ []) a.4,
        a.5,
        gone_push names ms m b a.1 held a.2 a.6 (omega (arith, low)) is,
      ))
      all

  -- one start more, in its list
  pub begun_push : (names : List Bool) (ms : List M) (m : M) (s : Start M B H) (l l' : Lists M B H)
      → AreBegun given_of number_of R names ms l.kept.list l.held.list l.begun.list → length ms < length names
      → IsStart given_of number_of R (get_or names (length ms) false) m s → HasPlaced l s l'
      → AreBegun given_of number_of R names (ms ++ m ∷ []) l'.kept.list l'.held.list l'.begun.list
  begun_push names ms m (Kept h) l l' all low is at =
      subst (λ (x : Lists M B H). AreBegun given_of number_of R names (ms ++ m ∷ []) x.kept.list x.held.list x.begun.list) (sym at)
      (kept_push names ms m h l.kept.list l.held.list l.begun.list all low is)
  begun_push names ms m (Gone b) l l' all low is at =
      subst (λ (x : Lists M B H). AreBegun given_of number_of R names (ms ++ m ∷ []) x.kept.list x.held.list x.begun.list) (sym at)
      (gone_push names ms m b l.kept.list l.held.list l.begun.list all low is)

  -- each list has one place less at most
  pub placed_room : (s : Start M B H) (l l' : Lists M B H) (n : ℕ) → HasPlaced l s l' → HaveRooms (suc n) l → HaveRooms n l'
  placed_room (Kept h) l l' n at old = let a = old.held in let b = old.begun in let c = old.kept in
      subst (HaveRooms n) (sym at) record { held = omega (arith, a); begun = omega (arith, b); kept = omega (arith, c) }
  placed_room (Gone b) l l' n at old = let a = old.held in let d = old.begun in let c = old.kept in
      subst (HaveRooms n) (sym at) record { held = omega (arith, a); begun = omega (arith, d); kept = omega (arith, c) }

  -- one more that was joined
  pub ended_push : (begun : List (Begun B H)) (backs : List B) (b : Begun B H) (x : B) → AreEnded given_of number_of R begun backs
      → ((given : M) → IsBegun given_of number_of R given b → R given x)
      → AreEnded given_of number_of R (begun ++ b ∷ []) (backs ++ x ∷ [])
  ended_push [] backs b x e is = (x, [], ap (λ l. l ++ x ∷ []) e, is, refl)
  ended_push (c ∷ begun) backs b x e is = (e.0, e.1 ++ x ∷ [], ap (λ l. l ++ x ∷ []) e.2, e.3, ended_push begun e.1 b x e.4 is)

  -- those that are held are members
  pub held_can : (P : M → Type 0) (names : List Bool) (ms : List M) (kept : List Bool) (held : List (Held M)) (begun : List (Begun B H))
      → AreBegun given_of number_of R names ms kept held begun → All P ms → All P (map (λ (h : Held M). h.member) held)
  held_can P [] [] kept held begun all can = subst (λ (l : List (Held M)). All P (map (λ (h : Held M). h.member) l)) (sym all.1) (λ k d low. absurd (omega (arith, low)))
  held_can P (n ∷ names) [] kept held begun all can = subst (λ (l : List (Held M)). All P (map (λ (h : Held M). h.member) l)) (sym all.1) (λ k d low. absurd (omega (arith, low)))
  held_can P [] (m ∷ ms) kept held begun all can = absurd all
  held_can P (n ∷ names) (m ∷ ms) kept held begun all can = ⊎_elim
      (λ a. subst (λ (l : List (Held M)). All P (map (λ (h : Held M). h.member) l)) (sym a.4)
      (All-cons P a.0.member (map (λ (h : Held M). h.member) a.2) (subst P (sym a.5.1) (All-head P m ms can))
      (held_can P names ms a.1 a.2 begun a.6 (All-tail P m ms can))))
      (λ a. held_can P names ms a.1 held a.2 a.6 (All-tail P m ms can))
      all

  -- those that began have begun with a member
  pub begun_can : (P : M → Type 0) (names : List Bool) (ms : List M) (kept : List Bool) (held : List (Held M)) (begun : List (Begun B H))
      → AreBegun given_of number_of R names ms kept held begun → All P ms
      → All (λ b. (given : M) × P given × IsBegun given_of number_of R given b) begun
  begun_can P [] [] kept held begun all can = subst (All (λ b. (given : M) × P given × IsBegun given_of number_of R given b)) (sym all.2) (λ k d low. absurd (omega (arith, low)))
  begun_can P (n ∷ names) [] kept held begun all can = subst (All (λ b. (given : M) × P given × IsBegun given_of number_of R given b)) (sym all.2) (λ k d low. absurd (omega (arith, low)))
  begun_can P [] (m ∷ ms) kept held begun all can = absurd all
  begun_can P (n ∷ names) (m ∷ ms) kept held begun all can = ⊎_elim
      (λ a. begun_can P names ms a.1 a.2 begun a.6 (All-tail P m ms can))
      (λ a. subst (All (λ b. (given : M) × P given × IsBegun given_of number_of R given b)) (sym a.4)
      (All-cons (λ b. (given : M) × P given × IsBegun given_of number_of R given b) a.0 a.2
      (m, All-head P m ms can, a.5.1) (begun_can P names ms a.1 held a.2 a.6 (All-tail P m ms can))))
      all

  -- neither list is longer than that of the members
  pub begun_few : (names : List Bool) (ms : List M) (kept : List Bool) (held : List (Held M)) (begun : List (Begun B H))
      → AreBegun given_of number_of R names ms kept held begun → (length held ≤ length ms) × (length begun ≤ length ms)
  begun_few [] [] kept held begun all = let a = ap (λ (l : List (Held M)). length l) all.1 in let b = ap (λ (l : List (Begun B H)). length l) all.2 in (omega (arith, a), omega (arith, b))
  begun_few (n ∷ names) [] kept held begun all = let a = ap (λ (l : List (Held M)). length l) all.1 in let b = ap (λ (l : List (Begun B H)). length l) all.2 in (omega (arith, a), omega (arith, b))
  begun_few [] (m ∷ ms) kept held begun all = absurd all
  begun_few (n ∷ names) (m ∷ ms) kept held begun all = ⊎_elim
      (λ a. let e = ap (λ (l : List (Held M)). length l) a.4 in let f = begun_few names ms a.1 a.2 begun a.6 in
      let x = f.0 in let y = f.1 in (omega (arith, e, x), omega (arith, y)))
      (λ a. let e = ap (λ (l : List (Begun B H)). length l) a.4 in let f = begun_few names ms a.1 held a.2 a.6 in
      let x = f.0 in let y = f.1 in (omega (arith, x), omega (arith, e, y)))
      all

  -- AFTER THE JOIN each member was held, or gave something back
  pub dealt : (names : List Bool) (ms : List M) (kept : List Bool) (held : List (Held M)) (begun : List (Begun B H)) (backs : List B)
      → AreBegun given_of number_of R names ms kept held begun → AreEnded given_of number_of R begun backs
      → AreDealt R ms kept (map (λ (h : Held M). h.member) held) backs
  dealt [] [] kept held begun backs all end = (all.0, ap (map (λ (h : Held M). h.member)) all.1, subst (λ (l : List (Begun B H)). AreEnded given_of number_of R l backs) all.2 end)
  dealt (n ∷ names) [] kept held begun backs all end = (all.0, ap (map (λ (h : Held M). h.member)) all.1, subst (λ (l : List (Begun B H)). AreEnded given_of number_of R l backs) all.2 end)
  dealt [] (m ∷ ms) kept held begun backs all end = absurd all
  dealt (n ∷ names) (m ∷ ms) kept held begun backs all end = ⊎_elim
      (λ a. inl (
        a.1,
        map (λ (h : Held M). h.member) a.2,
        a.3,
        ap (map (λ (h : Held M). h.member)) a.4 ∙ ap (λ (x : M). x ∷ map (λ (h : Held M). h.member) a.2) a.5.1,
        dealt names ms a.1 a.2 begun backs a.6 end,
      ))
      (λ a. let e = subst (λ (l : List (Begun B H)). AreEnded given_of number_of R l backs) a.4 end in
      inr (a.1, e.0, e.1, a.3, e.2, e.3 m a.5.1, dealt names ms a.1 held a.2 e.1 a.6 e.4))
      all
