-- Each kind of step keeps the rule of the start word.
use Rattle.std.proofs.Common.{◌≡◌, ◌⊎◌, ℕ, zero, suc, ◌<◌, Bool, true, false, true≢false, List, [], ◌∷◌, ◌++◌, length, set, length-set, get_or-set_same, refl, sym, ap, ◌∙◌, ⊎_elim, subst, arith}
use Rattle.std.specs.Prelude.{slice_index}
use mathlib.Core.Option.{some, some-injective, some-ne-none}
use mathlib.Core.Logic.{dite}
use native.Mathlib.Decide.{ℕ_discrete}
use lib.ListN.{get_elem?}
use Rattle.atomic_table.specs.Table.{Act, Allows, Splits, Valid, stepped, carried_after, opening}
use Rattle.atomic_table.specs.Table.Act.{keeps}
use Rattle.atomic_table.proofs.Lists.{at_set, at_snoc, at_longer, set_here, set_else, set_again}
use Rattle.ready_queues.specs.declared.start_view.StartView.{StartView}
use Rattle.ready_queues.specs.StartRule.{StartState, StartMe, Holds, IsHonest, word_of, unstarted, dealt, running, sighted, missed, HasBegun, HasLooked}

not_true : (b : Bool) → (b ≡ true → ⊥) → b ≡ false
not_true true n = absurd (n refl)
not_true false n = refl

inside : {A : Type 0} (l : List A) (i : ℕ) (a : A) → get_elem? l i ≡ some a → i < length l
inside [] i a e = absurd (some-ne-none a (sym e))
inside (x ∷ xs) zero a e = omega arith
inside (x ∷ xs) (suc i) a e = let h = inside xs i a e in omega arith

-- what a step owes, where the word becomes m and n was found
abbrev Owes : (id : ℕ) (me : StartMe) (s : StartState) (n m : ℕ) (then : ℕ → StartMe → Type 0) → Type 0
Owes id me s n m then = (w : StartView) × (a : Act (Unit {0})) × Valid s.homes me.1 a
    × Holds (stepped s 0 m id me.1 w a) × then n (w, carried_after me.1 a)

-- the seat knows more, and neither its own start nor the word is another
again : (id : ℕ) (me : StartMe) (s : StartState) (h : Holds s) (w : StartView) (n : ℕ) → get_elem? s.views id ≡ some me.0
    → w.own ≡ me.0.own → w.runs ≡ me.0.runs → (w.seen ≡ true → h.view.runs ≡ true) → n ≡ word_of h.view.runs
    → Holds (stepped s 0 n id me.1 w keeps)
again id me s h w n at own runs seen word =
    let low = h.words in let low' = inside s.views id me.0 at in
    let t : StartState = stepped s 0 n id me.1 w keeps in
    let there : (y : StartView) × (get_elem? t.views h.owner ≡ some y) × (y.own ≡ true) × (y.runs ≡ h.view.runs) = dite (ℕ_discrete h.owner id)
    (λ is. let same : me.0 ≡ h.view = some-injective me.0 h.view (sym at ∙ ap (get_elem? s.views) (sym is) ∙ h.there) in (
      w,
      ap (get_elem? t.views) is ∙ set_here s.views id w low',
      own ∙ ap (λ (y : StartView). y.own) same ∙ h.own,
      runs ∙ ap (λ (y : StartView). y.runs) same,
    ))
    (λ ne. (h.view, set_else s.views id h.owner w ne ∙ h.there, h.own, refl)) in record {
      words = length-set s.words 0 n ∙ h.words;
      owner = h.owner;
      view = there.0;
      there = there.1;
      own = there.2;
      says = get_or-set_same s.words 0 n 0 (omega (arith, low)) ∙ word ∙ ap word_of (sym there.3);
      alone = λ k u f o. ⊎_elim
          (λ y. y.0 ∙ h.alone id me.0 at (sym own ∙ ap (λ (z : StartView). z.own) y.1 ∙ o))
          (λ y. h.alone k u y.1 o) (at_set s.views id k w u f);
      seen = λ k u f o. there.3 ∙ ⊎_elim
          (λ y. seen (ap (λ (z : StartView). z.seen) y.1 ∙ o))
          (λ y. h.seen k u y.1 o) (at_set s.views id k w u f);
    }

-- THE START, by the loop's own seat
pub begins : (slots id : ℕ) (me : StartMe) → me.0.own ≡ true → Allows Holds slots id me 0 (λ _. 1) (λ _. HasBegun me)
begins slots id me own s h long at fits = let low = h.words in (
  running me.0,
  keeps,
  tt,
  record {
    words = length-set s.words 0 1 ∙ h.words;
    owner = id;
    view = running me.0;
    there = set_here s.views id (running me.0) (inside s.views id me.0 at);
    own = own;
    says = get_or-set_same s.words 0 1 0 (omega (arith, low));
    alone = λ k u f o. ⊎_elim (λ y. y.0)
        (λ y. h.alone k u y.1 o ∙ sym (h.alone id me.0 at own)) (at_set s.views id k (running me.0) u f);
    seen = λ k u f o. refl;
  },
  (refl, refl),
)

-- A LOOK
pub looks : (slots id : ℕ) (me : StartMe) → Allows Holds slots id me 0 (λ n. n) (HasLooked me)
looks slots id me s h long at fits = by_run h.view.runs refl
  where
    unsighted : false ≡ h.view.runs → me.0.seen ≡ false
    unsighted is = not_true me.0.seen (λ up. true≢false (sym (h.seen id me.0 at up) ∙ sym is))

    by_run : (b : Bool) → b ≡ h.view.runs → Owes id me s (slice_index s.words 0) (slice_index s.words 0) (HasLooked me)
    by_run false is = subst (λ n. Owes id me s n n (HasLooked me)) (sym (h.says ∙ ap word_of (sym is)))
        (missed me.0, keeps, tt, again id me s h (missed me.0) 0 at refl refl (h.seen id me.0 at) (ap word_of is), (unsighted is, refl, refl))
    by_run true is = subst (λ n. Owes id me s n n (HasLooked me)) (sym (h.says ∙ ap word_of (sym is)))
        (sighted me.0, keeps, tt, again id me s h (sighted me.0) 1 at refl refl (λ _. sym is) (ap word_of is), (refl, refl, refl))

-- A SPLIT
pub deals : (id : ℕ) (v : StartView) → Splits {S = Unit {0}} Holds id v v (dealt v)
deals id v s h at =
    let same : set s.views id v ≡ s.views = set_again s.views id v at in
    let back : (k : ℕ) (u : StartView) → get_elem? (set s.views id v ++ dealt v ∷ []) k ≡ some u → (get_elem? s.views k ≡ some u) ⊎ (dealt v ≡ u) =
    λ k u e. at_snoc s.views (dealt v) u k (ap (λ l. get_elem? (l ++ dealt v ∷ []) k) (sym same) ∙ e) in record {
      words = h.words;
      owner = h.owner;
      view = h.view;
      there = ap (λ l. get_elem? (l ++ dealt v ∷ []) h.owner) same ∙ at_longer s.views (dealt v ∷ []) h.owner h.view h.there;
      own = h.own;
      says = h.says;
      alone = λ k u e o. ⊎_elim (λ x. h.alone k u x o)
          (λ x. absurd (true≢false (sym o ∙ ap (λ (z : StartView). z.own) (sym x)))) (back k u e);
      seen = λ k u e o. ⊎_elim (λ x. h.seen k u x o)
          (λ x. h.seen id v at (ap (λ (z : StartView). z.seen) x ∙ o)) (back k u e);
    }

only : (root v : StartView) (k : ℕ) → get_elem? (root ∷ []) k ≡ some v → (k ≡ 0) × (root ≡ v)
only root v zero e = (refl, some-injective root v e)
only root v (suc k) e = absurd (some-ne-none v (sym e))

-- THE BEGINNING
pub opens : Holds (opening (0 ∷ []) [] unstarted)
opens = record {
  words = refl;
  owner = 0;
  view = unstarted;
  there = refl;
  own = refl;
  says = refl;
  alone = λ k v e o. (only unstarted v k e).0;
  seen = λ k v e o. ap (λ (z : StartView). z.seen) (only unstarted v k e).1 ∙ o;
}

-- THE LAW
pub honest : (s : StartState) → Holds s → IsHonest s
honest s h id v at own idle =
    let me : id ≡ h.owner = h.alone id v at own in
    let same : v ≡ h.view = some-injective v h.view (sym at ∙ ap (get_elem? s.views) me ∙ h.there) in
    let quiet : h.view.runs ≡ false = ap (λ (z : StartView). z.runs) (sym same) ∙ idle in (
      h.says ∙ ap word_of quiet,
      λ jd w there. not_true w.seen (λ up. true≢false (sym (h.seen jd w there up) ∙ quiet)),
    )
