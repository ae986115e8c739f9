-- Two choices have one intersection at most: its members, its form and its pick fix it.
use Rattle.std.proofs.Common.{◌≡◌, ◌≢◌, ◌⊎◌, inl, inr, ℕ, ℤ, pos, zero, suc, ◌<◌, ◌≤◌, ◌+ℤ◌, ◌*ℤ◌, ◌<ℤ◌, ◌≤ℤ◌, List, [], ◌∷◌, ◌++◌}
use Rattle.std.proofs.Common.{length, get_or, Option, Some, None, refl, sym, ap, ap₂, ◌∙◌, subst, arith}
use mathlib.Core.Logic.{dite}
use Rattle.std.proofs.Math.IntN.{ℤ_discrete}
use Rattle.std.specs.List.{AllPairs, Contains}
use Rattle.std.proofs.lemmas.Int.{ints}
use Rattle.std.proofs.lemmas.Bool.{cases_lt, cases_eq}
use Rattle.std.proofs.lemmas.List.{get_or_append_left, get_or_default}
use Rattle.std.proofs.Math.Nat.{mul-le-mul_right}
use Rattle.pod_codec.specs.declared.pod.Pod.{Pod}
use Rattle.format_filter.specs.declared.choice.Choice.{Choice}
use Rattle.format_filter.specs.declared.choice.Choice.TheVariants.{Only, Enum, Range, Step}
use Rattle.format_filter.specs.declared.choice.Wide.{Wide}
use Rattle.format_filter.specs.Members.{number_of, IsMember, pick_of, first_of}
use Rattle.format_filter.specs.Soundness.{IsSound}
use Rattle.format_filter.specs.Intersection.{IsBefore, AreThoseOf, IsOfValues, IsOverlap, IsProgression, HasForm, IsCommon, IsPicked, IsCommonIn}
use Rattle.format_filter.specs.Intersection.{IsIntersection, Meets}
use Rattle.format_filter.proofs.NumberLemmas.{positive}
use Rattle.format_filter.proofs.NumberChoiceLemmas.{contains_pair}
use Rattle.format_filter.proofs.OverlapLemmas.{number_injective}
use Rattle.format_filter.proofs.ReadingLemmas.{wide_same}
use Rattle.format_filter.proofs.ValueLemmas.{first_is}

-- LISTS in the order of another

pub not_before : (xs : List Pod) (p : Pod) → IsBefore xs p p → ⊥
not_before xs p h = h.4 h.3

-- what is in the shorter of two fronts is in the longer
longer_has : (xs f b g d : List Pod) (p : Pod) → xs ≡ f ++ b → xs ≡ g ++ d → length f ≤ length g → Contains f p → Contains g p
longer_has xs f b g d p e h le w =
    let lt = w.1 in
    let within : w.0 < length g = omega (arith, le, lt) in
    let long : get_or xs w.0 p ≡ get_or g w.0 p = ap (λ (ys : List Pod). get_or ys w.0 p) h ∙ get_or_append_left g d p w.0 within in
    let short : get_or xs w.0 p ≡ get_or f w.0 p = ap (λ (ys : List Pod). get_or ys w.0 p) e ∙ get_or_append_left f b p w.0 lt in
    (w.0, within, sym long ∙ short ∙ w.2)

never_both : (xs : List Pod) (p q : Pod) → IsBefore xs p q → IsBefore xs q p → ⊥
never_both xs p q a b = elim (cases_lt (length a.0) (length b.0)) [
  | inl lt ↦ b.4 (longer_has xs a.0 a.1 b.0 b.1 p a.2 b.2 (omega (arith, lt)) a.3)
  | inr ge ↦ a.4 (longer_has xs b.0 b.1 a.0 a.1 q b.2 a.2 ge b.3)
]

tail_pairs : (R : Pod → Pod → Type 0) (y : Pod) (ys : List Pod) → AllPairs R (y ∷ ys) → AllPairs R ys
tail_pairs R y ys h i j d lt lj = h (suc i) (suc j) d (omega (arith, lt)) (omega (arith, lj))

-- what is after the first of one list is after the same first of the other
behind : (xs : List Pod) (u v : Pod) (us vs : List Pod) → u ≡ v → AllPairs (IsBefore xs) (u ∷ us)
    → ((x : Pod) → Contains (u ∷ us) x → Contains (v ∷ vs) x) → (x : Pod) → Contains us x → Contains vs x
behind xs u v us vs e order has x w = go (has x (suc w.0, omega (arith, inside), w.2)).0 (has x (suc w.0, omega (arith, inside), w.2)).1
    (has x (suc w.0, omega (arith, inside), w.2)).2
  where
    inside : w.0 < length us
    inside = w.1

    go : (k : ℕ) → k < length (v ∷ vs) → get_or (v ∷ vs) k x ≡ x → Contains vs x
    go zero lt is =
        let before : IsBefore xs u x = subst (IsBefore xs u) w.2 (order 0 (suc w.0) x (omega arith) (omega (arith, inside))) in
        absurd (not_before xs x (subst (λ (p : Pod). IsBefore xs p x) (e ∙ is) before))
    go (suc k) lt is = (k, omega (arith, lt), is)

ordered_one : (xs ys zs : List Pod) → AllPairs (IsBefore xs) ys → AllPairs (IsBefore xs) zs → ((x : Pod) → Contains ys x → Contains zs x)
    → ((x : Pod) → Contains zs x → Contains ys x) → ys ≡ zs
ordered_one xs [] [] a b f g = refl
ordered_one xs [] (z ∷ zs) a b f g = let w = g z (0, omega arith, refl) in let lt = w.1 in absurd (omega (arith, lt))
ordered_one xs (y ∷ ys) [] a b f g = let w = f y (0, omega arith, refl) in let lt = w.1 in absurd (omega (arith, lt))
ordered_one xs (y ∷ ys) (z ∷ zs) a b f g =
    let there = f y (0, omega arith, refl) in
    let back = g z (0, omega arith, refl) in
    let heads : y ≡ z = head there.0 back.0 there.1 there.2 back.1 back.2 in
    let tails : ys ≡ zs = ordered_one xs ys zs (tail_pairs (IsBefore xs) y ys a) (tail_pairs (IsBefore xs) z zs b)
    (behind xs y z ys zs heads a f) (behind xs z y zs ys (sym heads) b g) in
    ap₂ (λ (p : Pod) (ps : List Pod). p ∷ ps) heads tails
  where
    head : (j i : ℕ) → j < length (z ∷ zs) → get_or (z ∷ zs) j y ≡ y → i < length (y ∷ ys) → get_or (y ∷ ys) i z ≡ z → y ≡ z
    head zero i lj ej li ei = sym ej
    head (suc j) zero lj ej li ei = ei
    head (suc j) (suc i) lj ej li ei = absurd (never_both xs z y (subst (IsBefore xs z) ej (b 0 (suc j) y (omega arith) lj))
        (subst (IsBefore xs y) ei (a 0 (suc i) z (omega arith) li)))

those_one : (xs : List Pod) (P : Pod → Type 0) (ys zs : List Pod) → AreThoseOf xs P ys → AreThoseOf xs P zs → ys ≡ zs
those_one xs P ys zs h g = ordered_one xs ys zs h.order g.order (λ x w. g.all x (h.only x w).0 (h.only x w).1)
    (λ x w. h.all x (g.only x w).0 (g.only x w).1)

-- PICKS that cannot differ are the same

abbrev AreApart : List Pod → Type 0
AreApart alts = AllPairs (λ x y. x ≡ y → ⊥) alts

those_apart : (xs : List Pod) (ys : List Pod) → AllPairs (IsBefore xs) ys → AreApart ys
those_apart xs ys h i j d lt lj e = not_before xs (get_or ys j d) (subst (λ (p : Pod). IsBefore xs p (get_or ys j d)) e (h i j d lt lj))

item_stable : (alts : List Pod) → AreApart alts → (p q : Pod) → Contains alts p → Contains alts q → ((p ≡ q → ⊥) → ⊥) → p ≡ q
item_stable alts apart p q a b h = elim (cases_eq a.0 b.0) [
  | inl e ↦ sym a.2 ∙ ap (λ (k : ℕ). get_or alts k p) e ∙ get_or_default alts b.0 p q b.1 ∙ b.2
  | inr ne ↦ absurd (h (λ s. differ s ne))
] where
  differ : p ≡ q → a.0 ≢ b.0 → ⊥
  differ s ne = elim (cases_lt a.0 b.0) [
    | inl lt ↦ apart a.0 b.0 p lt b.1 (a.2 ∙ s ∙ sym b.2 ∙ sym (get_or_default alts b.0 p q b.1))
    | inr ge ↦ apart b.0 a.0 q (omega (arith, ge, ne)) a.1 (b.2 ∙ sym s ∙ sym a.2 ∙ sym (get_or_default alts a.0 q p a.1))
  ]

number_stable : (wide : Wide) (n m : ℤ) → ((number_of wide n ≡ number_of wide m → ⊥) → ⊥) → n ≡ m
number_stable wide n m h = dite (ℤ_discrete n m) (λ e. e) (λ ne. absurd (h (λ s. ne (number_injective wide n m s))))

picks_agree : (a b : Choice) (first p q : Pod) → IsPicked a b first p → IsPicked a b first q → (p ≡ q → ⊥) → ⊥
picks_agree a b first p q x y ne =
    let own : IsCommon a b (pick_of a) → ⊥ = λ w. ne (x.own w ∙ sym (y.own w)) in
    let other : IsCommon a b (pick_of b) → ⊥ = λ w. ne (x.other own w ∙ sym (y.other own w)) in
    ne (x.none own other ∙ sym (y.none own other))

-- Enums of the same alternatives, Ranges of the same ends, Steps of the same
enums_one : (a b : Choice) (p q : Pod) (alts : List Pod) → 0 < length alts → AreApart alts → Contains alts p → Contains alts q
    → IsPicked a b (first_of (Enum p alts)) p → IsPicked a b (first_of (Enum q alts)) q → Enum p alts ≡ Enum q alts
enums_one a b p q alts some apart hp hq x y =
    let left = subst (λ (f : Pod). IsPicked a b f p) (first_is p alts p some) x in
    let right = subst (λ (f : Pod). IsPicked a b f q) (first_is q alts p some) y in
    ap (λ (v : Pod). Enum v alts) (item_stable alts apart p q hp hq (picks_agree a b (get_or alts 0 p) p q left right))

ranges_one : (a b : Choice) (w : Wide) (p q l h : ℤ) → IsPicked a b (number_of w l) (number_of w p)
    → IsPicked a b (number_of w l) (number_of w q) → p ≡ q
ranges_one a b w p q l h x y = number_stable w p q (picks_agree a b (number_of w l) (number_of w p) (number_of w q) x y)

-- what two choices of a form are, of which this is known
record AreBoth (a b c d : Choice) : Type 0 where
  c_sound : IsSound c
  d_sound : IsSound d
  there : (x : Pod) → IsMember c x → IsMember d x
  back : (x : Pod) → IsMember d x → IsMember c x
  c_pick : IsPicked a b (first_of c) (pick_of c)
  d_pick : IsPicked a b (first_of d) (pick_of d)

both : (Form : Choice → Type 0) (a b c d : Choice) → IsCommonIn Form a b c → IsCommonIn Form a b d → AreBoth a b c d
both Form a b c d h g = record {
  c_sound = h.sound;
  d_sound = g.sound;
  there = λ x m. g.all x (h.only x m);
  back = λ x m. h.all x (g.only x m);
  c_pick = h.pick;
  d_pick = g.pick;
}

-- VALUES

values_one : (a b : Choice) (those : List Pod) → AreApart those → (c d : Choice) → IsOfValues those c → IsOfValues those d → AreBoth a b c d
    → c ≡ d
values_one a b those apart (Only v) (Only w) e f h = let same : v ∷ [] ≡ w ∷ [] = sym e ∙ f in let one : v ≡ w = cc in ap Only one
values_one a b those apart (Only v) (Enum q alts) e f h = let one = ap length e in let two = f.0 in absurd (omega (arith, one, two))
values_one a b those apart (Enum p alts) (Only w) e f h = let one = ap length f in let two = e.0 in absurd (omega (arith, one, two))
values_one a b those apart (Enum p alts) (Enum q others) e f h =
    let same : others ≡ alts = f.1 ∙ sym e.1 in
    let two = e.0 in
    let long = ap length e.1 in
    let apart_too : AreApart alts = subst AreApart (sym e.1) apart in
    enums_one a b p q alts (omega (arith, two, long)) apart_too h.c_sound.pick (subst (λ (ys : List Pod). Contains ys q) same h.d_sound.pick)
    h.c_pick (subst (λ (ys : List Pod). IsPicked a b (first_of (Enum q ys)) q) same h.d_pick)
    ∙ ap (λ (ys : List Pod). Enum q ys) (sym same)
values_one a b those apart (Only v) (Range w q l h) e f g = absurd f
values_one a b those apart (Only v) (Step w q l h s) e f g = absurd f
values_one a b those apart (Enum p alts) (Range w q l h) e f g = absurd f
values_one a b those apart (Enum p alts) (Step w q l h s) e f g = absurd f
values_one a b those apart (Range w q l h) d e f g = absurd e
values_one a b those apart (Step w q l h s) d e f g = absurd e

-- OVERLAPS

overlaps_one : (a b : Choice) (low high : ℤ) (wide : Wide) (c d : Choice) → IsOverlap low high wide c → IsOverlap low high wide d
    → AreBoth a b c d → c ≡ d
overlaps_one a b low high wide (Only v) (Only w) e f h = ap Only (e.1 ∙ sym f.1)
overlaps_one a b low high wide (Only v) (Range w q l m) e f h = let same = e.0 in let less = f.0 in absurd (omega (arith, ints, same, less))
overlaps_one a b low high wide (Range w p l m) (Only v) e f h = let same = f.0 in let less = e.0 in absurd (omega (arith, ints, same, less))
overlaps_one a b low high wide (Range w p l m) (Range w' q l' m') e f h =
    let wides : w' ≡ w = f.1 ∙ sym e.1 in
    let lows : l' ≡ l = f.2 ∙ sym e.2 in
    let highs : m' ≡ m = f.3 ∙ sym e.3 in
    let other = subst (λ (x : Wide). IsPicked a b (number_of x l) (number_of x q)) wides
    (subst (λ (x : ℤ). IsPicked a b (number_of w' x) (number_of w' q)) lows h.d_pick) in
    let picks : p ≡ q = ranges_one a b w p q l m h.c_pick other in
    cc
overlaps_one a b low high wide (Only v) (Enum q alts) e f h = absurd f
overlaps_one a b low high wide (Only v) (Step w q l m s) e f h = absurd f
overlaps_one a b low high wide (Range w p l m) (Enum q alts) e f h = absurd f
overlaps_one a b low high wide (Range w p l m) (Step w' q l' m' s) e f h = absurd f
overlaps_one a b low high wide (Enum q alts) d e f h = absurd e
overlaps_one a b low high wide (Step w q l m s) d e f h = absurd e

-- PROGRESSIONS

-- the numbers of a Step
abbrev row : ℤ → ℤ → ℕ → ℤ
row min step i = min +ℤ (pos i *ℤ step)

row_rises : (min step : ℤ) (i j : ℕ) → pos 0 <ℤ step → i < j → row min step i <ℤ row min step j
row_rises min step i j z lt =
    let s = positive step z in
    let up = mul-le-mul_right s.0 lt in
    let some = s.2 in
    subst (λ (t : ℤ). row min t i <ℤ row min t j) (sym s.1) (omega (arith, ints, up, some))

row_member : (w : Wide) (q min max step : ℤ) (k i : ℕ) → pos 0 <ℤ step → max ≡ row min step k → i ≤ k
    → IsMember (Step w q min max step) (number_of w (row min step i))
row_member w q min max step k i z e le = (
  row min step i,
  refl,
  (i, refl),
  elim (cases_lt i k) [
    | inl lt ↦ let rises = row_rises min step i k z lt in omega (arith, ints, rises, e)
    | inr ge ↦ let same : i ≡ k = omega (arith, ge, le) in let is = ap (row min step) same in omega (arith, ints, is, e)
  ],
)

-- two numbers are not one value
not_one : (w : Wide) (n m : ℤ) (v : Pod) → n <ℤ m → number_of w n ≡ v → number_of w m ≡ v → ⊥
not_one w n m v lt a b = let same : n ≡ m = number_injective w n m (a ∙ sym b) in omega (arith, ints, lt, same)

in_pair : (alts : List Pod) (v w x : Pod) → alts ≡ v ∷ w ∷ [] → Contains alts x → (x ≡ v) ⊎ (x ≡ w)
in_pair alts v w x e h = let at = subst (λ (ys : List Pod). Contains ys x) e h in contains_pair v w x at.0 at.1 at.2

first_in : (alts : List Pod) (v w : Pod) → alts ≡ v ∷ w ∷ [] → Contains alts v
first_in alts v w e = subst (λ (ys : List Pod). Contains ys v) (sym e) (0, omega arith, refl)

second_in : (alts : List Pod) (v w : Pod) → alts ≡ v ∷ w ∷ [] → Contains alts w
second_in alts v w e = subst (λ (ys : List Pod). Contains ys w) (sym e) (1, omega arith, refl)

-- one value is no two numbers, and no row of more; two are no row of more
one_not_two : (v q : Pod) (alts : List Pod) → IsProgression (Enum q alts) → ((x : Pod) → IsMember (Enum q alts) x → x ≡ v) → ⊥
one_not_two v q alts f all = not_one f.0 f.1 f.2 v f.3 (all (number_of f.0 f.1) (first_in alts _ _ f.4))
    (all (number_of f.0 f.2) (second_in alts _ _ f.4))

one_not_more : (v : Pod) (w : Wide) (q min max step : ℤ) → IsProgression (Step w q min max step) → pos 0 <ℤ step
    → ((x : Pod) → IsMember (Step w q min max step) x → x ≡ v) → ⊥
one_not_more v w q min max step f z all =
    let two = f.1 in
    not_one w (row min step 0) (row min step 1) v (row_rises min step 0 1 z (omega arith))
    (all _ (row_member w q min max step f.0 0 z f.2 (omega arith))) (all _ (row_member w q min max step f.0 1 z f.2 (omega (arith, two))))

two_not_more : (p : Pod) (alts : List Pod) (w : Wide) (q min max step : ℤ) → IsProgression (Enum p alts)
    → IsProgression (Step w q min max step) → pos 0 <ℤ step
    → ((x : Pod) → IsMember (Step w q min max step) x → Contains alts x) → ⊥
two_not_more p alts w q min max step e f z all = go (at 0 (omega arith)) (at 1 (omega (arith, two))) (at 2 two) where
  two : 2 ≤ f.0
  two = f.1

  first : Pod
  first = number_of e.0 e.1

  second : Pod
  second = number_of e.0 e.2

  at : (i : ℕ) → i ≤ f.0 → (number_of w (row min step i) ≡ number_of e.0 e.1) ⊎ (number_of w (row min step i) ≡ number_of e.0 e.2)
  at i le = in_pair alts (number_of e.0 e.1) (number_of e.0 e.2) (number_of w (row min step i)) e.4
      (all _ (row_member w q min max step f.0 i z f.2 le))

  apart : (i j : ℕ) (v : Pod) → i < j → number_of w (row min step i) ≡ v → number_of w (row min step j) ≡ v → ⊥
  apart i j v lt = not_one w (row min step i) (row min step j) v (row_rises min step i j z lt)

  go : (number_of w (row min step 0) ≡ number_of e.0 e.1) ⊎ (number_of w (row min step 0) ≡ number_of e.0 e.2)
      → (number_of w (row min step 1) ≡ number_of e.0 e.1) ⊎ (number_of w (row min step 1) ≡ number_of e.0 e.2)
      → (number_of w (row min step 2) ≡ number_of e.0 e.1) ⊎ (number_of w (row min step 2) ≡ number_of e.0 e.2) → ⊥
  go (inl x) (inl y) u = apart 0 1 (number_of e.0 e.1) (omega arith) x y
  go (inr x) (inr y) u = apart 0 1 (number_of e.0 e.2) (omega arith) x y
  go (inl x) (inr y) (inl u) = apart 0 2 (number_of e.0 e.1) (omega arith) x u
  go (inl x) (inr y) (inr u) = apart 1 2 (number_of e.0 e.2) (omega arith) y u
  go (inr x) (inl y) (inl u) = apart 1 2 (number_of e.0 e.1) (omega arith) y u
  go (inr x) (inl y) (inr u) = apart 0 2 (number_of e.0 e.2) (omega arith) x u

-- two pairs of the same numbers
pairs_one : (p q : Pod) (alts others : List Pod) → IsProgression (Enum p alts) → IsProgression (Enum q others)
    → ((x : Pod) → Contains alts x → Contains others x) → others ≡ alts
pairs_one p q alts others e f there = go (at _ (first_in alts _ _ e.4)) (at _ (second_in alts _ _ e.4)) where
  at : (x : Pod) → Contains alts x → (x ≡ number_of f.0 f.1) ⊎ (x ≡ number_of f.0 f.2)
  at x h = in_pair others (number_of f.0 f.1) (number_of f.0 f.2) x f.4 (there x h)

  go : (number_of e.0 e.1 ≡ number_of f.0 f.1) ⊎ (number_of e.0 e.1 ≡ number_of f.0 f.2)
      → (number_of e.0 e.2 ≡ number_of f.0 f.1) ⊎ (number_of e.0 e.2 ≡ number_of f.0 f.2) → others ≡ alts
  go (inl x) (inl y) = absurd (not_one e.0 e.1 e.2 _ e.3 x y)
  go (inr x) (inr y) = absurd (not_one e.0 e.1 e.2 _ e.3 x y)
  go (inl x) (inr y) = f.4 ∙ ap₂ (λ (v w : Pod). v ∷ w ∷ []) (sym x) (sym y) ∙ sym e.4
  go (inr x) (inl y) =
      let wides : e.0 ≡ f.0 = wide_same e.0 f.0 e.1 f.2 x in
      let high : e.1 ≡ f.2 = number_injective f.0 e.1 f.2 (ap (λ (w : Wide). number_of w e.1) (sym wides) ∙ x) in
      let low : e.2 ≡ f.1 = number_injective f.0 e.2 f.1 (ap (λ (w : Wide). number_of w e.2) (sym wides) ∙ y) in
      let a = e.3 in
      let b = f.3 in
      absurd (omega (arith, ints, high, low, a, b))

pair_apart : (p : Pod) (alts : List Pod) → IsProgression (Enum p alts) → AreApart alts
pair_apart p alts e = subst AreApart (sym e.4) two where
  two : AreApart (number_of e.0 e.1 ∷ number_of e.0 e.2 ∷ [])
  two zero zero d lt lj s = omega (arith, lt)
  two zero (suc zero) d lt lj s = not_one e.0 e.1 e.2 (number_of e.0 e.2) e.3 s refl
  two zero (suc (suc j)) d lt lj s = omega (arith, lj)
  two (suc i) j d lt lj s = omega (arith, lt, lj)

-- a number of a Step, as a number
record IsInStep (w w' : Wide) (min max step n : ℤ) : Type 0 where
  wides : w ≡ w'
  place : ℕ
  at : n ≡ row min step place
  most : n ≤ℤ max

in_step : (w w' : Wide) (q min max step n : ℤ) → IsMember (Step w' q min max step) (number_of w n) → IsInStep w w' min max step n
in_step w w' q min max step n h =
    let wides : w ≡ w' = wide_same w w' n h.0 h.1 in
    let is : n ≡ h.0 = number_injective w' n h.0 (ap (λ (x : Wide). number_of x n) (sym wides) ∙ h.1) in
    record { wides = wides; place = h.2.0; at = is ∙ h.2.1; most = subst (λ (m : ℤ). m ≤ℤ max) (sym is) h.3 }

row_low : (min step : ℤ) (i : ℕ) → pos 0 <ℤ step → min ≤ℤ row min step i
row_low min step i z =
    let s = positive step z in
    subst (λ (t : ℤ). min ≤ℤ row min t i) (sym s.1) (omega (arith, ints))

row_second : (min step : ℤ) (i : ℕ) → pos 0 <ℤ step → min <ℤ row min step i → row min step 1 ≤ℤ row min step i
row_second min step zero z lt = absurd (omega (arith, ints, lt))
row_second min step (suc zero) z lt = omega (arith, ints)
row_second min step (suc (suc i)) z lt = let rises = row_rises min step 1 (suc (suc i)) z (omega arith) in omega (arith, ints, rises)

-- a Step whose members another has: it begins no lower, ends no higher, and has no lesser step
record IsInside (w w' : Wide) (min max step min' max' step' : ℤ) : Type 0 where
  wides : w ≡ w'
  low : min' ≤ℤ min
  high : max ≤ℤ max'
  second : min ≡ min' → step' ≤ℤ step

inside : (w w' : Wide) (p q min max step min' max' step' : ℤ) → IsProgression (Step w p min max step) → pos 0 <ℤ step → pos 0 <ℤ step'
    → ((x : Pod) → IsMember (Step w p min max step) x → IsMember (Step w' q min' max' step') x)
    → IsInside w w' min max step min' max' step'
inside w w' p q min max step min' max' step' e z z' there =
    let k = e.0 in
    let two = e.1 in
    let at : (i : ℕ) → i ≤ k → IsInStep w w' min' max' step' (row min step i) = λ i le. in_step w w' q min' max' step' (row min step i)
    (there _ (row_member w p min max step k i z e.2 le)) in
    let first = at 0 (omega arith) in
    let next = at 1 (omega (arith, two)) in
    let last = at k (omega arith) in
    let zero_is : row min step 0 ≡ min = omega (arith, ints) in
    let up = row_low min' step' first.place z' in
    let first_at = first.at in
    let most = last.most in
    let last_is = e.2 in
    record {
      wides = first.wides;
      low = omega (arith, ints, up, first_at, zero_is);
      high = omega (arith, ints, most, last_is);
      second = λ same.
          let rises = row_rises min step 0 1 z (omega arith) in
          let next_at = next.at in
          let above : min' <ℤ row min' step' next.place = omega (arith, ints, rises, next_at, same, zero_is) in
          let least = row_second min' step' next.place z' above in
          omega (arith, ints, least, next_at, same);
    }

progressions_one : (a b c d : Choice) → IsProgression c → IsProgression d → AreBoth a b c d → c ≡ d
progressions_one a b (Only v) (Only w) e f h = ap Only (h.there v refl)
progressions_one a b (Only v) (Enum q alts) e f h = absurd (one_not_two v q alts f h.back)
progressions_one a b (Only v) (Step w q l m s) e f h = absurd (one_not_more v w q l m s f h.d_sound.parts.4 h.back)
progressions_one a b (Enum p alts) (Only v) e f h = absurd (one_not_two v p alts e h.there)
progressions_one a b (Enum p alts) (Enum q others) e f h =
    let same : others ≡ alts = pairs_one p q alts others e f h.there in
    let long = ap length e.4 in
    enums_one a b p q alts (omega (arith, long)) (pair_apart p alts e) h.c_sound.pick
    (subst (λ (ys : List Pod). Contains ys q) same h.d_sound.pick) h.c_pick
    (subst (λ (ys : List Pod). IsPicked a b (first_of (Enum q ys)) q) same h.d_pick)
    ∙ ap (λ (ys : List Pod). Enum q ys) (sym same)
progressions_one a b (Enum p alts) (Step w q l m s) e f h = absurd (two_not_more p alts w q l m s e f h.d_sound.parts.4 h.back)
progressions_one a b (Step w q l m s) (Only v) e f h = absurd (one_not_more v w q l m s e h.c_sound.parts.4 h.there)
progressions_one a b (Step w p l m s) (Enum q others) e f h = absurd (two_not_more q others w p l m s f e h.c_sound.parts.4 h.there)
progressions_one a b (Step w p l m s) (Step w' q l' m' s') e f h =
    let x = inside w w' p q l m s l' m' s' e h.c_sound.parts.4 h.d_sound.parts.4 h.there in
    let y = inside w' w q p l' m' s' l m s f h.d_sound.parts.4 h.c_sound.parts.4 h.back in
    let wides : w' ≡ w = y.wides in
    let x_low = x.low in
    let y_low = y.low in
    let x_high = x.high in
    let y_high = y.high in
    let lows : l' ≡ l = omega (arith, ints, x_low, y_low) in
    let highs : m' ≡ m = omega (arith, ints, x_high, y_high) in
    let x_step = x.second (sym lows) in
    let y_step = y.second lows in
    let steps : s' ≡ s = omega (arith, ints, x_step, y_step) in
    let other = subst (λ (v : Wide). IsPicked a b (number_of v l) (number_of v q)) wides
    (subst (λ (v : ℤ). IsPicked a b (number_of w' v) (number_of w' q)) lows h.d_pick) in
    let picks : p ≡ q = ranges_one a b w p q l m h.c_pick other in
    cc
progressions_one a b (Only v) (Range w q l m) e f h = absurd f
progressions_one a b (Enum p alts) (Range w q l m) e f h = absurd f
progressions_one a b (Step w p l m s) (Range w' q l' m') e f h = absurd f
progressions_one a b (Range w p l m) d e f h = absurd e

-- THE INTERSECTION of two choices

listed_one : (a b c d : Choice) (xs : List Pod) (P : Pod → Type 0) → (those : List Pod) × AreThoseOf xs P those × IsOfValues those c
    → (those : List Pod) × AreThoseOf xs P those × IsOfValues those d → AreBoth a b c d → c ≡ d
listed_one a b c d xs P e f h =
    let same : f.0 ≡ e.0 = those_one xs P f.0 e.0 f.1 e.1 in
    values_one a b e.0 (those_apart xs e.0 e.1.order) c d e.2 (subst (λ (ys : List Pod). IsOfValues ys d) same f.2) h

forms_one : (a b c d : Choice) → HasForm a b c → HasForm a b d → AreBoth a b c d → c ≡ d
forms_one (Only v) b c d e f h = listed_one (Only v) b c d (v ∷ []) (IsMember b) e f h
forms_one (Enum p alts) b c d e f h = listed_one (Enum p alts) b c d alts (IsMember b) e f h
forms_one (Range w p l m) (Only v) c d e f h = listed_one (Range w p l m) (Only v) c d (v ∷ []) (IsMember (Range w p l m)) e f h
forms_one (Step w p l m s) (Only v) c d e f h = listed_one (Step w p l m s) (Only v) c d (v ∷ []) (IsMember (Step w p l m s)) e f h
forms_one (Range w p l m) (Enum q alts) c d e f h = listed_one (Range w p l m) (Enum q alts) c d alts (IsMember (Range w p l m)) e f h
forms_one (Step w p l m s) (Enum q alts) c d e f h = listed_one (Step w p l m s) (Enum q alts) c d alts (IsMember (Step w p l m s)) e f h
forms_one (Range w p l m) (Range w' q l' m') c d e f h = overlaps_one (Range w p l m) (Range w' q l' m') _ _ w c d e f h
forms_one (Range w p l m) (Step w' q l' m' s') c d e f h = progressions_one (Range w p l m) (Step w' q l' m' s') c d e f h
forms_one (Step w p l m s) (Range w' q l' m') c d e f h = progressions_one (Step w p l m s) (Range w' q l' m') c d e f h
forms_one (Step w p l m s) (Step w' q l' m' s') c d e f h = progressions_one (Step w p l m s) (Step w' q l' m' s') c d e f h

pub intersection_one : (a b c d : Choice) → IsIntersection a b c → IsIntersection a b d → c ≡ d
intersection_one a b c d h g = forms_one a b c d h.form g.form (both (HasForm a b) a b c d h g)

-- and one outcome of a meeting
pub meets_one : (a b : Choice) (o p : Option Choice) → Meets a b o → Meets a b p → o ≡ p
meets_one a b None None h g = refl
meets_one a b None (Some d) h g = absurd (h (pick_of d) (g.only (pick_of d) g.sound.pick))
meets_one a b (Some c) None h g = absurd (g (pick_of c) (h.only (pick_of c) h.sound.pick))
meets_one a b (Some c) (Some d) h g = ap Some (intersection_one a b c d h g)
