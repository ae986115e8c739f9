-- Lists of those of some values for which something holds, in their order, no value twice.
use Rattle.std.proofs.Common.{◌≡◌, ℕ, zero, suc, ◌<◌, ◌≤◌, ◌⊎◌, inl, inr, List, [], ◌∷◌, ◌++◌, length, get_or, take, ◌+◌}
use Rattle.std.proofs.Common.{refl, sym, ap, ◌∙◌, subst, append_assoc, length-append, arith}
use Rattle.std.specs.List.{Contains}
use Rattle.std.proofs.lemmas.List.Elements.{Contains-get_or, Contains-append_left, Contains-push, Contains-push_cases, All-contains}
use Rattle.std.proofs.lemmas.List.{take_more}
use Rattle.std.proofs.lemmas.List.Quantifiers.{all_pairs_push}
use Rattle.pod_codec.specs.declared.pod.Pod.{Pod}
use Rattle.pod_codec.specs.PodType.{child_size}
use Rattle.pod_codec.specs.SoundChoices.{IsOfType}
use Rattle.format_filter.specs.declared.choice.Choice.{Choice}
use Rattle.format_filter.specs.declared.choice.Choice.TheVariants.{Only, Enum}
use Rattle.format_filter.specs.Members.{first_of, IsMember, pick_of}
use Rattle.format_filter.specs.Soundness.{AreOfOneType}
use Rattle.format_filter.specs.Intersection.{IsBefore, AreThoseOf, IsCommon, HasForm, IsPicked, IsCommonIn}
use Rattle.format_filter.specs.working.Making.{AreListed}

before_more : (xs ys : List Pod) (p q : Pod) → IsBefore xs p q → IsBefore (xs ++ ys) p q
before_more xs ys p q h = (h.0, h.1 ++ ys, ap (λ v. v ++ ys) h.2 ∙ append_assoc h.0 h.1 ys, h.3, h.4)

next : (values : List Pod) (i : ℕ) (v : Pod) → i < length values → v ≡ get_or values i v → take (i + 1) values ≡ take i values ++ v ∷ []
next values i v l at = take_more values i v l ∙ ap (λ (y : Pod). take i values ++ y ∷ []) (sym at)

module _ (xs : List Pod) (P : Pod → Type 0) (those : List Pod) (v : Pod) (h : AreThoseOf xs P those) where
  -- a value for which it does not hold, or that is there already, adds nothing
  pub those_stay : (P v → Contains those v) → AreThoseOf (xs ++ v ∷ []) P those
  those_stay there = record {
    only = λ x w. (Contains-append_left xs (v ∷ []) x (h.only x w).0, (h.only x w).1);
    all = λ x w p. elim (Contains-push_cases xs v x w) [
      | inl old ↦ h.all x old p
      | inr e ↦ subst (λ (y : Pod). Contains those y) e (there (subst P (sym e) p))
    ];
    order = λ i j d a b. before_more xs (v ∷ []) (get_or those i d) (get_or those j d) (h.order i j d a b);
  }

  -- a new one comes last
  pub those_more : P v → (Contains those v → ⊥) → AreThoseOf (xs ++ v ∷ []) P (those ++ v ∷ [])
  those_more p new =
      let fresh : Contains xs v → ⊥ = λ w. new (h.all v w p) in
      record {
        only = λ x w. elim (Contains-push_cases those v x w) [
          | inl old ↦ (Contains-append_left xs (v ∷ []) x (h.only x old).0, (h.only x old).1)
          | inr e ↦ (subst (λ (y : Pod). Contains (xs ++ v ∷ []) y) e (Contains-push xs v), subst P e p)
        ];
        all = λ x w q. elim (Contains-push_cases xs v x w) [
          | inl old ↦ Contains-append_left those (v ∷ []) x (h.all x old q)
          | inr e ↦ subst (λ (y : Pod). Contains (those ++ v ∷ []) y) e (Contains-push those v)
        ];
        order = all_pairs_push (IsBefore (xs ++ v ∷ [])) those v
            (λ i j d a b. before_more xs (v ∷ []) (get_or those i d) (get_or those j d) (h.order i j d a b))
            (λ k d a. (xs, v ∷ [], refl, (h.only (get_or those k d) (Contains-get_or those k d a)).0, fresh));
      }

-- the next value, where it stays and where it is added
pub stay_next : (values : List Pod) (P : Pod → Type 0) (those more : List Pod) (i : ℕ) (v : Pod) → i < length values → v ≡ get_or values i v
    → AreThoseOf (take i values) P those → more ≡ those → (P v → Contains those v) → AreThoseOf (take (i + 1) values) P more
stay_next values P those more i v l at h e there =
    subst (λ (xs : List Pod). AreThoseOf xs P more) (sym (next values i v l at))
    (subst (λ (ys : List Pod). AreThoseOf (take i values ++ v ∷ []) P ys) (sym e) (those_stay (take i values) P those v h there))

pub more_next : (values : List Pod) (P : Pod → Type 0) (those more : List Pod) (i : ℕ) (v : Pod) → i < length values → v ≡ get_or values i v
    → AreThoseOf (take i values) P those → more ≡ those ++ v ∷ [] → P v → (Contains those v → ⊥) → AreThoseOf (take (i + 1) values) P more
more_next values P those more i v l at h e p new =
    subst (λ (xs : List Pod). AreThoseOf xs P more) (sym (next values i v l at))
    (subst (λ (ys : List Pod). AreThoseOf (take i values ++ v ∷ []) P ys) (sym e) (those_more (take i values) P those v h p new))

pub those_none : (P : Pod → Type 0) → AreThoseOf [] P []
those_none P = record {
  only = λ x w. absurd (omega (arith, w.1));
  all = λ x w p. absurd (omega (arith, w.1));
  order = λ i j d a b. absurd (omega arith);
}

-- what some of a list are, if all are of one type
those_of_one_type : (xs : List Pod) (P : Pod → Type 0) (those : List Pod) → AreThoseOf xs P those → AreOfOneType xs → AreOfOneType those
those_of_one_type xs P those h t =
    (t.0, t.1, λ k d l. All-contains (IsOfType t.0) xs (get_or those k d) t.2 (h.only (get_or those k d) (Contains-get_or those k d l)).0)

pub first_is : (pick : Pod) (alts : List Pod) (d : Pod) → 0 < length alts → first_of (Enum pick alts) ≡ get_or alts 0 d
first_is pick [] d l = absurd (omega arith)
first_is pick (x ∷ xs) d l = refl

contains_one : (v x : Pod) (k : ℕ) → k < length (v ∷ []) → get_or (v ∷ []) k x ≡ x → x ≡ v
contains_one v x zero l e = sym e
contains_one v x (suc k) l e = absurd (omega arith)

-- the pick of a choice of one value is due, whichever it is
pub one_picked : (a b : Choice) (v : Pod) → ((x : Pod) → IsCommon a b x → x ≡ v) → IsPicked a b v v
one_picked a b v all = record {
  own = λ w. sym (all (pick_of a) w);
  other = λ z w. sym (all (pick_of b) w);
  none = λ z w. refl;
}

only_front : (those front : List Pod) (v : Pod) → those ≡ front ++ v ∷ [] → length those ≤ 1 → those ≡ v ∷ []
only_front those [] v e l = e
only_front those (x ∷ xs) v e l = absurd (omega (arith, ap length e, length-append xs (v ∷ [])))

-- a type that a Choice may hold is not Choice
pub no_choice : (child : ℕ) → 0 < child_size child → child ≡ 19 → ⊥
no_choice child l e = let none : child_size child ≡ 0 = ap child_size e in omega arith

module _ (a b other : Choice) (values those : List Pod) (listed : AreListed a b other values) (h : AreThoseOf values (IsMember other) those)
    (types : AreOfOneType values) where
  both : (x : Pod) → Contains those x → IsCommon a b x
  both x w = listed.all x (h.only x w).0 (h.only x w).1

  every : (x : Pod) → IsCommon a b x → Contains those x
  every x w = h.all x (listed.only x w).0 (listed.only x w).1

  -- more than one are an Enum
  pub many_meet : (pick first : Pod) → 2 ≤ length those → get_or those 0 first ≡ first → IsPicked a b first pick → IsCommon a b pick
      ⊎ (pick ≡ first) → IsCommonIn (HasForm a b) a b (Enum pick those)
  many_meet pick first l f picked member =
      let head : first_of (Enum pick those) ≡ first = first_is pick those first (omega arith) ∙ f in
      record {
        sound = record {
          parts = those_of_one_type values (IsMember other) those h types;
          pick = elim member [
            | inl common ↦ every pick common
            | inr e ↦ (0, omega arith, subst (λ (y : Pod). get_or those 0 y ≡ y) (sym e) f)
          ];
        };
        only = both;
        all = every;
        form = listed.form (Enum pick those) (those, h, (l, refl));
        pick = subst (λ (y : Pod). IsPicked a b y pick) (sym head) picked;
      }

  -- a single one is an Only
  pub one_meets : (front : List Pod) (v : Pod) → those ≡ front ++ v ∷ [] → length those ≤ 1 → IsCommonIn (HasForm a b) a b (Only v)
  one_meets front v e l =
      let alone : those ≡ v ∷ [] = only_front those front v e l in
      let here : Contains those v = subst (λ (ys : List Pod). Contains ys v) (sym alone) (0, omega arith, refl) in
      let only_it : (x : Pod) → IsCommon a b x → x ≡ v = λ x w. let c = subst (λ (ys : List Pod). Contains ys x) alone (every x w) in
      contains_one v x c.0 c.1 c.2 in
      record {
        sound = record {
          parts = λ is. no_choice types.0 types.1 (sym (All-contains (IsOfType types.0) values v types.2 (h.only v here).0) ∙ is);
          pick = refl;
        };
        only = λ x w. subst (λ (y : Pod). IsCommon a b y) (sym w) (both v here);
        all = only_it;
        form = listed.form (Only v) (those, h, alone);
        pick = one_picked a b v only_it;
      }
