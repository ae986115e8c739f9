-- The parts of a script, from the least node of each.
use Rattle.std.proofs.Common.{◌≡◌, inl, inr, ℕ, zero, suc, ◌+◌, ◌<◌, ◌≤◌, ◌==◌, Bool, true, false, cond, List, [], ◌∷◌, ◌++◌, get_or}
use Rattle.std.proofs.Common.{Some, refl, sym, ap, ◌∙◌, subst, arith}
use Rattle.std.specs.Prelude.{All, AllPairs, Contains, filter, slice_get, ◌↔◌}
use Rattle.std.specs.List.{range_with_len}
use Rattle.std.proofs.lemmas.Bool.{cases_eq, eqb-true, eq-eqb, or_cases, both_ways}
use Rattle.std.proofs.lemmas.Option.{same_Some}
use Rattle.std.proofs.lemmas.List.Elements.{All-nil, All-push, All-weaker, All-contains, All-filter, Contains-append_left, Contains-push}
use Rattle.std.proofs.lemmas.List.Folds.{list_any_at}
use Rattle.std.proofs.lemmas.List.FromFn.{length-range_with_len, get_or-range_with_len}
use Rattle.std.proofs.lemmas.List.Quantifiers.{all_pairs_push}
use Rattle.graph_lines.specs.declared.wire.Wire.{Wire}
use Rattle.graph_lines.specs.Activity.{AreJoined}
use Rattle.graph_lines.specs.Searching.{is_in, numbers_in}
use Rattle.graph_lines.proofs.CountingLemmas.{numbers_ascend, contains_numbers, numbers_contain}
use Rattle.graph_plan.specs.Parts.{is_among, IsPartOf, IsBeforePart, AreParts}
use Rattle.graph_plan.proofs.linked_parts.WalkLemmas.{joined_self, joined_on, joined_back}

differ : false ≡ true → ⊥
differ e = cc

not_so : (b : Bool) → (b ≡ true → ⊥) → b ≡ false
not_so true h = absurd (h refl)
not_so false h = refl

-- whether a node is one of these
later_has : (m : ℕ) (ms : List ℕ) (n : ℕ) → Contains ms n → Contains (m ∷ ms) n
later_has m ms n h = (suc h.0, (let l = h.1 in omega (arith, l)), h.2)

pub among_has : (nodes : List ℕ) (n : ℕ) → is_among nodes n ≡ true → Contains nodes n
among_has [] n e = absurd (differ e)
among_has (m ∷ ms) n e = elim (or_cases (m == n) (is_among ms n) e) [
  | inl same ↦ (0, omega arith, eqb-true m n same)
  | inr later ↦ later_has m ms n (among_has ms n later)
]

pub has_among : (nodes : List ℕ) (n : ℕ) → Contains nodes n → is_among nodes n ≡ true
has_among nodes n h = list_any_at (λ m. m == n) nodes h.0 n h.1 (eq-eqb (get_or nodes h.0 n) n h.2)

-- numbers of a row that pass, the first of them
pub first_of : (p : ℕ → Bool) (a n node : ℕ) → a ≤ node → node < a + n → p node ≡ true → ((m : ℕ) → m < node → p m ≡ false)
    → slice_get (filter p (range_with_len a n)) 0 ≡ Some node
first_of p a zero node le lt held none = absurd (omega (arith, le, lt))
first_of p a (suc n) node le lt held none = elim (cases_eq a node) [
  | inl same ↦ ap (λ (b : Bool). slice_get (cond b (a ∷ filter p (range_with_len (a + 1) n)) (filter p (range_with_len (a + 1) n))) 0) (ap p same ∙ held)
      ∙ ap (λ (k : ℕ). Some k) same
  | inr other ↦ ap (λ (b : Bool). slice_get (cond b (a ∷ filter p (range_with_len (a + 1) n)) (filter p (range_with_len (a + 1) n))) 0)
      (none a (omega (arith, le, other))) ∙ first_of p (a + 1) n node (omega (arith, le, other)) (omega (arith, lt)) held none
]

numbers_below : (here : List Bool) (count k : ℕ) → Contains (numbers_in here count) k → k < count
numbers_below here count k c = All-contains (λ m. m < count) (numbers_in here count) k (All-filter (is_in here) (λ m. m < count) (range_with_len 0 count)
    (λ i d l. let at = get_or-range_with_len 0 count i d (omega (arith, l, length-range_with_len 0 count)) in
    omega (arith, at, l, length-range_with_len 0 count))) c

-- PARTS of the nodes below one
pub record ArePartsBelow (count : ℕ) (made : List Wire) (below : ℕ) (parts : List (List ℕ)) : Type 0 where
  pub each : All (IsPartOf count made) parts
  pub order : AllPairs IsBeforePart parts
  pub firsts : All (λ p. (m : ℕ) → slice_get p 0 ≡ Some m → m < below) parts
  pub all : (n : ℕ) → n < below → (p : List ℕ) × Contains parts p × Contains p n

pub parts_begin : (count : ℕ) (made : List Wire) (parts : List (List ℕ)) → parts ≡ [] → ArePartsBelow count made 0 parts
parts_begin count made parts none = subst (ArePartsBelow count made 0) (sym none) (record {
  each = All-nil (IsPartOf count made);
  order = λ i j d l k. absurd (omega (arith, k));
  firsts = All-nil (λ p. (m : ℕ) → slice_get p 0 ≡ Some m → m < 0);
  all = λ n l. absurd (omega (arith, l));
})

module _ (count : ℕ) (made : List Wire) (node : ℕ) (parts : List (List ℕ)) (lt : node < count) (h : ArePartsBelow count made node parts) where
  -- a node that is in a part already
  pub part_there : (p : List ℕ) × Contains parts p × Contains p node → ArePartsBelow count made (node + 1) parts
  part_there w = record {
    each = h.each;
    order = h.order;
    firsts = All-weaker (λ p. (m : ℕ) → slice_get p 0 ≡ Some m → m < node) (λ p. (m : ℕ) → slice_get p 0 ≡ Some m → m < node + 1)
        (λ p f m e. let l = f m e in omega (arith, l)) parts h.firsts;
    all = λ n l. elim (cases_eq n node) [
      | inl same ↦ subst (λ (k : ℕ). (p : List ℕ) × Contains parts p × Contains p k) (sym same) w
      | inr other ↦ h.all n (omega (arith, l, other))
    ];
  }

  -- a node that is in no part
  module _ (none : All (λ p. is_among p node ≡ false) parts) (here : List Bool) (joined : (n : ℕ) → (is_in here n ≡ true) ↔ AreJoined made n node)
      (nodes : List ℕ) (is : nodes ≡ numbers_in here count) where
    -- no node below it is joined to it, since that one is in a part, and so would be the node
    before_not : (m : ℕ) → m < node → is_in here m ≡ false
    before_not m l = not_so (is_in here m) (λ e.
        let w = h.all m l in
        let part = All-contains (IsPartOf count made) parts w.0 h.each w.1 in
        let to_least = ((part.joined m).0 w.2).1 in
        let back = joined_back made m node ((joined m).0 e) in
        let inside = (part.joined node).1 (lt, joined_on made node m part.least back to_least) in
        both_ways (is_among w.0 node) (All-contains (λ p. is_among p node ≡ false) parts w.0 none w.1) (has_among w.0 node inside))

    own_first : slice_get (numbers_in here count) 0 ≡ Some node
    own_first = first_of (is_in here) 0 count node (omega arith) (omega (arith, lt)) ((joined node).1 (joined_self made node)) before_not

    own_part : IsPartOf count made (numbers_in here count)
    own_part = record {
      least = node;
      first = own_first;
      ascend = numbers_ascend here count;
      joined = λ n. (
        λ c. (numbers_below here count n c, (joined n).0 (contains_numbers here count n c)),
        λ w. numbers_contain here count n w.0 ((joined n).1 w.1),
      );
    }

    abbrev own : List ℕ
    own = numbers_in here count

    abbrev row : List (List ℕ)
    row = parts ++ own ∷ []

    has_own : (n : ℕ) → n ≡ node → (p : List ℕ) × Contains row p × Contains p n
    has_own n same = (
      own,
      Contains-push parts own,
      numbers_contain here count n (omega (arith, same, lt))
          ((joined n).1 (subst (λ (k : ℕ). AreJoined made k node) (sym same) (joined_self made node))),
    )

    has_old : (n : ℕ) → n < node → (p : List ℕ) × Contains row p × Contains p n
    has_old n l = let w = h.all n l in (w.0, Contains-append_left parts (own ∷ []) w.0 w.1, w.2)

    part_more : ArePartsBelow count made (node + 1) row
    part_more = record {
      each = All-push (IsPartOf count made) parts own h.each own_part;
      order = all_pairs_push IsBeforePart parts own h.order (λ k d l m n e f.
          let small = h.firsts k d l m e in
          let same : n ≡ node = same_Some n node (sym f ∙ own_first) in
          omega (arith, small, same));
      firsts = All-push (λ p. (m : ℕ) → slice_get p 0 ≡ Some m → m < node + 1) parts own
          (All-weaker (λ p. (m : ℕ) → slice_get p 0 ≡ Some m → m < node) (λ p. (m : ℕ) → slice_get p 0 ≡ Some m → m < node + 1)
          (λ p f m e. let l = f m e in omega (arith, l)) parts h.firsts)
          (λ m e. let same : m ≡ node = same_Some m node (sym e ∙ own_first) in omega (arith, same));
      all = λ n l. elim (cases_eq n node) [
        | inl same ↦ has_own n same
        | inr other ↦ has_old n (omega (arith, l, other))
      ];
    }

    pub part_new : (more : List (List ℕ)) → more ≡ parts ++ nodes ∷ [] → ArePartsBelow count made (node + 1) more
    part_new more e = subst (ArePartsBelow count made (node + 1)) (sym (e ∙ ap (λ (p : List ℕ). parts ++ p ∷ []) is)) part_more

pub parts_end : (count : ℕ) (made : List Wire) (below : ℕ) (parts : List (List ℕ)) → count ≤ below → ArePartsBelow count made below parts
    → AreParts count made parts
parts_end count made below parts le h = record {
  each = h.each;
  order = h.order;
  all = λ n l. h.all n (omega (arith, le, l));
}
