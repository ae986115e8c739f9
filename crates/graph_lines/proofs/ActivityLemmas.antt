-- Nodes that are added to a search, one after the other.
use Rattle.std.proofs.Common.{◌≡◌, ◌⊎◌, inl, inr, ℕ, ◌+◌, ◌<◌, ◌≤◌, List, [], ◌∷◌, length, get_or, Bool, true, false}
use Rattle.std.proofs.Common.{not, cond, refl, sym, ap, ◌∙◌, subst, arith, zero, suc, replicate}
use Rattle.std.specs.List.{count_by, sum_by, All}
use Rattle.std.proofs.Math.ListN.{set, length-set}
use Rattle.std.proofs.lemmas.Bool.{cases_eq}
use Rattle.std.proofs.lemmas.List.{get_or-set_same, get_or-set_other, get_or_default, length-replicate}
use Rattle.std.proofs.lemmas.List.Sums.{sum_by-set}
use Rattle.graph_lines.specs.declared.wire.Wire.{Wire}
use Rattle.graph_lines.specs.Activity.{Joins, IsWalk, AreJoined, HasWire}
use Rattle.graph_lines.specs.Searching.{is_in, IsWithin, IsClosed, TakesIn, AreIn, Spreads, HasMore}

-- what is in stays, and one node is added
pub still : (here : List Bool) (n m : ℕ) → n < length here → is_in here m ≡ true → is_in (set here n true) m ≡ true
still here n m l r = elim (cases_eq m n) [
  | inl same ↦ ap (is_in (set here n true)) same ∙ get_or-set_same here n true false l
  | inr other ↦ get_or-set_other here n m true false other ∙ r
]

pub old_or_new : (here : List Bool) (n m : ℕ) → is_in (set here n true) m ≡ true → (m ≡ n) ⊎ (is_in here m ≡ true)
old_or_new here n m e = elim (cases_eq m n) [
  | inl same ↦ inl same
  | inr other ↦ inr (sym (get_or-set_other here n m true false other) ∙ e)
]

-- one node fewer is out
fewer : (here : List Bool) (n : ℕ) → n < length here → is_in here n ≡ false → count_by not (set here n true) + 1 ≡ count_by not here
fewer here n l e =
    let f : Bool → ℕ = λ h. cond (not h) 1 0 in
    let sum : sum_by f (set here n true) + f (get_or here n false) ≡ sum_by f here + 0 = sum_by-set f here n true false l in
    let one : f (get_or here n false) ≡ 1 = ap f e in
    let less : sum_by f (set here n true) + 1 ≡ sum_by f here = omega (arith, sum, one) in
    less

-- a pass, as far as it has got
pub record IsSpread (live : List Wire) (old new : List Bool) (more : Bool) (count : ℕ) : Type 0 where
  pub spreads : Spreads live old new
  pub fewer : more ≡ true → count_by not new < count_by not old
  pub same : more ≡ false → new ≡ old
  pub closed : more ≡ false → (k : ℕ) (d : Wire) → k < count → IsClosed new (get_or live k d)

pub spread_begins : (live : List Wire) (old : List Bool) → length old ≡ 64 → IsSpread live old old false 0
spread_begins live old long = record {
  spreads = record { long = long; stays = λ n e. e; joined = λ d h. h };
  fewer = λ e. cc;
  same = λ e. refl;
  closed = λ e k d l. absurd (omega (arith, l));
}

-- a link neither of whose nodes is added
pub spread_same : (live : List Wire) (old here new : List Bool) (more : Bool) (i : ℕ) (d : Wire) → i < length live
    → IsSpread live old here more i → new ≡ here → IsClosed here (get_or live i d) → IsSpread live old new more (i + 1)
spread_same live old here new more i d l s e closed = subst (λ (x : List Bool). IsSpread live old x more (i + 1)) (sym e) (record {
  spreads = s.spreads;
  fewer = s.fewer;
  same = s.same;
  closed = λ no k f below. elim (cases_eq k i) [
    | inl here_it ↦ subst (λ (j : ℕ). IsClosed here (get_or live j f)) (sym here_it) (subst (λ (x : Wire). IsClosed here x) (any_default live i d f l) closed)
    | inr other ↦ s.closed no k f (omega (arith, below, other))
  ];
}) where
  any_default : (xs : List Wire) (i : ℕ) (d f : Wire) → i < length xs → get_or xs i d ≡ get_or xs i f
  any_default xs i d f l = get_or_default xs i d f l

-- a link one of whose nodes is added
pub spread_more : (live : List Wire) (old here new : List Bool) (more : Bool) (i : ℕ) (d : Wire) → i < length live
    → IsSpread live old here more i → TakesIn (get_or live i d) here new → IsSpread live old new true (i + 1)
spread_more live old here new more i d l s t =
    let room : t.out_node < length here = omega (arith, t.below, s.spreads.long) in
    subst (λ (x : List Bool). IsSpread live old x true (i + 1)) (sym t.grown) (record {
      spreads = record {
        long = length-set here t.out_node true ∙ s.spreads.long;
        stays = λ n e. still here t.out_node n room (s.spreads.stays n e);
        joined = λ a all n e. elim (old_or_new here t.out_node n e) [
          | inl same ↦ subst (λ (m : ℕ). AreJoined live m a) (sym same)
              (joined_on t.out_node t.in_node a t.ends (s.spreads.joined a all t.in_node t.was_in))
          | inr there ↦ s.spreads.joined a all n there
        ];
      };
      fewer = λ e. below_old;
      same = λ e. cc;
      closed = λ e k f below. cc;
    }) where
      joined_on : (n m a : ℕ) → Joins (get_or live i d) n m → AreJoined live m a → AreJoined live n a
      joined_on n m a j walk = (get_or live i d ∷ walk.0, ((i, l, get_or_default live i (get_or live i d) d l), (m, j, walk.1)))

      below_old : count_by not (set here t.out_node true) < count_by not old
      below_old = let room : t.out_node < length here = omega (arith, t.below, s.spreads.long) in
          let one = fewer here t.out_node room t.was_out in go more s.fewer s.same one where
            go : (b : Bool) → (b ≡ true → count_by not here < count_by not old) → (b ≡ false → here ≡ old)
                → count_by not (set here t.out_node true) + 1 ≡ count_by not here → count_by not (set here t.out_node true) < count_by not old
            go true few same one = let f = few refl in omega (arith, f, one)
            go false few same one = let f = ap (λ (x : List Bool). count_by not x) (same refl) in omega (arith, f, one)

pub spread_ends : (live : List Wire) (old new : List Bool) (more : Bool) (i : ℕ) → length live ≤ i → IsSpread live old new more i
    → HasMore live old new more
spread_ends live old new more i l s = record {
  fewer = s.fewer;
  same = s.same;
  closed = λ e k d below. s.closed e k d (omega (arith, below, l));
}

-- a search from a node
pub record IsSearched (live : List Wire) (node : ℕ) (here : List Bool) (more : Bool) : Type 0 where
  pub long : length here ≡ 64
  pub start : is_in here node ≡ true
  pub joined : AreIn live node here
  pub closed : more ≡ false → All (IsClosed here) live

-- where each link is closed, all that are joined to the node are in
pub all_in : (live : List Wire) (node n : ℕ) (here : List Bool) → is_in here node ≡ true → All (IsClosed here) live
    → AreJoined live n node → is_in here n ≡ true
all_in live node n here start closed j = go j.0 n j.1 where
  go : (walk : List Wire) (a : ℕ) → IsWalk live a walk node → is_in here a ≡ true
  go [] a e = ap (is_in here) e ∙ start
  go (w ∷ walk) a h = elim h.1.1 [
    | inl ends ↦ ap (is_in here) (sym ends.0) ∙ (at_wire ∙ (ap (is_in here) ends.1 ∙ go walk h.1.0 h.1.2))
    | inr ends ↦ ap (is_in here) (sym ends.0) ∙ (sym at_wire ∙ (ap (is_in here) ends.1 ∙ go walk h.1.0 h.1.2))
  ] where
    at_wire : IsClosed here w
    at_wire = subst (λ (x : Wire). IsClosed here x) h.0.2 (closed h.0.0 w h.0.1)

-- no number is in at first, and then one
pub none_in : (n k : ℕ) → is_in (replicate n false) k ≡ false
none_in zero k = refl
none_in (suc n) zero = refl
none_in (suc n) (suc k) = none_in n k

pub one_in : (node : ℕ) → node < 64 → is_in (set (replicate 64 false) node true) node ≡ true
one_in node l = get_or-set_same (replicate 64 false) node true false (omega (arith, l, length-replicate 64 false))

pub one_alone : (node n : ℕ) → is_in (set (replicate 64 false) node true) n ≡ true → n ≡ node
one_alone node n e = elim (old_or_new (replicate 64 false) node n e) [
  | inl same ↦ same
  | inr there ↦ absurd (differ (sym (none_in 64 n) ∙ there))
] where
  differ : false ≡ true → ⊥
  differ p = cc

pub search_begins : (live : List Wire) (node : ℕ) (here : List Bool) → node < 64 → here ≡ set (replicate 64 false) node true
    → IsSearched live node here true
search_begins live node here l e = subst (λ (x : List Bool). IsSearched live node x true) (sym e) (record {
  long = length-set (replicate 64 false) node true ∙ length-replicate 64 false;
  start = one_in node l;
  joined = λ n i. ([], one_alone node n i);
  closed = λ no. cc;
})

pub search_goes_on : (live : List Wire) (node : ℕ) (old new : List Bool) (was more : Bool) → IsSearched live node old was
    → Spreads live old new → HasMore live old new more → IsSearched live node new more
search_goes_on live node old new was more s t h = record {
  long = t.long;
  start = t.stays node s.start;
  joined = t.joined node s.joined;
  closed = h.closed;
}

pub search_falls : (live : List Wire) (old new : List Bool) (more : Bool) → HasMore live old new more
    → count_by not new + cond more 1 0 < count_by not old + 1
search_falls live old new true h = let f = h.fewer refl in omega (arith, f)
search_falls live old new false h = let f = ap (λ (x : List Bool). count_by not x) (h.same refl) in omega (arith, f)

-- 63 and the nodes of the first links are in
pub record IsLinked (live : List Wire) (here : List Bool) (count : ℕ) : Type 0 where
  pub long : length here ≡ 64
  pub only : (n : ℕ) → is_in here n ≡ true → (n ≡ 63) ⊎ HasWire live n
  pub driver : is_in here 63 ≡ true
  pub nodes : (k : ℕ) (d : Wire) → k < count → (is_in here (get_or live k d).from.node ≡ true) × (is_in here (get_or live k d).to.node ≡ true)

pub linked_begins : (live : List Wire) (here : List Bool) → here ≡ set (replicate 64 false) 63 true → IsLinked live here 0
linked_begins live here e = subst (λ (x : List Bool). IsLinked live x 0) (sym e) (record {
  long = length-set (replicate 64 false) 63 true ∙ length-replicate 64 false;
  only = λ n i. inl (one_alone 63 n i);
  driver = one_in 63 (omega arith);
  nodes = λ k d l. absurd (omega (arith, l));
})

pub linked_more : (live : List Wire) (here : List Bool) (i : ℕ) (d : Wire) → i < length live → IsWithin (get_or live i d)
    → IsLinked live here i
    → IsLinked live (set (set here (get_or live i d).from.node true) (get_or live i d).to.node true) (i + 1)
linked_more live here i d l within s =
    let w = get_or live i d in
    let first : List Bool = set here w.from.node true in
    let room : w.from.node < length here = omega (arith, within.0, s.long) in
    let length_first : length first ≡ 64 = length-set here w.from.node true ∙ s.long in
    let room_two : w.to.node < length first = omega (arith, within.1, length_first) in
    let stays : (n : ℕ) → is_in here n ≡ true → is_in (set first w.to.node true) n ≡ true =
    λ n e. still first w.to.node n room_two (still here w.from.node n room e) in
    record {
      long = length-set first w.to.node true ∙ length_first;
      only = λ n e. elim (old_or_new first w.to.node n e) [
        | inl same ↦ inr (w, (i, l, get_or_default live i w d l), inr (sym same))
        | inr there ↦ elim (old_or_new here w.from.node n there) [
          | inl same ↦ inr (w, (i, l, get_or_default live i w d l), inl (sym same))
          | inr old ↦ s.only n old
        ]
      ];
      driver = stays 63 s.driver;
      nodes = λ k f below. elim (cases_eq k i) [
        | inl same ↦ subst (λ (x : Wire). (is_in (set first w.to.node true) x.from.node ≡ true) × (is_in (set first w.to.node true) x.to.node ≡ true))
            (get_or_default live i d f l ∙ ap (λ j. get_or live j f) (sym same)) (
              still first w.to.node w.from.node room_two (get_or-set_same here w.from.node true false room),
              get_or-set_same first w.to.node true false room_two,
            )
        | inr other ↦
            let old = s.nodes k f (omega (arith, below, other)) in
            (stays (get_or live k f).from.node old.0, stays (get_or live k f).to.node old.1)
      ];
    }

pub linked_ends : (live : List Wire) (here : List Bool) (i : ℕ) → length live ≤ i → IsLinked live here i
    → (n : ℕ) → (n ≡ 63) ⊎ HasWire live n → is_in here n ≡ true
linked_ends live here i l s n (inl e) = ap (is_in here) e ∙ s.driver
linked_ends live here i l s n (inr h) =
    let both = s.nodes h.1.0 h.0 (let k = h.1.1 in omega (arith, k, l)) in
    elim h.2 [
      | inl e ↦ ap (is_in here) (sym e ∙ ap (λ (x : Wire). x.from.node) (sym h.1.2)) ∙ both.0
      | inr e ↦ ap (is_in here) (sym e ∙ ap (λ (x : Wire). x.to.node) (sym h.1.2)) ∙ both.1
    ]
