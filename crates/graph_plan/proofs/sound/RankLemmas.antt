-- A link that closes no loop keeps an order of the links; so do fewer links, and a mark on a node without a link.
use Rattle.std.proofs.Common.{◌≡◌, ◌⊎◌, inl, inr, ℕ, zero, suc, ◌+◌, ◌<◌, List, [], ◌∷◌, ◌++◌, length, get_or, Bool, true, false, cond}
use Rattle.std.proofs.Common.{refl, sym, subst, arith, append-nil, ◌&&◌}
use Rattle.std.specs.Prelude.{if◌then◌else◌}
use Rattle.std.specs.List.{Contains, filter}
use Rattle.std.proofs.lemmas.Bool.{or_cases, or_left, or_right, and_parts, and_from, eqb-true, eq-eqb, false_from_ne_true}
use Rattle.std.proofs.lemmas.List.Elements.{Contains-push_cases, filter-append}
use Rattle.link_negotiation.specs.declared.link.Link.{Link}
use Rattle.link_negotiation.specs.Links.{IsWalk, IsReachable}
use Rattle.graph_plan.specs.working.Reaching.{HasRank, leads}

-- each node leads to itself
leads_self : (ls : List Link) (a : ℕ) → leads ls a a ≡ true
leads_self [] a = eq-eqb a a refl
leads_self (l ∷ ls) a = or_left (leads ls a a) (leads ls a l.from.node && leads ls l.to.node a) (leads_self ls a)

-- a link among others is the first, or one after it
first_or : (l : Link) (ls : List Link) (m : Link) → Contains (l ∷ ls) m → (l ≡ m) ⊎ Contains ls m
first_or l ls m w = go w.0 w.1 w.2 where
  go : (k : ℕ) → k < length (l ∷ ls) → get_or (l ∷ ls) k m ≡ m → (l ≡ m) ⊎ Contains ls m
  go zero h e = inl e
  go (suc k) h e = inr (k, omega arith, e)

-- what links lead to, a link from there leads on from
leads_on : (ls : List Link) (a : ℕ) (m : Link) → Contains ls m → leads ls a m.from.node ≡ true → leads ls a m.to.node ≡ true
leads_on [] a m w e = absurd (omega (arith, w.1))
leads_on (l ∷ ls) a m w e = elim (first_or l ls m w) [
  | inl same ↦ or_right (leads ls a m.to.node) (leads ls a l.from.node && leads ls l.to.node m.to.node)
      (and_from (leads ls a l.from.node) (leads ls l.to.node m.to.node) (at_start same)
      (subst (λ (x : Link). leads ls l.to.node x.to.node ≡ true) same (leads_self ls l.to.node)))
  | inr there ↦ elim (or_cases (leads ls a m.from.node) (leads ls a l.from.node && leads ls l.to.node m.from.node) e) [
    | inl here ↦ or_left (leads ls a m.to.node) (leads ls a l.from.node && leads ls l.to.node m.to.node) (leads_on ls a m there here)
    | inr through ↦
        let both = and_parts (leads ls a l.from.node) (leads ls l.to.node m.from.node) through in
        or_right (leads ls a m.to.node) (leads ls a l.from.node && leads ls l.to.node m.to.node)
        (and_from (leads ls a l.from.node) (leads ls l.to.node m.to.node) both.0 (leads_on ls l.to.node m there both.1))
  ]
] where
  at_start : l ≡ m → leads ls a l.from.node ≡ true
  at_start same = elim (or_cases (leads ls a m.from.node) (leads ls a l.from.node && leads ls l.to.node m.from.node) e) [
    | inl here ↦ subst (λ (x : Link). leads ls a x.from.node ≡ true) (sym same) here
    | inr through ↦ (and_parts (leads ls a l.from.node) (leads ls l.to.node m.from.node) through).0
  ]

-- a walk among some links is one among more
wider : (l : Link) (ls walk : List Link) (a b : ℕ) → IsWalk ls a walk b → IsWalk (l ∷ ls) a walk b
wider l ls [] a b w = w
wider l ls (m ∷ walk) a b w = ((suc w.0.0, (let h = w.0.1 in omega arith), w.0.2), w.1, wider l ls walk m.to.node b w.2)

-- two walks, one after the other
joined : (ls walk rest : List Link) (a b c : ℕ) → IsWalk ls a walk b → IsWalk ls b rest c → IsWalk ls a (walk ++ rest) c
joined ls [] rest a b c w v = subst (λ (n : ℕ). IsWalk ls n rest c) (sym w) v
joined ls (m ∷ walk) rest a b c w v = (w.0, w.1, joined ls walk rest m.to.node b c w.2 v)

-- what links lead to has a walk
walk_of : (ls : List Link) (a b : ℕ) → leads ls a b ≡ true → IsReachable ls a b
walk_of [] a b e = ([], eqb-true a b e)
walk_of (l ∷ ls) a b e = elim (or_cases (leads ls a b) (leads ls a l.from.node && leads ls l.to.node b) e) [
  | inl here ↦ let w = walk_of ls a b here in (w.0, wider l ls w.0 a b w.1)
  | inr through ↦
      let both = and_parts (leads ls a l.from.node) (leads ls l.to.node b) through in
      let w = walk_of ls a l.from.node both.0 in
      let v = walk_of ls l.to.node b both.1 in (
        w.0 ++ l ∷ v.0,
        joined (l ∷ ls) w.0 (l ∷ v.0) a l.from.node b (wider l ls w.0 a l.from.node w.1)
            ((0, omega arith, refl), refl, wider l ls v.0 l.to.node b v.1),
      )
]

-- the rank, where all that the new link leads to is raised above where it begins
raised : (ℕ → ℕ) → List Link → Link → ℕ → ℕ
raised rank ls l n = rank n + (if leads ls l.to.node n then rank l.from.node + 1 else 0)

raised_up : (rank : ℕ → ℕ) (ls : List Link) (l : Link) (n : ℕ) → leads ls l.to.node n ≡ true
    → raised rank ls l n ≡ rank n + (rank l.from.node + 1)
unfolding raised
raised_up rank ls l n e = rw e refl

raised_not : (rank : ℕ → ℕ) (ls : List Link) (l : Link) (n : ℕ) → leads ls l.to.node n ≡ false → raised rank ls l n ≡ rank n + 0
unfolding raised
raised_not rank ls l n e = rw e refl

old_rises : (rank : ℕ → ℕ) (ls : List Link) (l m : Link) → Contains ls m → rank m.from.node < rank m.to.node
    → raised rank ls l m.from.node < raised rank ls l m.to.node
old_rises rank ls l m there up = go (leads ls l.to.node m.from.node) refl (leads ls l.to.node m.to.node) refl where
  go : (a : Bool) → leads ls l.to.node m.from.node ≡ a → (b : Bool) → leads ls l.to.node m.to.node ≡ b
      → raised rank ls l m.from.node < raised rank ls l m.to.node
  go true e b f =
      let p = raised_up rank ls l m.from.node e in
      let q = raised_up rank ls l m.to.node (leads_on ls l.to.node m there e) in
      omega arith
  go false e true f =
      let p = raised_not rank ls l m.from.node e in
      let q = raised_up rank ls l m.to.node f in
      omega arith
  go false e false f =
      let p = raised_not rank ls l m.from.node e in
      let q = raised_not rank ls l m.to.node f in
      omega arith

new_rises : (rank : ℕ → ℕ) (ls : List Link) (l : Link) → leads ls l.to.node l.from.node ≡ false
    → raised rank ls l l.from.node < raised rank ls l l.to.node
new_rises rank ls l e =
    let p = raised_not rank ls l l.from.node e in
    let q = raised_up rank ls l l.to.node (leads_self ls l.to.node) in
    omega arith

-- A LINK THAT CLOSES NO LOOP
pub more_rank : (ls : List Link) (l : Link) → HasRank ls → (IsReachable ls l.to.node l.from.node → ⊥) → HasRank (ls ++ l ∷ [])
more_rank ls l h none = record {
  rank = raised h.rank ls l;
  rises = λ m w. elim (Contains-push_cases ls l m w) [
    | inl there ↦ old_rises h.rank ls l m there (h.rises m there)
    | inr same ↦ subst (λ (x : Link). raised h.rank ls l x.from.node < raised h.rank ls l x.to.node) same
        (new_rises h.rank ls l (false_from_ne_true (leads ls l.to.node l.from.node) (λ e. none (walk_of ls l.to.node l.from.node e))))
  ];
}

-- fewer links
pub fewer_rank : (ls more : List Link) → ((l : Link) → Contains ls l → Contains more l) → HasRank more → HasRank ls
fewer_rank ls more sub h = record { rank = h.rank; rises = λ l w. h.rises l (sub l w) }

-- one link more that passes a test only where it closes no loop
pub filtered_rank : (p : Link → Bool) (ls : List Link) (l : Link) → HasRank (filter p ls)
    → (p l ≡ true → IsReachable (filter p ls) l.to.node l.from.node → ⊥) → HasRank (filter p (ls ++ l ∷ []))
filtered_rank p ls l h none = subst HasRank (sym (filter-append p ls (l ∷ []))) (go (p l) refl) where
  go : (b : Bool) → p l ≡ b → HasRank (filter p ls ++ filter p (l ∷ []))
  go true e = subst (λ (b : Bool). HasRank (filter p ls ++ cond b (l ∷ []) [])) (sym e) (more_rank (filter p ls) l h (none e))
  go false e = subst (λ (b : Bool). HasRank (filter p ls ++ cond b (l ∷ []) [])) (sym e)
      (subst HasRank (sym (append-nil (filter p ls))) h)
