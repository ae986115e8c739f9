-- Laws of `specs/LinkOrder.antt`: nodes are taken away one after the other, each when no link leads
-- to it from a remaining one.
use Rattle.std.proofs.Common.{inl, inr, ◌≡◌, ℕ, zero, suc, ◌<◌, ◌==◌, ◌&&◌, Bool, true, false, cond, not, List, length, get_or, set, refl}
use Rattle.std.proofs.Common.{sym, ◌∙◌, ap, subst, arith, get_or-set_other, replicate, eqb}
use mathlib.Core.Logic.{dite}
use native.Mathlib.Decide.{ℕ_discrete}
use Rattle.std.specs.Prelude.{All, ◌≢◌}
use Rattle.std.proofs.lemmas.Bool.{false_from_ne_true, cases_lt}
use Rattle.std.proofs.lemmas.List.{get_or_default, get_or-replicate}
use Rattle.std.proofs.Math.ListN.{get_or-eq_default}
use Rattle.std.proofs.lemmas.Bool.Decides.{Decides-eqb}
use Rattle.std.proofs.lemmas.List.Folds.{Any-from_list_any, list_any_at}
use Rattle.pw_graph.specs.declared.shape.ShapeLink.{ShapeLink}
use Rattle.pw_graph.specs.LinkOrder.{HasOrder, is_blocked, IsStuck, IsFree, IsWithinNodes}

-- whether a node is left
abbrev pub has : List Bool → ℕ → Bool
has left n = get_or left n false

-- those that are gone have a rank below the count of rounds, and each link that is not delayed and
-- leads to one of them leads from one of them, and rises
pub record IsPlaced (links : List ShapeLink) (left : List Bool) : Type 0 where
  pub round : ℕ
  pub rank : ℕ → ℕ
  pub below : (n : ℕ) → n < 64 → has left n ≡ false → rank n < round
  pub rises : All (λ l. l.delayed ≡ false → has left l.to.node ≡ false → (has left l.from.node ≡ false)
      × (rank l.from.node < rank l.to.node)) links

-- the parts of the test in `is_blocked`
pub blocks : (a b c : Bool) → a ≡ false → b ≡ true → c ≡ true → (not a && (b && c)) ≡ true
blocks a b c p q r = rw (p, q, r) refl

parts : (a b c : Bool) → (not a && (b && c)) ≡ true → (a ≡ false) × (b ≡ true) × (c ≡ true)
parts true b c e = cc
parts false false c e = cc
parts false true c e = (refl, refl, e)

there : (n : ℕ) → n < 64 → has (replicate 64 true) n ≡ true
there n lt = get_or-replicate 64 n true false lt

-- at the start all are left
pub starts : (links : List ShapeLink) → All IsWithinNodes links → IsPlaced links (replicate 64 true)
starts links within = record {
  round = 0;
  rank = λ n. 0;
  below = λ n lt gone. cc (there n lt);
  rises = λ k d lt here gone. cc (there _ (within k d lt).1);
}

module _ (links : List ShapeLink) (left : List Bool) (n : ℕ) (long : length left ≡ 64) (within : All IsWithinNodes links)
    (free : IsFree links left n) (p : IsPlaced links left) where
  newer : ℕ → ℕ
  newer m = cond (eqb m n) p.round (p.rank m)

  newer-here : newer n ≡ p.round
  unfolding newer
  newer-here = rw ((Decides-eqb n n).1 refl) refl

  newer-else : (m : ℕ) → m ≢ n → newer m ≡ p.rank m
  unfolding newer
  newer-else m ne = rw (false_from_ne_true (eqb m n) (λ t. ne ((Decides-eqb m n).0 t))) refl

  -- one that was gone before is not the one that goes, and stays gone
  apart : (m : ℕ) → has left m ≡ false → m ≢ n
  apart m gone e = let t : has left n ≡ false = subst (λ k. has left k ≡ false) e gone in cc (free.1)

  stays : (m : ℕ) → has left m ≡ false → has (set left n false) m ≡ false
  stays m gone = let ne : m ≢ n = apart m gone in get_or-set_other left n m false false ne ∙ gone

  goes : (m : ℕ) → has (set left n false) m ≡ false → m ≢ n → has left m ≡ false
  goes m gone ne = sym (get_or-set_other left n m false false ne) ∙ gone

  -- no link that is not delayed leads to it from a remaining one
  clear : (k : ℕ) (d : ShapeLink) → k < length links → (get_or links k d).delayed ≡ false → (get_or links k d).to.node ≡ n
      → has left (get_or links k d).from.node ≡ false
  clear k d lt here to = false_from_ne_true _ (λ t.
      let b : is_blocked links left n ≡ true = list_any_at (λ l. not l.delayed && ((l.to.node == n) && has left l.from.node)) links k d lt
      (blocks _ _ _ here ((Decides-eqb _ n).1 to) t) in cc (free.2))

  pub places : IsPlaced links (set left n false)
  places = record {
    round = suc p.round;
    rank = newer;
    below = λ m lt gone. dite (ℕ_discrete m n)
        (λ e. let t : newer m ≡ p.round = ap newer e ∙ newer-here in omega arith)
        (λ ne. let t : newer m ≡ p.rank m = newer-else m ne in let u : p.rank m < p.round = p.below m lt (goes m gone ne) in omega arith);
    rises = λ k d lt here gone. dite (ℕ_discrete (get_or links k d).to.node n)
        (λ e. let c : has left (get_or links k d).from.node ≡ false = clear k d lt here e in
        let t : newer (get_or links k d).to.node ≡ p.round = ap newer e ∙ newer-here in
        let u : newer (get_or links k d).from.node ≡ p.rank (get_or links k d).from.node = newer-else _ (apart _ c) in
        let w : p.rank (get_or links k d).from.node < p.round = p.below _ (within k d lt).0 c in
        (stays _ c, omega arith))
        (λ ne. let c = p.rises k d lt here (goes _ gone ne) in
        let t : newer (get_or links k d).to.node ≡ p.rank (get_or links k d).to.node = newer-else _ ne in
        let u : newer (get_or links k d).from.node ≡ p.rank (get_or links k d).from.node = newer-else _ (apart _ c.0) in
        let w : p.rank (get_or links k d).from.node < p.rank (get_or links k d).to.node = c.1 in
        (stays _ c.0, omega arith));
  }

all_gone : (left : List Bool) → All (λ b. b ≡ false) left → (n : ℕ) → has left n ≡ false
all_gone left none n = elim (cases_lt n (length left)) [ inl lt ↦ none n false lt | inr ge ↦ get_or-eq_default left false ge ]

-- where no node remains, the ranks are an order
pub ends : (links : List ShapeLink) (left : List Bool) → IsPlaced links left → All (λ b. b ≡ false) left → HasOrder links
ends links left p none = record {
  rank = p.rank;
  rises = λ k d lt here. (p.rises k d lt here (all_gone left none _)).1;
}

-- where there is an order and each remaining one is blocked, no node remains: there is no least one
least : (links : List ShapeLink) (left : List Bool) → All IsWithinNodes links → (h : HasOrder links) → IsStuck links left → (k n : ℕ)
    → n < 64 → h.rank n < k → has left n ≡ true → ⊥
least links left within h stuck zero n small lt here = absurd (omega arith)
least links left within h stuck (suc k) n small lt here =
    let a = Any-from_list_any (λ l. not l.delayed && ((l.to.node == n) && has left l.from.node)) links (stuck n small here) in
    let q = parts _ _ _ a.4 in
    let same : get_or links a.0 a.1 ≡ a.1 = a.3 in
    let rise : h.rank a.1.from.node < h.rank a.1.to.node =
    subst (λ l. h.rank l.from.node < h.rank l.to.node) same (h.rises a.0 a.1 a.2 (ap (λ l. l.delayed) same ∙ q.0)) in
    let to : a.1.to.node ≡ n = (Decides-eqb _ _).0 q.1 in
    let low : h.rank a.1.to.node ≡ h.rank n = ap h.rank to in
    least links left within h stuck k a.1.from.node (subst (λ l. l.from.node < 64) same (within a.0 a.1 a.2).0) (omega arith) q.2

pub none_left : (links : List ShapeLink) (left : List Bool) → length left ≡ 64 → All IsWithinNodes links → HasOrder links
    → IsStuck links left → All (λ b. b ≡ false) left
none_left links left long within h stuck k d lt =
    false_from_ne_true _ (λ t. least links left within h stuck (suc (h.rank k)) k (omega arith) (omega arith)
    (get_or_default left k false d lt ∙ t))
