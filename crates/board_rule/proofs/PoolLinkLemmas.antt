-- The links of a pool, by their numbers.
use Rattle.std.proofs.Common.{◌≡◌, ◌∙◌, ℕ, suc, ◌+◌, ◌<◌, Bool, true, false, cond, List, [], ◌∷◌, map, length, get_or, refl, ap, subst, arith}
use Rattle.std.specs.Prelude.{All, Contains, count_by, filter}
use Rattle.std.specs.List.{enumerate_from}
use Rattle.std.proofs.lemmas.List.Elements.{All-map, All-contains_itself}
use Rattle.std.proofs.lemmas.List.Sums.{sum_by-cons}
use Rattle.pw_graph.specs.declared.pools.PoolShape.{PoolShape}
use Rattle.pw_graph.specs.declared.shape.Shape.{Shape}
use Rattle.board_rule.specs.buffers.EndViews.{no_link}
use Rattle.board_rule.proofs.buffers.PortLemmas.{id_from}
use Rattle.pw_graph.specs.Pools.{link_ids_from, pool_of, pools_of, sources_of}

-- what passes a test, counted by the places at which it stands
module _ {X : Type 0} (test p : X → Bool) (d : X) where
  abbrev places : ℕ → List X → List ℕ
  places n xs = map (λ e. e.0) (filter (λ e. test e.1) (enumerate_from n xs))

  counted_from : (ys : List X) (n : ℕ) (xs : List X) → ((i : ℕ) → i < length xs → get_or ys (n + i) d ≡ get_or xs i d)
      → count_by (λ i. p (get_or ys i d)) (places n xs) ≡ count_by p (filter test xs)
  counted_from ys n [] same = refl
  counted_from ys n (x ∷ xs) same = by (test x) (counted_from ys (n + 1) xs
      (λ i h. let e : (n + 1) + i ≡ n + suc i = omega arith in ap (λ j. get_or ys j d) e ∙ same (suc i) (omega arith)))
    where
      here : p (get_or ys n d) ≡ p x
      here = let e : n ≡ n + 0 = omega arith in ap (λ j. p (get_or ys j d)) e ∙ ap p (same 0 (omega arith))

      by : (b : Bool) → count_by (λ i. p (get_or ys i d)) (places (n + 1) xs) ≡ count_by p (filter test xs)
          → count_by (λ i. p (get_or ys i d)) (map (λ e. e.0) (cond b ((n, x) ∷ filter (λ e. test e.1) (enumerate_from (n + 1) xs))
          (filter (λ e. test e.1) (enumerate_from (n + 1) xs))))
          ≡ count_by p (cond b (x ∷ filter test xs) (filter test xs))
      by true r = let u = sum_by-cons (λ i. cond (p (get_or ys i d)) 1 0) n (places (n + 1) xs) in
          let v = sum_by-cons (λ y. cond (p y) 1 0) x (filter test xs) in
          let w : cond {A = ℕ} (p (get_or ys n d)) 1 0 ≡ cond {A = ℕ} (p x) 1 0 = ap (λ b. cond {A = ℕ} b 1 0) here in omega arith
      by false r = r

  pub counted_places : (xs : List X) → count_by (λ i. p (get_or xs i d)) (places 0 xs) ≡ count_by p (filter test xs)
  counted_places xs = counted_from xs 0 xs (λ i h. let e : 0 + i ≡ i = omega arith in ap (λ j. get_or xs j d) e)

-- each pool of a shape has the links from its port
pub pool_ids : (shape : Shape) → All (λ (x : PoolShape). x.links ≡ link_ids_from shape.links x.port) (pools_of shape)
pool_ids shape = All-map (λ (x : PoolShape). x.links ≡ link_ids_from shape.links x.port) (pool_of shape) (sources_of shape) (λ k d h. refl)

-- and the number of each of these is that of a link
pub id_inside : (shape : Shape) (x : PoolShape) → x.links ≡ link_ids_from shape.links x.port → (i : ℕ) (ids : List ℕ) → ids ≡ x.links
    → i < length ids → get_or ids i 0 < length shape.links
id_inside shape x has i ids is low = (id_from shape.links x.port (get_or ids i 0) no_link
    (subst (λ xs. Contains xs (get_or ids i 0)) (is ∙ has) (All-contains_itself ids i 0 low))).0
