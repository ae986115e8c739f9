-- Where the words of the buffer rule are: apart from one another, and from those of the other two
-- rules.
use Rattle.std.proofs.Common.{◌≡◌, ◌≢◌, ℕ, zero, suc, ◌+◌, ◌-◌, ◌*◌, ◌<◌, ◌≤◌, Bool, true, false, cond, List, [], ◌∷◌, length, take}
use Rattle.std.proofs.Common.{get_or, ◌⊎◌, inl, inr, refl, sym, ap, ◌∙◌, subst, arith}
use Rattle.std.specs.Prelude.{Some, sum_by, slice_get, unwrap_or, option_map}
use mathlib.Core.Logic.{dite}
use native.Mathlib.Decide.{ℕ_discrete, dec_le}
use Rattle.std.proofs.Math.Nat.{mul-le-mul_right}
use Rattle.std.proofs.lemmas.Option.{get_or_from_slice_get, slice_get_within}
use Rattle.std.proofs.lemmas.List.Sums.{sum_by-cons, sum_by_more, sum_by_more_le, sum_by-take-le}
use Rattle.pw_graph.specs.declared.shape.Shape.{Shape}
use Rattle.pw_graph.specs.declared.shape.ShapeLink.{ShapeLink}
use Rattle.pw_graph.specs.declared.pools.PoolShape.{PoolShape}
use Rattle.pw_graph.specs.Pools.{pools_of}
use Rattle.pw_graph.specs.Layout.{node_count, areas_of, area_count, event_count, pool_words, io_place, late_place, event_place, block_words}
use Rattle.pw_graph.specs.Layout.{readers_place, word_count}
use Rattle.board_rule.specs.buffers.Areas.{delay_by}

takes_rise : {X : Type 0} (f : X → ℕ) (i n : ℕ) (xs : List X) → sum_by f (take i xs) ≤ sum_by f (take (i + n) xs)
takes_rise f zero n xs = omega arith
takes_rise f (suc i) n [] = omega arith
takes_rise f (suc i) n (x ∷ xs) = let e : suc (i + n) ≡ suc i + n = omega arith in let a = takes_rise f i n xs in
    let b = sum_by-cons f x (take i xs) in let c = sum_by-cons f x (take (i + n) xs) in
    let h : sum_by f (x ∷ take i xs) ≤ sum_by f (x ∷ take (i + n) xs) = omega arith in
    subst (λ k. sum_by f (take (suc i) (x ∷ xs)) ≤ sum_by f (take k (x ∷ xs))) e h

module _ (shape : Shape) where
  abbrev pools : List PoolShape
  pools = pools_of shape

  -- io areas: one a link, two a delayed one
  areas_late : (k : ShapeLink) → areas_of k ≡ 1 + delay_by k
  areas_late k = by k.delayed
    where
      by : (b : Bool) → cond {A = ℕ} b 2 1 ≡ 1 + cond {A = ℕ} b 1 0
      by true = refl
      by false = refl

  abbrev delay_in : ℕ → ShapeLink → ℕ
  delay_in l d = delay_by (get_or shape.links l d)

  pub io_in : (l a : ℕ) (d : ShapeLink) → l < length shape.links → a ≤ delay_in l d → (2 * node_count shape < io_place shape l a)
      × (io_place shape l a < late_place shape 0)
  io_in l a d lt h = let m = sum_by_more_le areas_of shape.links l d lt in let o = areas_late (get_or shape.links l d) in
      (omega arith, omega arith)

  io_before : (l m a b : ℕ) (d : ShapeLink) → l < length shape.links → l < m → a ≤ delay_in l d → io_place shape l a < io_place shape m b
  io_before l m a b d lt less h = let s = sum_by_more areas_of shape.links l d lt in let o = areas_late (get_or shape.links l d) in
      let e : (l + 1) + (m - (l + 1)) ≡ m = omega arith in
      let r : area_count (take (l + 1) shape.links) ≤ area_count (take m shape.links) =
      subst (λ k. area_count (take (l + 1) shape.links) ≤ area_count (take k shape.links)) e
      (takes_rise areas_of (l + 1) (m - (l + 1)) shape.links) in omega arith

  pub io_apart : (l m a b : ℕ) (d : ShapeLink) → l < length shape.links → m < length shape.links → a ≤ delay_in l d → b ≤ delay_in m d
      → l ≢ m → io_place shape l a ≢ io_place shape m b
  io_apart l m a b d hl hm ha hb o e = dite (dec_le l m) (λ le. let z = io_before l m a b d hl (omega arith) ha in omega arith)
      (λ gt. let z = io_before m l b a d hm (omega arith) hb in omega arith)

  -- the words of a pool
  block_words_is : (q : ℕ) (x : PoolShape) → slice_get pools q ≡ Some x → block_words shape q ≡ x.words
  block_words_is q x at = ap (λ o. unwrap_or (option_map (λ (p : PoolShape). p.words) o) 0) at

  abbrev base : ℕ → ℕ
  base q = event_place shape (event_count shape) + sum_by pool_words (take q pools)

  readers_is : (q b : ℕ) (x : PoolShape) → slice_get pools q ≡ Some x → readers_place shape q b ≡ base q + b * (1 + x.words)
  readers_is q b x at = ap (λ w. base q + b * (1 + w)) (block_words_is q x at)

  -- a block ends before the next one begins, and within its pool
  block_end : (b blocks words : ℕ) → b < blocks → b * (1 + words) + (1 + words) ≤ blocks * (1 + words)
  block_end b blocks words h = let m : suc b * (1 + words) ≤ blocks * (1 + words) = mul-le-mul_right (1 + words) (omega arith) in
      omega arith

  pool_end : (q : ℕ) (x : PoolShape) → slice_get pools q ≡ Some x
      → sum_by pool_words (take (q + 1) pools) ≡ sum_by pool_words (take q pools) + x.blocks * (1 + x.words)
  pool_end q x at = sum_by_more pool_words pools q x (slice_get_within pools q x at)
      ∙ ap (λ (y : PoolShape). sum_by pool_words (take q pools) + pool_words y) (get_or_from_slice_get pools q x x at)

  pub readers_in : (q b : ℕ) (x : PoolShape) → slice_get pools q ≡ Some x → b < x.blocks
      → (event_place shape (event_count shape) ≤ readers_place shape q b) × (readers_place shape q b + x.words < word_count shape)
  readers_in q b x at h = let r = readers_is q b x at in let e = block_end b x.blocks x.words h in let p = pool_end q x at in
      let l = sum_by-take-le pool_words pools (q + 1) in (omega arith, omega arith)

  sums_rise : (q r : ℕ) → q ≤ r → sum_by pool_words (take q pools) ≤ sum_by pool_words (take r pools)
  sums_rise q r h = let e : q + (r - q) ≡ r = omega arith in
      subst (λ k. sum_by pool_words (take q pools) ≤ sum_by pool_words (take k pools)) e (takes_rise pool_words q (r - q) pools)

  lower_pool : (q r b d : ℕ) (x y : PoolShape) → slice_get pools q ≡ Some x → slice_get pools r ≡ Some y → b < x.blocks → q < r
      → readers_place shape q b + x.words < readers_place shape r d
  lower_pool q r b d x y at to h lt = let a = readers_is q b x at in let c = readers_is r d y to in
      let e = block_end b x.blocks x.words h in let p = pool_end q x at in let s = sums_rise (q + 1) r (omega arith) in omega arith

  lower_block : (q b d : ℕ) (x : PoolShape) → slice_get pools q ≡ Some x → b < d
      → readers_place shape q b + x.words < readers_place shape q d
  lower_block q b d x at lt = let a = readers_is q b x at in let c = readers_is q d x at in
      let m : b * (1 + x.words) + (1 + x.words) ≤ d * (1 + x.words) = block_end b d x.words lt in omega arith

  -- the words of two blocks are apart
  pub blocks_apart : (q r b d : ℕ) (x y : PoolShape) → slice_get pools q ≡ Some x → slice_get pools r ≡ Some y → b < x.blocks → d < y.blocks
      → ((q ≡ r) × (b ≡ d) → ⊥)
      → (readers_place shape q b + x.words < readers_place shape r d) ⊎ (readers_place shape r d + y.words < readers_place shape q b)
  blocks_apart q r b d x y at to h g o = dite (ℕ_discrete q r)
      (λ e. dite (dec_le b d)
      (λ l. inl (subst (λ k. readers_place shape q b + x.words < readers_place shape k d) e
      (lower_block q b d x at (dite (ℕ_discrete b d) (λ f. absurd (o (e, f))) (λ f. omega arith)))))
      (λ l. inr (subst (λ k. readers_place shape r d + y.words < readers_place shape k b) (sym e) (lower_block r d b y to (omega arith)))))
      (λ e. dite (dec_le q r) (λ l. inl (lower_pool q r b d x y at to h (omega arith)))
      (λ l. inr (lower_pool r q d b y x to at g (omega arith))))
