-- How many readers of a pool have not yet lowered a block.
use Rattle.std.proofs.Common.{◌≡◌, ◌≢◌, ℕ, zero, suc, ◌+◌, ◌<◌, ◌≤◌, cond, ltb, List, [], ◌∷◌, length, get_or, refl, sym, ap}
use Rattle.std.proofs.Common.{◌∙◌, arith, lt-ltb, le-ltb}
use Rattle.std.specs.Prelude.{All, Contains, sum_by}
use Rattle.std.proofs.lemmas.List.Elements.{All-head, All-tail, All-contains_itself}
use Rattle.std.proofs.lemmas.List.Sums.{sum_by-cons}
use Rattle.board_rule.specs.declared.view.ReadView.{ReadView}
use Rattle.board_rule.specs.declared.view.BlockView.{BlockView}
use Rattle.board_rule.specs.declared.view.BlockView.TheVariants.{Free, Filling, Out}
use Rattle.board_rule.specs.Layout.{BoardLayout}
use Rattle.board_rule.proofs.buffers.PortLemmas.{Differ}
use Rattle.pw_graph.specs.declared.pools.PoolShape.{PoolShape}
use Rattle.board_rule.specs.buffers.BlockReadings.{delay_at, waiting, readers_of}
use mathlib.Core.Logic.{dite}
use native.Mathlib.Decide.{dec_le}

-- sums of terms that are the same
sum_same : (f g : ℕ → ℕ) (xs : List ℕ) → All (λ x. g x ≡ f x) xs → sum_by g xs ≡ sum_by f xs
sum_same f g [] same = refl
sum_same f g (x ∷ xs) same = let a : g x ≡ f x = All-head (λ y. g y ≡ f y) x xs same in
    let b = sum_same f g xs (All-tail (λ y. g y ≡ f y) x xs same) in let c = sum_by-cons f x xs in let d = sum_by-cons g x xs in omega arith

sum_ones : (f : ℕ → ℕ) (xs : List ℕ) → All (λ x. f x ≡ 1) xs → sum_by f xs ≡ length xs
sum_ones f [] same = refl
sum_ones f (x ∷ xs) same = let a : f x ≡ 1 = All-head (λ y. f y ≡ 1) x xs same in
    let b = sum_ones f xs (All-tail (λ y. f y ≡ 1) x xs same) in let c = sum_by-cons f x xs in omega arith

sum_zeros : (f : ℕ → ℕ) (xs : List ℕ) → All (λ x. f x ≡ 0) xs → sum_by f xs ≡ 0
sum_zeros f [] same = refl
sum_zeros f (x ∷ xs) same = let a : f x ≡ 0 = All-head (λ y. f y ≡ 0) x xs same in
    let b = sum_zeros f xs (All-tail (λ y. f y ≡ 0) x xs same) in let c = sum_by-cons f x xs in omega arith

-- one term changes
sum_change : (f g : ℕ → ℕ) (xs : List ℕ) (l i : ℕ) → Differ xs → i < length xs → get_or xs i l ≡ l → ((j : ℕ) → j ≢ l → g j ≡ f j)
    → sum_by g xs + f l ≡ sum_by f xs + g l
sum_change f g [] l i d h e same = absurd (omega arith)
sum_change f g (x ∷ xs) l zero d h e same = let rest = sum_same f g xs (λ k n lt. same (get_or xs k n) (λ z. d.0 k n lt (e ∙ sym z))) in
    let a : f x ≡ f l = ap f e in let b : g x ≡ g l = ap g e in let c = sum_by-cons f x xs in let k = sum_by-cons g x xs in omega arith
sum_change f g (x ∷ xs) l (suc i) d h e same = let rest = sum_change f g xs l i d.1 (omega arith) e same in
    let a : g x ≡ f x = same x (λ z. d.0 i l (omega arith) (z ∙ sym e)) in let c = sum_by-cons f x xs in let k = sum_by-cons g x xs in
    omega arith

sum_has : (f : ℕ → ℕ) (xs : List ℕ) (l i : ℕ) → i < length xs → get_or xs i l ≡ l → f l ≤ sum_by f xs
sum_has f [] l i h e = absurd (omega arith)
sum_has f (x ∷ xs) l zero h e = let a : f x ≡ f l = ap f e in let c = sum_by-cons f x xs in omega arith
sum_has f (x ∷ xs) l (suc i) h e = let a = sum_has f xs l i (omega arith) e in let c = sum_by-cons f x xs in omega arith

-- 1 where the reader of a link that is so late has not yet lowered the block of the stamp n
abbrev pub waits : ℕ → ReadView → ℕ → ℕ
waits late r n = cond (ltb r.lowered (n + late)) 1 0

pub waits_one : (late : ℕ) (r : ReadView) (n : ℕ) → r.lowered < n + late → waits late r n ≡ 1
waits_one late r n h = ap (λ b. cond b 1 0) (lt-ltb r.lowered (n + late) h)

pub waits_none : (late : ℕ) (r : ReadView) (n : ℕ) → n + late ≤ r.lowered → waits late r n ≡ 0
waits_none late r n h = ap (λ b. cond b 1 0) (le-ltb r.lowered (n + late) h)

-- whether a reader waits for a stamp depends on no more than its last decrement
pub waits_same : (late n : ℕ) (r y : ReadView) → (y.lowered < n + late → r.lowered < n + late) → (r.lowered < n + late → y.lowered < n + late)
    → waits late y n ≡ waits late r n
waits_same late n r y f g = dite (dec_le (n + late) r.lowered)
    (λ h. waits_none late y n (dite (dec_le (n + late) y.lowered) (λ z. z) (λ z. absurd (let a = f (omega arith) in omega arith)))
    ∙ sym (waits_none late r n h))
    (λ h. waits_one late y n (g (omega arith)) ∙ sym (waits_one late r n (omega arith)))

module _ (p : BoardLayout) (x : PoolShape) where
  pub waiting_same : (f g : ℕ → ReadView) (n : ℕ) → ((l : ℕ) → Contains x.links l → waits (delay_at p l) (g l) n ≡ waits (delay_at p l) (f l) n)
      → waiting p g x n ≡ waiting p f x n
  waiting_same f g n same = sum_same (λ l. waits (delay_at p l) (f l) n) (λ l. waits (delay_at p l) (g l) n) x.links
      (λ k d lt. same (get_or x.links k d) (All-contains_itself x.links k d lt))

  pub readers_same : (f g : ℕ → ReadView) (y : BlockView)
      → ((l n : ℕ) → Contains x.links l → y ≡ Out n → waits (delay_at p l) (g l) n ≡ waits (delay_at p l) (f l) n)
      → readers_of p g x y ≡ readers_of p f x y
  readers_same f g Free same = refl
  readers_same f g (Filling i) same = refl
  readers_same f g (Out n) same = waiting_same f g n (λ l c. same l n c refl)

  pub none_waiting : (f : ℕ → ReadView) (n : ℕ) → ((l : ℕ) → Contains x.links l → n + delay_at p l ≤ (f l).lowered) → waiting p f x n ≡ 0
  none_waiting f n none = sum_zeros (λ l. waits (delay_at p l) (f l) n) x.links
      (λ k d lt. waits_none (delay_at p (get_or x.links k d)) (f (get_or x.links k d)) n
      (none (get_or x.links k d) (All-contains_itself x.links k d lt)))

  pub all_waiting : (f : ℕ → ReadView) (n : ℕ) → ((l : ℕ) → Contains x.links l → (f l).lowered < n + delay_at p l)
      → waiting p f x n ≡ length x.links
  all_waiting f n all = sum_ones (λ l. waits (delay_at p l) (f l) n) x.links
      (λ k d lt. waits_one (delay_at p (get_or x.links k d)) (f (get_or x.links k d)) n
      (all (get_or x.links k d) (All-contains_itself x.links k d lt)))

  -- a reader lowers the block
  pub waiting_change : (f g : ℕ → ReadView) (l n : ℕ) → Differ x.links → Contains x.links l → ((j : ℕ) → j ≢ l → g j ≡ f j)
      → waiting p g x n + waits (delay_at p l) (f l) n ≡ waiting p f x n + waits (delay_at p l) (g l) n
  waiting_change f g l n d c same = sum_change (λ j. waits (delay_at p j) (f j) n) (λ j. waits (delay_at p j) (g j) n) x.links l c.0 d c.1 c.2
      (λ j o. ap (λ r. waits (delay_at p j) r n) (same j o))

  pub waiting_has : (f : ℕ → ReadView) (l n : ℕ) → Contains x.links l → waits (delay_at p l) (f l) n ≤ waiting p f x n
  waiting_has f l n c = sum_has (λ j. waits (delay_at p j) (f j) n) x.links l c.0 c.1 c.2
