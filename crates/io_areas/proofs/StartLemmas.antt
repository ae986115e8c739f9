-- The blocks of a pool at the start, as the seat of a loop has them, and the list of the free ones.
use Rattle.std.proofs.Common.{◌≡◌, ◌≢◌, ℕ, zero, suc, ◌+◌, ◌-◌, ◌<◌, ◌≤◌, inl, inr, ⊎_elim, ◌&&◌, ◌||◌, Bool, true, false, true≢false}
use Rattle.std.proofs.Common.{cond, eqb, eq-eqb, ne_eqb, List, [], ◌∷◌, ◌++◌, All, AllPairs, Contains, length, get_or, take, drop, replicate}
use Rattle.std.proofs.Common.{refl, sym, ap, ◌∙◌, arith, length-append}
use Rattle.std.specs.Prelude.{sum_by, max}
use Rattle.std.specs.List.{flat_map, list_any, filter, fold}
use Rattle.std.proofs.lemmas.Bool.{cases_lt}
use Rattle.std.proofs.lemmas.List.{get_or-replicate, get_or-drop, get_or_append_left, get_or_push, get_or-map, length-replicate, length-drop, length-map, length_push}
use Rattle.std.proofs.lemmas.List.Concat.{flat_map-cons, get_or-flat_map}
use Rattle.std.proofs.lemmas.List.Folds.{length-flat_map-take}
use Rattle.std.proofs.lemmas.List.Sums.{sum_by-cons}
use Rattle.std.proofs.lemmas.List.Elements.{All-head, All-tail}
use Rattle.pw_graph.specs.declared.ids.PortId.{PortId}
use Rattle.pw_graph.specs.declared.shape.Shape.{Shape}
use Rattle.pw_graph.specs.declared.shape.ShapeLink.{ShapeLink}
use Rattle.pw_graph.specs.declared.pools.PoolShape.{PoolShape}
use Rattle.pw_graph.specs.Pools.{asked, links_from, sources_of, pool_of, pools_of}
use Rattle.board_rule.specs.declared.view.BlockView.{BlockView}
use Rattle.board_rule.specs.declared.view.BlockView.TheVariants.{Free, Out}
use Rattle.board_rule.specs.declared.view.View.{View}
use Rattle.board_rule.specs.Layout.{BoardLayout, first}
use Rattle.board_rule.specs.View.{Samples, is_delayed, first_block, blocks_at_first, loop_view}
use Rattle.board_rule.specs.buffers.BlockReadings.{busy_cycles}
use Rattle.board_rule.specs.buffers.Spans.{block_at}
use Rattle.board_rule.specs.buffers.ReclaimSteps.{reclaimed_of, IsUnreclaimed}
use Rattle.board_rule.specs.buffers.EndViews.{no_pool, pool_at, block_of}
use Rattle.io_areas.specs.Queue.{numbers_below}
use Rattle.io_areas.specs.FreeBlocks.{FreeBlocks, free_at_start, recent_count}

-- a test of what a filter leaves
pub any_filter : {X : Type 0} (p t : X → Bool) (xs : List X) → list_any p (filter t xs) ≡ list_any (λ x. t x && p x) xs
any_filter p t [] = refl
any_filter p t (x ∷ xs) = by (t x) (any_filter p t xs)
  where
    by : (c : Bool) → list_any p (filter t xs) ≡ list_any (λ y. t y && p y) xs
        → list_any p (cond c (x ∷ filter t xs) (filter t xs)) ≡ ((c && p x) || list_any (λ y. t y && p y) xs)
    by true rest = ap (λ b. p x || b) rest
    by false rest = rest

-- a delayed link asks for two blocks
asked_two : (b : Bool) (n : ℕ) → b ≡ true → 2 ≤ cond b (max 2 n) n
asked_two true n e = omega arith
asked_two false n e = absurd (true≢false (sym e))

most_grows : (a : ℕ) (ls : List ShapeLink) → a ≤ fold (λ top l. max top (asked l)) a ls
most_grows a [] = omega arith
most_grows a (l ∷ ls) = let more : max a (asked l) ≤ fold (λ top k. max top (asked k)) (max a (asked l)) ls = most_grows (max a (asked l)) ls in
    omega arith

late_asks : (a : ℕ) (ls : List ShapeLink) → list_any (λ k. k.delayed) ls ≡ true → 2 ≤ fold (λ top l. max top (asked l)) a ls
late_asks a [] e = absurd (true≢false (sym e))
late_asks a (l ∷ ls) e = by l.delayed refl (late_asks (max a (asked l)) ls)
  where
    by : (b : Bool) → l.delayed ≡ b
        → (list_any (λ (k : ShapeLink). k.delayed) ls ≡ true → 2 ≤ fold (λ top k. max top (asked k)) (max a (asked l)) ls)
        → 2 ≤ fold (λ top k. max top (asked k)) (max a (asked l)) ls
    by true d rest = let two : 2 ≤ asked l = asked_two l.delayed l.buffers d in
        let more : max a (asked l) ≤ fold (λ top k. max top (asked k)) (max a (asked l)) ls = most_grows (max a (asked l)) ls in omega arith
    by false d rest = rest (ap (λ b. b || list_any (λ (k : ShapeLink). k.delayed) ls) (sym d) ∙ e)

-- the numbers of a pool
pub length-numbers_below : (n : ℕ) → length (numbers_below n) ≡ n
length-numbers_below zero = refl
length-numbers_below (suc n) = let h = length-numbers_below n in let l = length_push (numbers_below n) n in omega arith

number_at : (n i d : ℕ) → i < n → get_or (numbers_below n) i d ≡ i
number_at zero i d h = absurd (omega arith)
number_at (suc n) i d h = let long = length-numbers_below n in ⊎_elim
    (λ lt. get_or_append_left (numbers_below n) (n ∷ []) d i (omega arith) ∙ number_at n i d lt)
    (λ le. get_or_push (numbers_below n) n d i (omega arith) ∙ (let e : n ≡ i = omega arith in e)) (cases_lt i n)

dropped_at : (k n i d : ℕ) → i < n - k → get_or (drop k (numbers_below n)) i d ≡ k + i
dropped_at k n i d h = get_or-drop k (numbers_below n) i d ∙ number_at n (k + i) d (omega arith)

length-dropped : (k n : ℕ) → length (drop k (numbers_below n)) ≡ n - k
length-dropped k n = length-drop k (numbers_below n) ∙ ap (λ m. m - k) (length-numbers_below n)

dropped_has : (k n b : ℕ) → Contains (drop k (numbers_below n)) b → (k ≤ b) × (b < n)
dropped_has k n b c = let i : ℕ = c.0 in let low = c.1 in let long = length-dropped k n in
    let is : k + i ≡ b = sym (dropped_at k n i b (omega arith)) ∙ c.2 in (omega arith, omega arith)

dropped_differ : (k n : ℕ) → AllPairs (λ a b. a ≢ b) (drop k (numbers_below n))
dropped_differ k n i j d less low e = let long = length-dropped k n in
    let a = dropped_at k n i d (omega arith) in let b = dropped_at k n j d (omega arith) in omega arith

-- the blocks of one pool among those of all
module _ (shape : Shape) where
  length-first : (x : PoolShape) → 1 ≤ x.blocks → length (blocks_at_first shape x) ≡ x.blocks
  length-first x some = by (is_delayed shape x)
    where
      by : (c : Bool) → length (cond c (Out shape.first ∷ replicate (x.blocks - 1) Free) (replicate x.blocks Free)) ≡ x.blocks
      by true = let l = length-replicate (x.blocks - 1) (let z : BlockView = Free in z) in omega arith
      by false = length-replicate x.blocks Free

  first_at : (x : PoolShape) (b : ℕ) → b < x.blocks → get_or (blocks_at_first shape x) b Free ≡ first_block shape x b
  first_at x b low = by (is_delayed shape x) b low
    where
      by : (c : Bool) (b : ℕ) → b < x.blocks → get_or (cond c (Out shape.first ∷ replicate (x.blocks - 1) Free) (replicate x.blocks Free)) b Free
          ≡ (let z : BlockView = cond (c && eqb b 0) (Out shape.first) Free in z)
      by true zero h = refl
      by true (suc b) h = get_or-replicate (x.blocks - 1) b Free Free (omega arith)
          ∙ ap (λ d. let z : BlockView = cond d (Out shape.first) Free in z) (sym (ne_eqb (suc b) 0 (λ z. omega arith)))
      by false b h = get_or-replicate x.blocks b Free Free h

  before : (pools : List PoolShape) (q : ℕ) → All (λ x. 1 ≤ x.blocks) pools
      → length (flat_map (blocks_at_first shape) (take q pools)) ≡ sum_by (λ x. x.blocks) (take q pools)
  before pools zero have = refl
  before [] (suc q) have = refl
  before (x ∷ xs) (suc q) have = let f : PoolShape → List BlockView = blocks_at_first shape in
      let a = length-first x (All-head (λ y. 1 ≤ y.blocks) x xs have) in
      let b = before xs q (All-tail (λ y. 1 ≤ y.blocks) x xs have) in
      let s = sum_by-cons (λ (y : PoolShape). y.blocks) x (take q xs) in
      let c : length (flat_map f (x ∷ take q xs)) ≡ length (f x ++ flat_map f (take q xs)) = ap (λ (l : List BlockView). length l)
      (flat_map-cons f x (take q xs)) in
      let d = length-append (f x) (flat_map f (take q xs)) in omega arith

module _ (p : BoardLayout) (have : All (λ x. 1 ≤ x.blocks) (pools_of p.shape)) (e : Samples) (k q : ℕ) (low : q < length (pools_of p.shape)) where
  abbrev v : View
  v = loop_view p e k

  abbrev x : PoolShape
  x = pool_at p q

  is_first : (b : ℕ) → b < x.blocks → block_of p v q b ≡ first_block p.shape x b
  is_first b h = let f : PoolShape → List BlockView = blocks_at_first p.shape in
      let long = length-first p.shape x (have q no_pool low) in
      ap (λ n. get_or v.blocks (n + b) Free) (sym (before p.shape (pools_of p.shape) q have))
      ∙ get_or-flat_map f (pools_of p.shape) q b no_pool Free low (omega arith) ∙ first_at p.shape x b h

  -- the seat has room for the blocks of the pool
  pub room_there : block_at p q x.blocks ≤ length v.blocks
  room_there = let f : PoolShape → List BlockView = blocks_at_first p.shape in
      let whole = length-flat_map-take f (pools_of p.shape) q no_pool low in
      let front = before p.shape (pools_of p.shape) q have in let own = length-first p.shape x (have q no_pool low) in omega arith

  -- the pool has as many blocks as may be out at once
  enough : busy_cycles p x ≤ x.blocks
  enough = by (is_delayed p.shape x) refl
    where
      port : PortId
      port = get_or (sources_of p.shape) q no_pool.port

      is : x ≡ pool_of p.shape port
      is = let long = length-map (sources_of p.shape) (pool_of p.shape) in
          get_or-map (pool_of p.shape) (sources_of p.shape) q no_pool.port no_pool (omega arith)

      by : (c : Bool) → is_delayed p.shape x ≡ c → cond {A = ℕ} c 2 1 ≤ x.blocks
      by true late = let two = late_asks 0 (links_from p.shape port)
          (ap (λ (y : PoolShape). list_any (λ (l : ShapeLink). l.delayed) (links_from p.shape y.port)) (sym is) ∙ late) in
          let same : x.blocks ≡ fold (λ top l. max top (asked l)) 0 (links_from p.shape port) = ap (λ (y : PoolShape). y.blocks) is in omega arith
      by false late = have q no_pool low

  begins_unreclaimed : IsUnreclaimed p v q (first p)
  begins_unreclaimed h = let same : reclaimed_of v q ≡ first p + 1 = get_or-replicate (length (pools_of p.shape)) q (first p + 1) 0 low in
      absurd (omega arith)

  pub begins_free : FreeBlocks p v q (first p) (free_at_start p.shape x)
  begins_free = by (is_delayed p.shape x) refl
    where
      Begins : Bool → Type 0
      Begins c = FreeBlocks p v q (first p) (record { free = drop (cond c 1 0) (numbers_below x.blocks); blocks = x.blocks })

      by : (c : Bool) → is_delayed p.shape x ≡ c → Begins c
      by true late = let two : busy_cycles p x ≡ 2 = ap (λ b. cond {A = ℕ} b 2 1) late in let fits = enough in
          let zero_out : block_of p v q 0 ≡ Out (first p) = is_first 0 (omega arith)
          ∙ ap (λ b. let z : BlockView = cond (b && true) (Out (first p)) Free in z) late in
          let others : (b : ℕ) → b < x.blocks → b ≢ 0 → block_of p v q b ≡ Free = (λ b h o. is_first b h
          ∙ ap (λ (c : Bool × Bool). let z : BlockView = cond (c.0 && c.1) (Out (first p)) Free in z) (λ i. (late i, ne_eqb b 0 o i))) in
          let only : (b n : ℕ) → b < x.blocks → block_of p v q b ≡ Out n → b ≡ 0 = (λ b n h is. ⊎_elim (λ (z : b < 1). (let y : b ≡ 0 = omega arith in y))
          (λ (z : 1 ≤ b). absurd (let w : Free ≡ Out n = sym (others b h (λ i. omega arith)) ∙ is in absurd (cc))) (cases_lt b 1)) in record {
            size = refl;
            enough = fits;
            listed = λ b c. let l = dropped_has 1 x.blocks b c in let l₀ = l.0 in (l.1, others b l.1 (λ i. omega arith));
            once = dropped_differ 1 x.blocks;
            long = (let l = length-dropped 1 x.blocks in let g : recent_count p q (first p) ≡ busy_cycles p x - 1 =
                ap (λ t. cond t (busy_cycles p x - 1) (busy_cycles p x)) (eq-eqb (first p) (first p) refl) in omega arith);
            out = λ n r. let r₀ = r.0 in let r₁ = r.1 in let r₂ = r.2 in let is : n ≡ first p = omega arith in
                (0, omega arith, zero_out ∙ ap (λ m. Out m) (sym is));
            one = λ a b n ha hb ea eb. only a n ha ea ∙ sym (only b n hb eb);
            else = λ b h. ⊎_elim
                (λ (z : b < 1). let o : b ≡ 0 = omega arith in
                inr (first p, (omega arith, omega arith, omega arith), ap (block_of p v q) o ∙ zero_out))
                (λ (z : 1 ≤ b). inl (others b h (λ i. omega arith))) (cases_lt b 1);
            zero = λ _. zero_out;
            unreclaimed = begins_unreclaimed;
          }
      by false late = let one : busy_cycles p x ≡ 1 = ap (λ b. cond {A = ℕ} b 2 1) late in let fits = enough in
          let free : (b : ℕ) → b < x.blocks → block_of p v q b ≡ Free = (λ b h. is_first b h
          ∙ ap (λ c. let z : BlockView = cond (c && eqb b 0) (Out (first p)) Free in z) late) in record {
            size = refl;
            enough = fits;
            listed = λ b c. let l = dropped_has 0 x.blocks b c in (l.1, free b l.1);
            once = dropped_differ 0 x.blocks;
            long = (let l = length-dropped 0 x.blocks in let g : recent_count p q (first p) ≡ busy_cycles p x - 1 =
                ap (λ t. cond t (busy_cycles p x - 1) (busy_cycles p x)) (eq-eqb (first p) (first p) refl) in omega arith);
            out = λ n r. let r₀ = r.0 in let r₂ = r.2 in absurd (omega arith);
            one = λ a b n ha hb ea eb. absurd (let w : Free ≡ Out n = sym (free a ha) ∙ ea in absurd (cc));
            else = λ b h. inl (free b h);
            zero = λ r. let r₂ = r.2 in absurd (omega arith);
            unreclaimed = begins_unreclaimed;
          }
