-- What the words of areas and pools hold at the start.
use Rattle.std.proofs.Common.{◌≡◌, ℕ, zero, suc, ◌+◌, ◌-◌, ◌*◌, ◌<◌, ◌≤◌, ◌&&◌, ◌||◌, Bool, true, false, true≢false, cond, eqb, ltb}
use Rattle.std.proofs.Common.{List, [], ◌∷◌, ◌++◌, map, filter, take, length, get_or, replicate, refl, sym, ap, ◌∙◌, subst, arith}
use Rattle.std.proofs.Common.{length-append, ne_eqb, lt-ltb, le-ltb}
use Rattle.std.specs.Prelude.{All, Some, sum_by, count_by, slice_get, unwrap_or, option_map}
use Rattle.std.specs.List.{flat_map, list_any, enumerate_from}
use Rattle.std.proofs.lemmas.Option.{slice_get_within, get_or_from_slice_get, slice_get-get_or}
use Rattle.std.proofs.lemmas.List.{get_or-replicate, get_or-append-add, length-replicate}
use Rattle.std.proofs.lemmas.List.Elements.{All-head, All-tail}
use Rattle.std.proofs.lemmas.List.Concat.{get_or-flat_map, flat_map-cons}
use Rattle.std.proofs.lemmas.List.Folds.{length-flat_map-take}
use Rattle.std.proofs.lemmas.List.Sums.{sum_by-cons}
use Rattle.std.proofs.Math.ListN.{get_or-append}
use Rattle.std.proofs.Math.Nat.{mul-le-mul_right}
use Rattle.pw_graph.specs.declared.shape.Shape.{Shape}
use Rattle.pw_graph.specs.declared.shape.ShapeLink.{ShapeLink}
use Rattle.pw_graph.specs.declared.pools.PoolShape.{PoolShape}
use Rattle.pw_graph.specs.Pools.{is_same_port, links_from, pools_of, IsPooledShape}
use Rattle.pw_graph.specs.Words.{not_triggered_word}
use Rattle.pw_graph.specs.Layout.{node_count, area_count, event_count, io_start, pool_words, pool_start, start_words, io_place}
use Rattle.pw_graph.specs.Layout.{event_place, readers_place, sample_place, block_words}
use Rattle.pw_graph.proofs.LayoutLemmas.{pools_have_blocks}
use Rattle.board_rule.specs.declared.view.BlockView.{BlockView}
use Rattle.board_rule.specs.declared.view.BlockView.TheVariants.{Free, Out}
use Rattle.board_rule.specs.Layout.{BoardLayout, first}
use Rattle.board_rule.specs.buffers.Areas.{delay_by}
use Rattle.board_rule.specs.start.StartViews.{is_delayed, first_block, unread}
use Rattle.board_rule.specs.buffers.BlockReadings.{delay_at, waiting, readers_of}
use Rattle.board_rule.proofs.LayoutLemmas.{areas_start, two_or_one}
use Rattle.board_rule.proofs.buffers.WiredLemmas.{pool_source}

module _ {X : Type 0} (test : X → Bool) (g : ℕ → ℕ) (h : X → ℕ) where
  -- a sum over the indexes of the elements that pass, and over these elements
  ids_sum : (n : ℕ) (xs : List X) → ((i : ℕ) (d : X) → i < length xs → g (n + i) ≡ h (get_or xs i d))
      → sum_by g (map (λ e. e.0) (filter (λ e. test e.1) (enumerate_from n xs))) ≡ sum_by h (filter test xs)
  ids_sum n [] same = refl
  ids_sum n (x ∷ xs) same = by (test x) (ids_sum (n + 1) xs (λ i d l. let z : n + suc i ≡ n + 1 + i = omega arith in
      ap g (sym z) ∙ same (suc i) d (omega arith)))
    where
      by : (b : Bool) → sum_by g (map (λ e. e.0) (filter (λ e. test e.1) (enumerate_from (n + 1) xs))) ≡ sum_by h (filter test xs)
          → sum_by g (map (λ e. e.0) (cond b ((n, x) ∷ filter (λ e. test e.1) (enumerate_from (n + 1) xs))
          (filter (λ e. test e.1) (enumerate_from (n + 1) xs)))) ≡ sum_by h (cond b (x ∷ filter test xs) (filter test xs))
      by true r = let z : n + 0 ≡ n = omega arith in let here : g n ≡ h x = ap g (sym z) ∙ same 0 x (omega arith) in
          let a = sum_by-cons g n (map (λ e. e.0) (filter (λ e. test e.1) (enumerate_from (n + 1) xs))) in
          let b = sum_by-cons h x (filter test xs) in omega arith
      by false r = r

none_counted : {X : Type 0} (p : X → Bool) (xs : List X) → list_any p xs ≡ false → count_by p xs ≡ 0
none_counted p [] e = refl
none_counted p (x ∷ xs) e = by (p x) refl e (none_counted p xs)
  where
    by : (b : Bool) → p x ≡ b → (b || list_any p xs) ≡ false → (list_any p xs ≡ false → count_by p xs ≡ 0) → count_by p (x ∷ xs) ≡ 0
    by true t f more = absurd (true≢false f)
    by false t f more = let a = sum_by-cons (λ y. cond (p y) 1 0) x xs in let b : cond {A = ℕ} (p x) 1 0 ≡ 0 = ap (λ z. cond {A = ℕ} z 1 0) t in
        let r = more f in a ∙ (omega arith)

module _ (shape : Shape) where
  abbrev n : ℕ
  n = node_count shape

  abbrev pending : List ℕ
  pending = replicate n 0

  abbrev status : List ℕ
  status = replicate n (not_triggered_word shape.first)

  abbrev areas : List ℕ
  areas = flat_map (io_start shape.first) shape.links

  abbrev unused : List ℕ
  unused = replicate (shape.cycles + event_count shape) 0

  abbrev blocks : List ℕ
  blocks = flat_map (pool_start shape) (pools_of shape)

  area_long : (k : ShapeLink) → length (io_start shape.first k) ≡ 1 + delay_by k
  area_long k = two_or_one k.delayed _ _ _ _ _ _ ∙ by k.delayed
    where
      by : (b : Bool) → cond {A = ℕ} b 2 1 ≡ 1 + cond {A = ℕ} b 1 0
      by true = refl
      by false = refl

  pub io_at_start : (l a : ℕ) (k : ShapeLink) → slice_get shape.links l ≡ Some k → a ≤ delay_by k
      → get_or (start_words shape) (io_place shape l a) 0 ≡ get_or (io_start shape.first k) a 0
  io_at_start l a k at h = let lt = slice_get_within shape.links l k at in
      let here : get_or shape.links l k ≡ k = get_or_from_slice_get shape.links l k k at in
      let long : length (io_start shape.first (get_or shape.links l k)) ≡ 1 + delay_by k = ap (λ j. length (io_start shape.first j)) here
      ∙ area_long k in
      let before : length (flat_map (io_start shape.first) (take l shape.links)) ≡ area_count (take l shape.links) =
      areas_start shape.first (take l shape.links) in
      let fits = length-flat_map-take (io_start shape.first) shape.links l k lt in
      let p : length pending ≡ n = length-replicate n 0 in let s : length status ≡ n = length-replicate n (not_triggered_word shape.first) in
      let i : ℕ = length (flat_map (io_start shape.first) (take l shape.links)) + a in
      let e : io_place shape l a ≡ suc (length pending + (length status + i)) = omega arith in
      ap (λ j. get_or (start_words shape) j 0) e ∙ get_or-append-add pending (status ++ (areas ++ (unused ++ blocks))) (length status + i) 0
      ∙ get_or-append-add status (areas ++ (unused ++ blocks)) i 0
      ∙ get_or-append areas (unused ++ blocks) 0 i (omega arith)
      ∙ get_or-flat_map (io_start shape.first) shape.links l a k 0 lt (omega arith)
      ∙ ap (λ j. get_or (io_start shape.first j) a 0) here

  pool_long : (x : PoolShape) → 1 ≤ x.blocks → length (pool_start shape x) ≡ pool_words x
  pool_long x h = let row : List ℕ = replicate (pool_words x - 1) 0 in
      let r : length row ≡ pool_words x - 1 = length-replicate (pool_words x - 1) 0 in
      let m : pool_words x ≡ x.blocks + x.blocks * x.words = omega arith in
      let z : length (pool_start shape x) ≡ suc (length row) = refl in omega arith

  pools_long : (xs : List PoolShape) (q : ℕ) → All (λ x. 1 ≤ x.blocks) xs
      → length (flat_map (pool_start shape) (take q xs)) ≡ sum_by pool_words (take q xs)
  pools_long [] zero h = refl
  pools_long [] (suc q) h = refl
  pools_long (x ∷ xs) zero h = refl
  pools_long (x ∷ xs) (suc q) h = let r = pools_long xs q (All-tail (λ y. 1 ≤ y.blocks) x xs h) in
      let a = pool_long x (All-head (λ y. 1 ≤ y.blocks) x xs h) in let s = sum_by-cons pool_words x (take q xs) in
      ap (λ zs. length zs) (flat_map-cons (pool_start shape) x (take q xs)) ∙ length-append (pool_start shape x) (flat_map (pool_start shape) (take q xs))
      ∙ (omega arith)

  module _ (pooled : IsPooledShape shape) where
    pub some_blocks : (q : ℕ) (x : PoolShape) → slice_get (pools_of shape) q ≡ Some x → 0 < x.blocks
    some_blocks q x at = let z = pools_have_blocks shape pooled.sound.links.each q x (slice_get_within (pools_of shape) q x at) in
        let here = ap (λ (y : PoolShape). y.blocks) (get_or_from_slice_get (pools_of shape) q x x at) in omega arith

    -- the word j of a pool
    pool_at_start : (q j : ℕ) (x : PoolShape) → slice_get (pools_of shape) q ≡ Some x → j < pool_words x
        → get_or (start_words shape) (event_place shape (event_count shape) + sum_by pool_words (take q (pools_of shape)) + j) 0
        ≡ get_or (pool_start shape x) j 0
    pool_at_start q j x at low = let lt = slice_get_within (pools_of shape) q x at in
        let here : get_or (pools_of shape) q x ≡ x = get_or_from_slice_get (pools_of shape) q x x at in
        let long : length (pool_start shape (get_or (pools_of shape) q x)) ≡ pool_words x = ap (λ y. length (pool_start shape y)) here
        ∙ pool_long x (some_blocks q x at) in
        let before = pools_long (pools_of shape) q (pools_have_blocks shape pooled.sound.links.each) in
        let p : length pending ≡ n = length-replicate n 0 in let s : length status ≡ n = length-replicate n (not_triggered_word shape.first) in
        let a : length areas ≡ area_count shape.links = areas_start shape.first shape.links in
        let u : length unused ≡ shape.cycles + event_count shape = length-replicate (shape.cycles + event_count shape) 0 in
        let i : ℕ = length (flat_map (pool_start shape) (take q (pools_of shape))) + j in
        let e : event_place shape (event_count shape) + sum_by pool_words (take q (pools_of shape)) + j
        ≡ suc (length pending + (length status + (length areas + (length unused + i)))) = omega arith in
        ap (λ k. get_or (start_words shape) k 0) e
        ∙ get_or-append-add pending (status ++ (areas ++ (unused ++ blocks))) (length status + (length areas + (length unused + i))) 0
        ∙ get_or-append-add status (areas ++ (unused ++ blocks)) (length areas + (length unused + i)) 0
        ∙ get_or-append-add areas (unused ++ blocks) (length unused + i) 0 ∙ get_or-append-add unused blocks i 0
        ∙ get_or-flat_map (pool_start shape) (pools_of shape) q j x 0 lt (omega arith)
        ∙ ap (λ y. get_or (pool_start shape y) j 0) here

    later_word : (x : PoolShape) (j : ℕ) → 0 < j → j < pool_words x → get_or (pool_start shape x) j 0 ≡ 0
    later_word x zero h l = absurd (omega arith)
    later_word x (suc j) h l = get_or-replicate (pool_words x - 1) j 0 0 (omega arith)

    block_words_is : (q : ℕ) (x : PoolShape) → slice_get (pools_of shape) q ≡ Some x → block_words shape q ≡ x.words
    block_words_is q x at = ap (λ o. unwrap_or (option_map (λ (p : PoolShape). p.words) o) 0) at

    block_end : (b blocks words : ℕ) → b < blocks → b * (1 + words) + (1 + words) ≤ blocks * (1 + words)
    block_end b blocks words h = let m : suc b * (1 + words) ≤ blocks * (1 + words) =
        mul-le-mul_right (1 + words) (omega arith) in omega arith

    -- sample words begin as 0
    pub samples_start : (q b i : ℕ) (x : PoolShape) → slice_get (pools_of shape) q ≡ Some x → b < x.blocks → i < x.words
        → get_or (start_words shape) (sample_place shape q b i) 0 ≡ 0
    samples_start q b i x at h short = let j : ℕ = b * (1 + x.words) + 1 + i in let w = block_words_is q x at in
        let m : b * (1 + block_words shape q) ≡ b * (1 + x.words) = ap (λ k. b * (1 + k)) w in
        let last = block_end b x.blocks x.words h in
        let e : sample_place shape q b i ≡ event_place shape (event_count shape) + sum_by pool_words (take q (pools_of shape)) + j =
        omega arith in
        ap (λ k. get_or (start_words shape) k 0) e ∙ pool_at_start q j x at (omega arith) ∙ later_word x j (omega arith) (omega arith)

    -- and so do readers words, but that of block 0: the number of the pool's delayed links
    pub readers_start : (q b : ℕ) (x : PoolShape) → slice_get (pools_of shape) q ≡ Some x → b < x.blocks
        → get_or (start_words shape) (readers_place shape q b) 0 ≡ cond {A = ℕ} (eqb b 0) (count_by (λ l. l.delayed) (links_from shape x.port)) 0
    readers_start q b x at h = let w = block_words_is q x at in let last = block_end b x.blocks x.words h in
        let m : b * (1 + block_words shape q) ≡ b * (1 + x.words) = ap (λ k. b * (1 + k)) w in
        let e : readers_place shape q b ≡ event_place shape (event_count shape) + sum_by pool_words (take q (pools_of shape)) + b * (1 + x.words) =
        omega arith in
        ap (λ k. get_or (start_words shape) k 0) e ∙ pool_at_start q (b * (1 + x.words)) x at (omega arith) ∙ by b (omega arith)
      where
        by : (b : ℕ) → b * (1 + x.words) < pool_words x → get_or (pool_start shape x) (b * (1 + x.words)) 0
            ≡ cond {A = ℕ} (eqb b 0) (count_by (λ l. l.delayed) (links_from shape x.port)) 0
        by zero l = let z : 0 * (1 + x.words) ≡ 0 = omega arith in ap (λ k. get_or (pool_start shape x) k 0) z
        by (suc b) l = let m : suc b * (1 + x.words) ≡ (1 + x.words) + b * (1 + x.words) = omega arith in
            later_word x (suc b * (1 + x.words)) (omega arith) l
            ∙ sym (ap (λ c. cond {A = ℕ} c (count_by (λ l. l.delayed) (links_from shape x.port)) 0) (ne_eqb (suc b) 0 (λ z. omega arith)))

-- that many readers wait for block 0
module _ (p : BoardLayout) where
  waits_late : (q : ℕ) (x : PoolShape) → slice_get (pools_of p.shape) q ≡ Some x
      → waiting p (λ _. unread (first p)) x (first p) ≡ count_by (λ l. l.delayed) (links_from p.shape x.port)
  waits_late q x at = let s = pool_source p.shape q x at in
      subst (λ (y : PoolShape). waiting p (λ _. unread (first p)) y (first p) ≡ count_by (λ l. l.delayed) (links_from p.shape y.port)) (sym s.2)
      (ids_sum (λ l. is_same_port l.from s.0) (λ l. cond (ltb (first p) (first p + delay_at p l)) 1 0) delay_by 0 p.shape.links
      (λ i d h. let z : 0 + i ≡ i = omega arith in
      ap (λ j. cond {A = ℕ} (ltb (first p) (first p + delay_at p j)) 1 0) z
      ∙ ap (λ k. cond {A = ℕ} (ltb (first p) (first p + k)) 1 0)
      (ap (λ o. unwrap_or (option_map delay_by o) 0) (slice_get-get_or p.shape.links i d h)) ∙ by (get_or p.shape.links i d).delayed))
    where
      by : (b : Bool) → cond {A = ℕ} (ltb (first p) (first p + cond {A = ℕ} b 1 0)) 1 0 ≡ cond {A = ℕ} b 1 0
      by true = ap (λ c. cond {A = ℕ} c 1 0) (lt-ltb (first p) (first p + 1) (omega arith))
      by false = ap (λ c. cond {A = ℕ} c 1 0) (le-ltb (first p) (first p + 0) (omega arith))

  pub readers_first : (q b : ℕ) (x : PoolShape) → slice_get (pools_of p.shape) q ≡ Some x
      → cond {A = ℕ} (eqb b 0) (count_by (λ l. l.delayed) (links_from p.shape x.port)) 0
      ≡ readers_of p (λ _. unread (first p)) x (first_block p.shape x b)
  readers_first q b x at = by (is_delayed p.shape x) (eqb b 0) refl (waits_late q x at)
    where
      count : ℕ
      count = count_by (λ l. l.delayed) (links_from p.shape x.port)

      by : (c d : Bool) → is_delayed p.shape x ≡ c → waiting p (λ _. unread (first p)) x (first p) ≡ count
          → cond {A = ℕ} d count 0 ≡ readers_of p (λ _. unread (first p)) x (let y : BlockView = cond (c && d) (Out (first p)) Free in y)
      by true true e w = sym w
      by true false e w = refl
      by false true e w = none_counted (λ (l : ShapeLink). l.delayed) (links_from p.shape x.port) e
      by false false e w = refl
