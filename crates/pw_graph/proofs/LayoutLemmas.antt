-- Laws of `specs/Layout.antt`: the words at the start are as many as there are places.
use Rattle.std.proofs.Common.{◌≡◌, ℕ, zero, suc, ◌+◌, ◌-◌, ◌*◌, ◌%◌, ◌<◌, ◌≤◌, ◌==◌, max, Bool, true, false, cond, List}
use Rattle.std.proofs.Common.{[], ◌∷◌, ◌++◌, length, get_or, replicate, refl, ap, ◌∙◌, arith, length-append}
use Rattle.std.specs.Prelude.{fold, filter, All, Contains, sum_by}
use Rattle.std.specs.List.{flat_map}
use Rattle.std.proofs.Math.Nat.{le-mul_of_pos_right}
use Rattle.std.proofs.lemmas.Bool.Decides.{Decides-eqb}
use Rattle.std.proofs.lemmas.List.{length-replicate, get_or_default}
use Rattle.std.proofs.lemmas.List.Concat.{length-flat_map}
use Rattle.std.proofs.lemmas.List.Sums.{sum_by-cons}
use Rattle.std.proofs.lemmas.List.Elements.{All-head, All-tail, All-cons, All-filter, All-append, All-map}
use Rattle.pw_graph.specs.declared.ids.PortId.{PortId}
use Rattle.pw_graph.specs.declared.pools.PoolShape.{PoolShape}
use Rattle.pw_graph.specs.declared.shape.Shape.{Shape}
use Rattle.pw_graph.specs.declared.shape.ShapeLink.{ShapeLink}
use Rattle.pw_graph.specs.SoundShape.{IsSoundLink}
use Rattle.pw_graph.specs.Pools.{is_same_port, is_before, with_port, sources_of, links_from, asked, blocks_of, pool_of, pools_of, IsPooledShape}
use Rattle.pw_graph.specs.Words.{not_triggered_word}
use Rattle.pw_graph.specs.Layout.{node_count, areas_of, area_count, event_count, pool_words, io_start, pool_start, start_words, word_count}
use Rattle.pw_graph.proofs.PrecedenceLemmas.{holds_at}

sum_by_same : {X : Type 0} (f g : X → ℕ) (xs : List X) → All (λ x. f x ≡ g x) xs → sum_by f xs ≡ sum_by g xs
sum_by_same f g [] same = refl
sum_by_same f g (x ∷ xs) same =
    let here : f x ≡ g x = All-head (λ y. f y ≡ g y) x xs same in
    let more : sum_by f xs ≡ sum_by g xs = sum_by_same f g xs (All-tail (λ y. f y ≡ g y) x xs same) in
    omega (arith, sum_by-cons f x xs, sum_by-cons g x xs)

-- the areas of a link
two_or_one : (delayed even : Bool) (a b c d e : ℕ) → length (cond delayed (cond even (a ∷ b ∷ []) (c ∷ d ∷ [])) (e ∷ [])) ≡ cond delayed 2 1
two_or_one true true a b c d e = refl
two_or_one true false a b c d e = refl
two_or_one false even a b c d e = refl

length-io_start : (first : ℕ) (link : ShapeLink) → length (io_start first link) ≡ areas_of link
length-io_start first link = two_or_one link.delayed (first % 2 == 0) _ _ _ _ _

-- the blocks of a pool of a pooled shape
fold_max_ge : {X : Type 0} (f : X → ℕ) (a : ℕ) (xs : List X) → a ≤ fold (λ top x. max top (f x)) a xs
fold_max_ge f a [] = omega arith
fold_max_ge f a (x ∷ xs) = let more : max a (f x) ≤ fold (λ top y. max top (f y)) (max a (f x)) xs = fold_max_ge f (max a (f x)) xs in
    omega arith

fold_max_has : {X : Type 0} (f : X → ℕ) (a : ℕ) (xs : List X) (k : ℕ) (d : X) → k < length xs
    → f (get_or xs k d) ≤ fold (λ top x. max top (f x)) a xs
fold_max_has f a [] k d lt = absurd (omega arith)
fold_max_has f a (x ∷ xs) zero d lt = let more : max a (f x) ≤ fold (λ top y. max top (f y)) (max a (f x)) xs =
    fold_max_ge f (max a (f x)) xs in omega arith
fold_max_has f a (x ∷ xs) (suc k) d lt = fold_max_has f (max a (f x)) xs k d (omega arith)

some_asked : (b : Bool) (n : ℕ) → 1 ≤ n → 1 ≤ cond b (max 2 n) n
some_asked true n h = omega arith
some_asked false n h = h

same_port : (p : PortId) → is_same_port p p ≡ true
same_port p = rw ((Decides-eqb p.node p.node).1 refl, (Decides-eqb p.port p.port).1 refl) refl

module _ (shape : Shape) (links : All (IsSoundLink shape) shape.links) where
  abbrev HasBlocks : PortId → Type 0
  HasBlocks port = 1 ≤ blocks_of shape port

  of_link : All (λ l. HasBlocks l.from) shape.links
  of_link k d lt =
      let l : ShapeLink = get_or shape.links k d in
      let at : Contains (links_from shape l.from) l =
      holds_at (λ m. is_same_port m.from l.from) shape.links l k (same_port l.from) lt (get_or_default shape.links k l d lt) in
      let most : asked (get_or (links_from shape l.from) at.0 l) ≤ blocks_of shape l.from =
      fold_max_has asked 0 (links_from shape l.from) at.0 l at.1 in
      let same : asked (get_or (links_from shape l.from) at.0 l) ≡ asked l = ap asked at.2 in
      let some : 1 ≤ asked l = some_asked l.delayed l.buffers (links k d lt).buffers.0 in
      omega arith

  ports_have : (ports : List PortId) (ls : List ShapeLink) → All HasBlocks ports → All (λ l. HasBlocks l.from) ls
      → All HasBlocks (fold (λ ps l. with_port ps l.from) ports ls)
  ports_have ports [] h each = h
  ports_have ports (l ∷ ls) h each =
      let here : HasBlocks l.from = All-head (λ m. HasBlocks m.from) l ls each in
      let before = All-filter (λ q. is_before q l.from) HasBlocks ports h in
      let after = All-cons HasBlocks l.from (filter (λ q. is_before l.from q) ports) here
      (All-filter (λ q. is_before l.from q) HasBlocks ports h) in
      ports_have (with_port ports l.from) ls
      (All-append HasBlocks (filter (λ q. is_before q l.from) ports) (l.from ∷ filter (λ q. is_before l.from q) ports) before after)
      (All-tail (λ m. HasBlocks m.from) l ls each)

  length-pool_start : (pool : PoolShape) → 1 ≤ pool.blocks → length (pool_start shape pool) ≡ pool_words pool
  length-pool_start pool some =
      let many : pool.blocks ≤ pool.blocks * (1 + pool.words) = le-mul_of_pos_right pool.blocks (omega arith) in
      let row : List ℕ = replicate (pool_words pool - 1) 0 in
      let rest : length row ≡ pool_words pool - 1 = length-replicate (pool_words pool - 1) 0 in
      let next : length (pool_start shape pool) ≡ suc (length row) = refl in
      omega arith

  -- each pool has at least one block
  pub pools_have_blocks : All (λ p. 1 ≤ p.blocks) (pools_of shape)
  pools_have_blocks = All-map (λ p. 1 ≤ p.blocks) (pool_of shape) (sources_of shape)
      (ports_have [] shape.links (λ k d lt. absurd (omega arith)) of_link)

  pub pools_start : length (flat_map (pool_start shape) (pools_of shape)) ≡ sum_by pool_words (pools_of shape)
  pools_start = length-flat_map (pool_start shape) (pools_of shape)
      ∙ sum_by_same (λ p. length (pool_start shape p)) pool_words (pools_of shape)
      (λ k d lt. length-pool_start (get_or (pools_of shape) k d) (pools_have_blocks k d lt))

areas_start : (first : ℕ) (links : List ShapeLink) → length (flat_map (io_start first) links) ≡ area_count links
areas_start first links = length-flat_map (io_start first) links
    ∙ sum_by_same (λ l. length (io_start first l)) areas_of links (λ k d lt. length-io_start first (get_or links k d))

-- there is a word for each place
pub length-start_words : (shape : Shape) → IsPooledShape shape → length (start_words shape) ≡ word_count shape
length-start_words shape h =
    let pending : List ℕ = replicate (node_count shape) 0 in
    let status : List ℕ = replicate (node_count shape) (not_triggered_word shape.first) in
    let areas : List ℕ = flat_map (io_start shape.first) shape.links in
    let events : List ℕ = replicate (shape.cycles + event_count shape) 0 in
    let pools : List ℕ = flat_map (pool_start shape) (pools_of shape) in
    let l1 : length (pending ++ (status ++ (areas ++ (events ++ pools))))
    ≡ length pending + length (status ++ (areas ++ (events ++ pools))) =
    length-append pending (status ++ (areas ++ (events ++ pools))) in
    let l2 : length (status ++ (areas ++ (events ++ pools))) ≡ length status + length (areas ++ (events ++ pools)) =
    length-append status (areas ++ (events ++ pools)) in
    let l3 : length (areas ++ (events ++ pools)) ≡ length areas + length (events ++ pools) = length-append areas (events ++ pools) in
    let l4 : length (events ++ pools) ≡ length events + length pools = length-append events pools in
    let n1 : length pending ≡ node_count shape = length-replicate (node_count shape) 0 in
    let n2 : length status ≡ node_count shape = length-replicate (node_count shape) (not_triggered_word shape.first) in
    let n3 : length areas ≡ area_count shape.links = areas_start shape.first shape.links in
    let n4 : length events ≡ shape.cycles + event_count shape = length-replicate (shape.cycles + event_count shape) 0 in
    let n5 : length pools ≡ sum_by pool_words (pools_of shape) = pools_start shape h.sound.links.each in
    omega arith
