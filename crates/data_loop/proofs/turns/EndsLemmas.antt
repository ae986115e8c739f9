-- The links and the pools of a node, by its index.
use Rattle.std.proofs.Common.{◌≡◌, ◌≢◌, ℕ, ◌+◌, ◌-◌, ◌<◌, ◌≤◌, ◌==◌, Bool, true, List, length, map, get_or, sym, ap}
use Rattle.std.proofs.Common.{◌∙◌, subst, arith}
use Rattle.std.proofs.Common.{eq-eqb, eqb-true}
use Rattle.std.specs.Prelude.{AllPairs, Contains, filter}
use Rattle.std.specs.List.{enumerate_from}
use Rattle.std.proofs.lemmas.List.Elements.{All-contains}
use Rattle.std.proofs.lemmas.Option.{slice_get_within}
use Rattle.pw_graph.specs.declared.ids.PortId.{PortId}
use Rattle.pw_graph.specs.declared.shape.ShapeLink.{ShapeLink}
use Rattle.pw_graph.specs.declared.pools.PoolShape.{PoolShape}
use Rattle.pw_graph.specs.Pools.{pools_of}
use Rattle.board_rule.specs.Layout.{BoardLayout, nodes}
use Rattle.board_rule.specs.buffers.EndViews.{no_link, no_pool, link_at, pool_at, writer_of, reader_of, filler_of, pool_of}
use Rattle.board_rule.proofs.buffers.PortLemmas.{Differ, differ_at, indexes_pass, has_index, differ_indexes}
use Rattle.board_rule.proofs.buffers.WiredLemmas.{Wired, wired, made}
use Rattle.board_rule.proofs.buffers.HolderLemmas.{link_is, link_there, pool_there, pool_here}
use Rattle.io_areas.specs.PooledBoard.{IsPooledBoard}
use Rattle.data_loop.specs.turns.Ends.{reads_of, fills_of}

pairs_differ : (xs : List ℕ) → Differ xs → AllPairs (λ x y. x ≢ y) xs
pairs_differ xs h i j d less low e = let same = differ_at xs d i j h (omega arith) low e in omega arith

module _ {X : Type 0} (node : X → ℕ) (n : ℕ) (xs : List X) where
  abbrev test : X → Bool
  test x = node x == n

  abbrev indexes : List ℕ
  indexes = map (λ e. e.0) (filter (λ e. test e.1) (enumerate_from 0 xs))

  abbrev Passes : ℕ → Type 0
  Passes i = (0 ≤ i) × (i - 0 < length xs) × ((d : X) → test (get_or xs (i - 0) d) ≡ true)

  -- an element is of the node exactly where its index is listed
  pub is_of : (l : ℕ) (d : X) → Contains indexes l → (l < length xs) × (node (get_or xs l d) ≡ n)
  is_of l d c = let h = All-contains Passes indexes l (indexes_pass test 0 xs) c in let e : l - 0 ≡ l = omega arith in let low = h.1 in
      (omega arith, eqb-true (node (get_or xs l d)) n (ap (λ i. test (get_or xs i d)) (sym e) ∙ h.2 d))

  pub has_it : (l : ℕ) (d : X) → l < length xs → node (get_or xs l d) ≡ n → Contains indexes l
  has_it l d low e = let z : 0 + l ≡ l = omega arith in
      subst (Contains indexes) z (has_index test 0 xs l d low (eq-eqb (node (get_or xs l d)) n e))

module _ (p : BoardLayout) (plain : IsPooledBoard p) where
  pub all_wired : Wired p
  all_wired = wired p plain.sound plain.pooled

  -- the pool of a link is filled by the link's writer
  pub of_pool : (l : ℕ) → l < length p.shape.links → (pool_of p l < length (pools_of p.shape)) × Contains (pool_at p (pool_of p l)).links l
      × (filler_of p (pool_of p l) ≡ writer_of p l)
  of_pool l low = let h = pool_here p all_wired l (link_at p l) (link_there p l low) in
      (slice_get_within (pools_of p.shape) (pool_of p l) (pool_at p (pool_of p l)) h.0, h.1, h.2)

  pub pool_writer : (q l : ℕ) → q < length (pools_of p.shape) → Contains (pool_at p q).links l → writer_of p l ≡ filler_of p q
  pool_writer q l low c = let h = all_wired.there q l (pool_at p q) (pool_there p q low) c in
      ap (λ (k : ShapeLink). p.index k.from.node) (link_is p l h.0 h.1)
      ∙ ap (λ (port : PortId). p.index port.node) h.2

  pub pool_link : (q l : ℕ) → q < length (pools_of p.shape) → Contains (pool_at p q).links l → l < length p.shape.links
  pool_link q l low c = let h = all_wired.there q l (pool_at p q) (pool_there p q low) c in slice_get_within p.shape.links l h.0 h.1

  module _ (n : ℕ) (inside : p.index n < nodes p) where
    -- nodes with one index are one
    pub same_node : (k : ℕ) → p.index k < nodes p → p.index k ≡ p.index n → k ≡ n
    same_node k low e = sym (plain.sound.known k low) ∙ ap p.number e ∙ plain.sound.known n inside

    pub read_by : (l : ℕ) → Contains (reads_of p.shape n) l → (l < length p.shape.links) × (reader_of p l ≡ p.index n)
    read_by l c = let h = is_of (λ (k : ShapeLink). k.to.node) n p.shape.links l no_link c in (h.0, ap p.index h.1)

    pub reads_it : (l : ℕ) → l < length p.shape.links → reader_of p l ≡ p.index n → Contains (reads_of p.shape n) l
    reads_it l low e = has_it (λ (k : ShapeLink). k.to.node) n p.shape.links l no_link low
        (same_node (link_at p l).to.node (all_wired.to_in l (link_at p l) (link_there p l low)) e)

    pub reads_once : AllPairs (λ k l. k ≢ l) (reads_of p.shape n)
    reads_once = pairs_differ (reads_of p.shape n) (differ_indexes (λ (k : ShapeLink). k.to.node == n) 0 p.shape.links)

    pub filled_by : (q : ℕ) → Contains (fills_of p.shape n) q → (q < length (pools_of p.shape)) × (filler_of p q ≡ p.index n)
    filled_by q c = let h = is_of (λ (x : PoolShape). x.port.node) n (pools_of p.shape) q no_pool c in (h.0, ap p.index h.1)

    -- the node of its pools
    pub of_node : (q : ℕ) → q < length (pools_of p.shape) → filler_of p q ≡ p.index n → (pool_at p q).port.node ≡ n
    of_node q low e = same_node (pool_at p q).port.node (made p all_wired q (pool_at p q) (pool_there p q low)).0 e

    pub fills_it : (q : ℕ) → q < length (pools_of p.shape) → filler_of p q ≡ p.index n → Contains (fills_of p.shape n) q
    fills_it q low e = has_it (λ (x : PoolShape). x.port.node) n (pools_of p.shape) q no_pool low (of_node q low e)

    pub fills_once : AllPairs (λ q r. q ≢ r) (fills_of p.shape n)
    fills_once = pairs_differ (fills_of p.shape n) (differ_indexes (λ (x : PoolShape). x.port.node == n) 0 (pools_of p.shape))
