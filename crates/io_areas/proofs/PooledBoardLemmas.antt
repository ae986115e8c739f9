-- The links of a pool.
use Rattle.std.proofs.Common.{◌≡◌, ◌≢◌, ℕ, ◌<◌, length, AllPairs, Contains, ap, ◌∙◌, arith}
use Rattle.std.proofs.lemmas.Option.{slice_get_within}
use Rattle.pw_graph.specs.declared.ids.PortId.{PortId}
use Rattle.pw_graph.specs.declared.shape.ShapeLink.{ShapeLink}
use Rattle.pw_graph.specs.Pools.{pools_of}
use Rattle.board_rule.specs.Layout.{BoardLayout}
use Rattle.board_rule.specs.buffers.EndViews.{pool_at, pool_of, writer_of, filler_of}
use Rattle.board_rule.proofs.buffers.PortLemmas.{differ_at}
use Rattle.board_rule.proofs.buffers.WiredLemmas.{PoolAt, Wired, wired}
use Rattle.board_rule.proofs.buffers.HolderLemmas.{link_is, pool_there, pool_here}
use Rattle.io_areas.specs.PooledBoard.{IsPooledBoard}

module _ (p : BoardLayout) (board : IsPooledBoard p) (q : ℕ) where
  wires : Wired p
  wires = wired p board.sound board.pooled

  module _ (inside : q < length (pools_of p.shape)) where
    there : PoolAt p q (pool_at p q)
    there = pool_there p q inside

    pub some_link : 0 < length (pool_at p q).links
    some_link = let l = wires.linked q (pool_at p q) there in let h = l.1.1 in omega arith

    pub once : AllPairs (λ k l. k ≢ l) (pool_at p q).links
    once i j d h lt e = let z : i ≡ j = differ_at (pool_at p q).links d i j (wires.once q (pool_at p q) there) (omega arith) lt e in
        omega arith

    -- each is a link of the shape from the pool's node, and reads the pool
    pub of_pool : (l : ℕ) → Contains (pool_at p q).links l → (l < length p.shape.links) × (writer_of p l ≡ filler_of p q)
        × (pool_of p l ≡ q)
    of_pool l c = let k = wires.there q l (pool_at p q) there c in let here = pool_here p wires l k.0 k.1 in (
      slice_get_within p.shape.links l k.0 k.1,
      ap (λ (j : ShapeLink). p.index j.from.node) (link_is p l k.0 k.1) ∙ ap (λ (z : PortId). p.index z.node) k.2,
      wires.one_pool (pool_of p l) q l (pool_at p (pool_of p l)) (pool_at p q) here.0 there here.1 c,
    )
