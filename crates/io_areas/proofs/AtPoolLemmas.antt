-- What the calls use of a pool: its words by its quantum, and that the block a seat is asked for is
-- just one.
use Rattle.std.proofs.Common.{◌≡◌, ℕ, ◌+◌, ◌*◌, ◌/◌, ◌<◌, ◌≤◌, ⊎_elim, length, get_or, sym, ap, ◌∙◌, subst}
use Rattle.std.proofs.Common.{arith}
use Rattle.std.proofs.Math.Nat.{le_antisymm}
use Rattle.std.proofs.lemmas.Bool.{cases_lt}
use Rattle.std.proofs.lemmas.List.{get_or-map, length-map}
use Rattle.pw_graph.specs.declared.ids.PortId.{PortId}
use Rattle.pw_graph.specs.declared.pools.PoolShape.{PoolShape}
use Rattle.pw_graph.specs.Pools.{sources_of, pool_of, pools_of}
use Rattle.board_rule.specs.declared.view.View.{View}
use Rattle.board_rule.specs.Layout.{BoardLayout}
use Rattle.board_rule.specs.buffers.EndViews.{no_pool, pool_at}
use Rattle.board_rule.specs.buffers.BlockSteps.{HasBlock}
use Rattle.board_rule.specs.buffers.BufferReads.{IsFirstFilled}
use Rattle.io_areas.specs.Quanta.{quantum_of}
use Rattle.io_areas.specs.Writing.{IsAtPool}

module _ (p : BoardLayout) where
  -- a word has four samples
  pub words_of_quantum : (q : ℕ) → q < length (pools_of p.shape) → (pool_at p q).words ≡ (quantum_of p q + 3) / 4
  words_of_quantum q h = let port : PortId = get_or (sources_of p.shape) q no_pool.port in
      let inside : q < length (sources_of p.shape) = subst (λ n. q < n) (length-map (sources_of p.shape) (pool_of p.shape)) h in
      let is : pool_at p q ≡ pool_of p.shape port = get_or-map (pool_of p.shape) (sources_of p.shape) q no_pool.port no_pool inside in
      ap (λ (x : PoolShape). x.words) is ∙ ap (λ (x : PoolShape). (p.shape.quantum * x.channels + 3) / 4) (sym is)

  module _ (v : View) (q : ℕ) where
    -- the seat has each block of its pool
    pub has_block : (b : ℕ) → IsAtPool p v q → b < (pool_at p q).blocks → HasBlock p v q b
    has_block b h inside = let room = h.0.2 in (h.0.0, inside, omega arith, (h.0.1.0, h.2, h.0.1.2), h.1)

    pub one_first : (a b : ℕ) → IsFirstFilled p v q a → IsFirstFilled p v q b → a ≡ b
    one_first a b f g = le_antisymm (least a b f g) (least b a g f)
      where
        least : (a b : ℕ) → IsFirstFilled p v q a → IsFirstFilled p v q b → a ≤ b
        least a b f g = ⊎_elim (λ l. absurd (f.before b l g.is)) (λ le. le) (cases_lt b a)
