-- Reclaims: until a pool is reclaimed in a cycle of its node, the block that is due is out.
use Rattle.std.proofs.Common.{◌≡◌, ℕ, ◌+◌, ◌-◌, ◌<◌, ◌≤◌, Bool, true, false, cond, List, ap, arith}
use Rattle.std.specs.Prelude.{Contains}
use Rattle.std.specs.List.{list_any}
use mathlib.Core.Logic.{dite}
use native.Mathlib.Decide.{dec_le}
use Rattle.pw_graph.specs.declared.ids.PortId.{PortId}
use Rattle.pw_graph.specs.declared.pools.PoolShape.{PoolShape}
use Rattle.pw_graph.specs.Pools.{links_from}
use Rattle.board_rule.specs.declared.view.WriteView.{WriteView}
use Rattle.board_rule.specs.declared.view.BlockView.{BlockView}
use Rattle.board_rule.specs.declared.view.BlockView.TheVariants.{Out}
use Rattle.board_rule.specs.Layout.{BoardLayout, first}
use Rattle.board_rule.specs.start.StartViews.{Samples}
use Rattle.board_rule.specs.buffers.Areas.{stored_id, Span}
use Rattle.board_rule.specs.buffers.BufferRule.{Reclaims, Buffers}
use Rattle.board_rule.specs.buffers.BlockReadings.{Ends, is_busy, stamp, delay_at, busy_cycles}
use Rattle.board_rule.proofs.buffers.WiredLemmas.{PoolAt, Wired, late_is, busy_cycles_some, delayed_link}

pub busy_cycles_most : (p : BoardLayout) (x : PoolShape) → busy_cycles p x ≤ 2
busy_cycles_most p x = by (list_any (λ k. k.delayed) (links_from p.shape x.port))
  where
    by : (b : Bool) → cond {A = ℕ} b 2 1 ≤ 2
    by true = omega arith
    by false = omega arith

module _ (p : BoardLayout) where
  -- a pool is reclaimed no further than a link of it is loaded, but for the first cycle
  pub reclaimed_most : (x : PoolShape) (r : ℕ) (writes : ℕ → WriteView) (blocks : ℕ → BlockView) → Reclaims p x r writes blocks
      → (l k : ℕ) → Contains x.links l → first p + 1 ≤ k → (writes l).loaded ≤ k → r ≤ k
  reclaimed_most x r writes blocks o l k c low most = let turn = (o.turn l c).1 in dite (dec_le r (first p + 1))
      (λ z. omega arith) (λ z. let t : r ≤ (writes l).loaded = turn (omega arith) in omega arith)

  -- one of its links is as late as the pool
  latest : Wired p → (q : ℕ) (x : PoolShape) → PoolAt p q x → (l : ℕ) × Contains x.links l × (delay_at p l + 1 ≡ busy_cycles p x)
  latest w q x at = let some = busy_cycles_some p x in let most = busy_cycles_most p x in dite (dec_le 2 (busy_cycles p x))
      (λ two. let d = delayed_link p q x at (omega arith) in let one = d.2 in (d.0, d.1, omega arith))
      (λ one. let d = w.linked q x at in let late = w.delay_in q d.0 x at d.1 in (d.0, d.1, omega arith))

  module _ (s : ℕ → Span) (ends : Ends) (e : Samples) (ws : List ℕ) (w : Wired p) (b : Buffers p s ends e ws) (q : ℕ) (x : PoolShape)
      (at : PoolAt p q x) where
    abbrev filler : Span
    filler = s (p.index x.port.node)

    -- while its pool is not reclaimed, the block that is due is out
    pub due_out : ends.reclaimed q ≤ filler.ended
        → (n : ℕ) × (n < x.blocks) × (ends.blocks q n ≡ Out (filler.ended + 1 - busy_cycles p x))
    due_out waits = let a = latest w q x at in let l : ℕ = a.0 in let k = w.there q l x at a.1 in let o = b.links q l x k.0 at a.1 k.1 in
        let ended : (s (p.index k.0.from.node)).ended ≡ filler.ended = ap (λ (z : PortId). (s (p.index z.node)).ended) k.2 in
        let late = late_is p l k.0 k.1 in let is = a.2 in let wt = o.writer_turn in let w₀ = wt.0 in let ok = b.pools q x at in
        let begun = ok.reclaims.begun in let turn = (ok.reclaims.turn l a.1).0 in let most = busy_cycles_most p x in (
          stored_id (ends.writes l) (delay_at p l),
          o.named (delay_at p l) (omega arith) (omega arith),
          (ok.named l a.1).out (delay_at p l) (filler.ended + 1 - busy_cycles p x) (omega arith) (omega arith) (omega arith) (omega arith),
        )

    -- so once a block of this cycle is announced, it is reclaimed
    pub reclaimed_now : (n : ℕ) → n < x.blocks → ends.blocks q n ≡ Out (filler.ended + 1) → filler.ended + 1 ≤ ends.reclaimed q
    reclaimed_now n h out = dite (dec_le (filler.ended + 1) (ends.reclaimed q)) (λ z. z)
        (λ z. absurd (let due = due_out (omega arith) in let ok = b.pools q x at in
        let near = ok.near n due.0 h due.1 (ap is_busy out) (ap is_busy due.2) in let st = ap (stamp filler.ended) out in
        let sd = ap (stamp filler.ended) due.2 in let begun = ok.reclaims.begun in let most = busy_cycles_most p x in omega arith))
