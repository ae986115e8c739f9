-- Other ends of links and other blocks leave what else is asked of a view.
use Rattle.std.proofs.Common.{◌≡◌, ℕ, false, length, subst, sym, arith}
use Rattle.board_rule.specs.declared.view.View.{View}
use Rattle.board_rule.specs.Layout.{BoardLayout}
use Rattle.board_rule.specs.buffers.BufferReads.{HasPool}
use Rattle.board_rule.specs.buffers.EndViews.{filler_of}
use Rattle.board_rule.specs.activation.SeatNodes.{IsCycle, HasNode, IsMember}
use Rattle.board_rule.specs.buffers.BlockSteps.{fill_cycle}
use Rattle.board_rule.specs.activation.WorkSteps.{IsRunning}
use Rattle.io_areas.specs.Writing.{IsAtPool}

-- the view w is v but for its writers' ends, its blocks and its reclaims
pub record IsKept (v w : View) : Type 0 where
  pub same : w ≡ record v { writes = w.writes; blocks = w.blocks; reclaimed = w.reclaimed }
  pub ends : length w.writes ≡ length v.writes
  pub room : length w.blocks ≡ length v.blocks

module _ (p : BoardLayout) (v w : View) (k : IsKept v w) where
  pub has_again : (m : ℕ) → HasNode false p v m → HasNode false p w m
  has_again m h = let o = h.0 in subst (λ (x : View). HasNode false p x m) (sym k.same)
      (record { inside = o.inside; follows = o.follows; loops = o.loops; owned = o.owned; there = o.there; knows = o.knows; owners = o.owners }, h.1, h.2)

  pub runs_again : (m : ℕ) → IsRunning false v m → IsRunning false w m
  runs_again m h = subst (λ (x : View). IsRunning false x m) (sym k.same) h

  member_again : (m : ℕ) → IsMember false p v m → IsMember false p w m
  member_again m h = let o = h.0 in subst (λ (x : View). IsMember false p x m) (sym k.same)
      (record { inside = o.inside; follows = o.follows; loops = o.loops; owned = o.owned; there = o.there; knows = o.knows; owners = o.owners }, h.1, h.2)

  pub pool_again : (q : ℕ) → HasPool p v q → HasPool p w q
  pool_again q h = let room = h.2 in let same = k.room in (h.0, member_again (filler_of p q) h.1, omega arith)

  pub at_again : (q : ℕ) → IsAtPool p v q → IsAtPool p w q
  at_again q h = (pool_again q h.0, runs_again (filler_of p q) h.1, subst (λ (x : View). IsCycle p (fill_cycle p x q)) (sym k.same) h.2)
