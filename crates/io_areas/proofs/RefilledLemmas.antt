-- From view to view where only blocks and reclaims of one pool are others.
use Rattle.std.proofs.Common.{◌≡◌, ◌≢◌, ℕ, zero, suc, ◌+◌, ◌<◌, ◌≤◌, List, [], ◌∷◌, Option, Some, None, length, get_or, set, refl, sym, ap, ◌∙◌, subst, arith}
use Rattle.std.proofs.Common.{length-set, get_or-set_other}
use Rattle.pw_graph.specs.Pools.{pools_of}
use Rattle.board_rule.specs.declared.view.BlockView.{BlockView}
use Rattle.board_rule.specs.declared.view.BlockView.TheVariants.{Free}
use Rattle.board_rule.specs.declared.view.View.{View}
use Rattle.board_rule.specs.Layout.{BoardLayout}
use Rattle.board_rule.specs.buffers.Spans.{block_at}
use Rattle.board_rule.specs.buffers.EndViews.{pool_at, block_of, view_block}
use Rattle.board_rule.specs.buffers.BlockSteps.{fill_cycle}
use Rattle.board_rule.specs.buffers.ReclaimSteps.{reclaimed_of, IsUnreclaimed}
use Rattle.board_rule.specs.buffers.BufferReads.{HasPool}
use Rattle.io_areas.specs.Writing.{HasReclaimed}
use Rattle.io_areas.proofs.KeptLemmas.{IsKept}
use Rattle.io_areas.proofs.BlockLemmas.{elsewhere}

-- from v to w only blocks and reclaims of the pool q are others
pub record IsRefilled (p : BoardLayout) (q : ℕ) (v w : View) : Type 0 where
  pub same : w ≡ record v { blocks = w.blocks; reclaimed = w.reclaimed }
  pub room : length w.blocks ≡ length v.blocks
  pub others : (r a : ℕ) → r < length (pools_of p.shape) → a < (pool_at p r).blocks → r ≢ q → block_of p w r a ≡ block_of p v r a
  pub rest : (r : ℕ) → r ≢ q → reclaimed_of w r ≡ reclaimed_of v r

module _ (p : BoardLayout) (q : ℕ) where
  pub refilled : (v w : View) (b : ℕ) (y : BlockView) → HasPool p v q → b < (pool_at p q).blocks → w ≡ view_block p v q b y
      → IsRefilled p q v w
  refilled v w b y h low e = subst (IsRefilled p q v) (sym e) record
      { same = refl; room = length-set v.blocks (block_at p q b) y; others = elsewhere p v q b y h low; rest = λ r o. refl }

  pub refill_kept : (v w : View) → IsRefilled p q v w → IsKept v w
  refill_kept v w f = record {
    same = f.same ∙ ap (λ (x : View). record v { writes = x.writes; blocks = w.blocks; reclaimed = w.reclaimed }) (sym f.same);
    ends = ap (λ (x : View). length x.writes) f.same;
    room = f.room;
  }

  pub refill_more : (v w x : View) → IsRefilled p q v w → IsRefilled p q w x → IsRefilled p q v x
  refill_more v w x f g = record {
    same = g.same ∙ ap (λ (y : View). record y { blocks = x.blocks; reclaimed = x.reclaimed }) f.same;
    room = g.room ∙ f.room;
    others = λ r a h l o. g.others r a h l o ∙ f.others r a h l o;
    rest = λ r o. g.rest r o ∙ f.rest r o;
  }

  none_refilled : (v w : View) → w ≡ v → IsRefilled p q v w
  none_refilled v w e = subst (IsRefilled p q v) (sym e) record { same = refl; room = refl; others = λ r a h l o. refl; rest = λ r o. refl }

  -- a block that came back
  pub reclaim_refills : (v : View) (r : Option ℕ) (w : View) → HasPool p v q → HasReclaimed p v q r w → IsRefilled p q v w
  reclaim_refills v None w at h = none_refilled v w h.1
  reclaim_refills v (Some b) w at h = subst (IsRefilled p q v) (sym h.2) record {
    same = refl;
    room = length-set v.blocks (block_at p q b) Free;
    others = elsewhere p v q b Free at h.1.inside;
    rest = λ r o. get_or-set_other v.reclaimed q r (fill_cycle p v q + 1) 0 o;
  }

  -- the pool is reclaimed in no later cycle
  set_most : (xs : List ℕ) (i n : ℕ) → get_or (set xs i n) i 0 ≤ n
  set_most [] i n = omega arith
  set_most (x ∷ xs) zero n = omega arith
  set_most (x ∷ xs) (suc i) n = set_most xs i n

  pub reclaimed_by : (v : View) (r : Option ℕ) (w : View) → IsUnreclaimed p v q (fill_cycle p v q) → HasReclaimed p v q r w
      → IsUnreclaimed p w q (fill_cycle p v q + 1)
  reclaimed_by v None w early h = subst (λ (u : View). IsUnreclaimed p u q (fill_cycle p v q + 1)) (sym h.1)
      (λ low. let e = early low in omega arith)
  reclaimed_by v (Some b) w early h = subst (λ (u : View). IsUnreclaimed p u q (fill_cycle p v q + 1)) (sym h.2)
      (λ low. set_most v.reclaimed q (fill_cycle p v q + 1))
