-- From the rule: each advance lowers what is left, and so each run is bounded.
use Rattle.std.proofs.Common.{◌≡◌, ℕ, zero, suc, ◌+◌, ◌-◌, ◌<◌, ◌≤◌, ⊎_elim, true, false, List, [], ◌∷◌, length, set, sym, ap, ◌∙◌, subst, arith, Option}
use Rattle.std.specs.Prelude.{sum_by}
use Rattle.std.proofs.lemmas.List.Sums.{sum_by-cons}
use mathlib.Core.Logic.{dite}
use mathlib.Core.Option.{some, some-injective, some-ne-none}
use native.Mathlib.Decide.{dec_le}
use lib.ListN.{get_elem?}
use Rattle.atomic_table.specs.Table.{State}
use Rattle.pw_graph.specs.declared.pools.PoolShape.{PoolShape}
use Rattle.board_rule.specs.declared.view.View.{View}
use Rattle.board_rule.specs.declared.view.DriverView.{DriverView}
use Rattle.board_rule.specs.declared.view.BlockView.TheVariants.{Free}
use Rattle.board_rule.specs.Layout.{BoardLayout, first}
use Rattle.board_rule.specs.BoardRule.{Holds}
use Rattle.board_rule.specs.events.Marks.{is_checking}
use Rattle.board_rule.specs.buffers.BlockReadings.{busy_cycles}
use Rattle.board_rule.specs.buffers.Spans.{block_at, spans}
use Rattle.board_rule.specs.buffers.EndViews.{pool_at, filler_of, block_of}
use Rattle.board_rule.specs.buffers.BlockSteps.{fill_cycle}
use Rattle.board_rule.specs.buffers.ReclaimSteps.{LoadsReaders, reclaimed_of}
use Rattle.board_rule.proofs.buffers.WiredLemmas.{wired}
use Rattle.board_rule.proofs.buffers.HolderLemmas.{got, pool_there, now_running}
use Rattle.board_rule.proofs.buffers.ReclaimLemmas.{due_out}
use Rattle.board_progress.specs.Moves.{Move, moved}
use Rattle.board_progress.specs.BuffersLeft.{block_left, words_at, steps_left}
use Rattle.board_progress.specs.Progress.{Advances}
use Rattle.board_progress.specs.VainSteps.{VainSteps}
use Rattle.board_progress.specs.Runs.{board_left, Runs, IsBounded, StepRuns, HasFewAdvances}
use Rattle.board_progress.proofs.StaffedLemmas.{within}
use Rattle.board_progress.proofs.NodeAdvancesLemmas.{node_advance_falls}
use Rattle.board_progress.proofs.BufferAdvancesLemmas.{buffer_advance_falls}
use Rattle.board_progress.proofs.VainStepsLemmas.{vain_rises}

-- one element of a list changes
sum_set : (f : View → ℕ) (xs : List View) (i : ℕ) (v w : View) → get_elem? xs i ≡ some v → f w < f v → sum_by f (set xs i w) < sum_by f xs
sum_set f [] i v w e less = absurd (some-ne-none v (sym e))
sum_set f (x ∷ xs) zero v w e less = let a = sum_by-cons f x xs in let b = sum_by-cons f w xs in let c = ap f (some-injective x v e) in omega arith
sum_set f (x ∷ xs) (suc i) v w e less = let a = sum_by-cons f x xs in let b = sum_by-cons f x (set xs i w) in
    let c = sum_set f xs i v w e less in omega arith

sum_set_most : (f : View → ℕ) (xs : List View) (i k : ℕ) (v w : View) → get_elem? xs i ≡ some v → f w ≤ f v + k → sum_by f (set xs i w) ≤ sum_by f xs + k
sum_set_most f [] i k v w e most = absurd (some-ne-none v (sym e))
sum_set_most f (x ∷ xs) zero k v w e most = let a = sum_by-cons f x xs in let b = sum_by-cons f w xs in let c = ap f (some-injective x v e) in omega arith
sum_set_most f (x ∷ xs) (suc i) k v w e most = let a = sum_by-cons f x xs in let b = sum_by-cons f x (set xs i w) in
    let c = sum_set_most f xs i k v w e most in omega arith

module _ (p : BoardLayout) where
  -- a pool is reclaimed once in a cycle, when a block is out
  once : (s : State (Option ℕ) View) (h : Holds p s) (id : ℕ) (v : View) → get_elem? s.views id ≡ some v → (q k : ℕ) → LoadsReaders p v q k
      → (q < length v.reclaimed) × (reclaimed_of v q ≤ fill_cycle p v q) × (block_left (words_at p q) (block_of p v q k) ≡ 0)
  once s h id v at q k loads =
      let g = h.whole in let w = wired p h.seated.sound h.seated.pooled in let x : PoolShape = pool_at p q in
      let there = pool_there p q loads.0.0 in let now = now_running p s h id false v (filler_of p q) at loads.0.3 loads.0.4 in
      let run = now.1 in let c = now.0 in let ks = (h.seated.knows id v at).ends in
      let full = ks.of_pool q x there now.2 in
      let is : reclaimed_of v q ≡ g.ends.reclaimed q = got v.reclaimed q (g.ends.reclaimed q) 0 full in
      let block_is : (a : ℕ) → a < x.blocks → g.ends.blocks q a ≡ block_of p v q a =
      λ a l. sym (got v.blocks (block_at p q a) (g.ends.blocks q a) Free (ks.of_block q a x there l now.2)) in
      let ok = h.buffers.pools q x there in
      let both : (reclaimed_of v q ≤ fill_cycle p v q) × (block_left (words_at p q) (block_of p v q k) ≡ 0) = ⊎_elim
      (λ z. let soon = z.1 in let until = ok.reclaims.until k (fill_cycle p v q + 1 - busy_cycles p x) loads.0.1 (block_is k loads.0.1 ∙ z.0) in
      ((omega arith), ap (block_left (words_at p q)) z.0))
      (λ z. let later = z.2 in
      let low : reclaimed_of v q ≤ fill_cycle p v q = dite (dec_le (reclaimed_of v q) (first p + 1)) (λ l. omega arith) (λ l. z.1 (omega arith)) in
      let out = due_out p (spans p g) g.ends g.expect s.words w h.buffers q x there (omega arith) in
      let o = z.0 out.0 _ out.1 (sym (block_is out.0 out.1) ∙ out.2) in (low, ap (block_left (words_at p q)) o.1.is)) loads.2 in
      (within v.reclaimed q (g.ends.reclaimed q) full, both.0, both.1)

  pub advance_falls : (s : State (Option ℕ) View) → Holds p s → (i : ℕ) (v : View) (x : Move) → get_elem? s.views i ≡ some v
      → Advances p s.words v x → board_left p (moved s i x).views < board_left p s.views
  advance_falls s h i v x at a = sum_set (steps_left p) s.views i v x.view at (⊎_elim
      (λ n. node_advance_falls p s.words v x (λ number checking. let is = ((h.seated.knows i v at).is_driver number).0 in
      subst (λ (l : DriverView). is_checking l.drive ≡ true → l.checked ≡ true) (sym is) h.events.checking checking) n)
      (λ b. buffer_advance_falls p s.words v x (once s h i v at) b) a)

  pub bounded : (n : ℕ) (s t : State (Option ℕ) View) → Runs p n s t → IsBounded p n s t
  bounded zero s t e = let a : board_left p s.views ≡ board_left p t.views = ap (λ (z : State (Option ℕ) View). board_left p z.views) e in omega arith
  bounded (suc n) s t r = let m = r.1 in let a = advance_falls s r.0 m.0 m.1 m.2 m.3 m.4 in
      let b = bounded n (moved s m.0 m.2) t m.5 in omega arith

  -- and so has each run of any steps few advances
  pub vain_most : (s : State (Option ℕ) View) (i : ℕ) (v : View) (x : Move) (back : ℕ) → get_elem? s.views i ≡ some v → VainSteps p s.words v x back
      → board_left p (moved s i x).views ≤ board_left p s.views + back
  vain_most s i v x back at a = sum_set_most (steps_left p) s.views i back v x.view at (vain_rises p s.words v x back a)

  pub few_advances : (k n back : ℕ) (s t : State (Option ℕ) View) → StepRuns p k n back s t → HasFewAdvances p n back s t
  few_advances zero n back s t r = let a : board_left p s.views ≡ board_left p t.views = ap (λ (z : State (Option ℕ) View). board_left p z.views) r.0 in
      let none = r.1 in omega arith
  few_advances (suc k) n back s t r = let m = r.1 in let after : State (Option ℕ) View = moved s m.0 m.2 in ⊎_elim
      (λ (d : (j : ℕ) × (n ≡ j + 1) × Advances p s.words m.1 m.2 × StepRuns p k j back after t).
      let a = advance_falls s r.0 m.0 m.1 m.2 m.3 d.2 in let b = few_advances k d.0 back after t d.3 in let c = d.1 in omega arith)
      (λ (d : (now later : ℕ) × (back ≡ now + later) × VainSteps p s.words m.1 m.2 now × StepRuns p k n later after t).
      let a = vain_most s m.0 m.1 m.2 d.0 m.3 d.3 in let b = few_advances k n d.1 after t d.4 in let c = d.2 in omega arith) m.4
