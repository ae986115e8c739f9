-- A node that works and has a link into it that it has not yet given back can take a step on that link.
use Rattle.std.proofs.Common.{◌≡◌, ◌≢◌, ℕ, ◌+◌, ◌<◌, inr, refl, sym, ap, arith, length, Option, Bool}
use mathlib.Core.Logic.{dite}
use mathlib.Core.Option.{some}
use native.Mathlib.Decide.{ℕ_discrete}
use lib.ListN.{get_elem?}
use Rattle.atomic_table.specs.Table.{State}
use Rattle.pw_graph.specs.declared.shape.ShapeLink.{ShapeLink}
use Rattle.pw_graph.specs.declared.pools.PoolShape.{PoolShape}
use Rattle.board_rule.specs.declared.view.View.{View}
use Rattle.board_rule.specs.declared.view.ReadView.{ReadView}
use Rattle.board_rule.specs.Layout.{BoardLayout}
use Rattle.board_rule.specs.View.{Whole, unread}
use Rattle.board_rule.specs.Steps.{HasNode, IsRunning}
use Rattle.board_rule.specs.BoardRule.{Holds}
use Rattle.board_rule.specs.buffers.Areas.{stored_id}
use Rattle.board_rule.specs.buffers.Spans.{spans}
use Rattle.board_rule.specs.buffers.EndViews.{link_at, pool_at, pool_of, reader_of, read_of}
use Rattle.board_rule.specs.buffers.ReaderSteps.{words_read_of, read_cycle, IsReader}
use Rattle.board_rule.proofs.buffers.WiredLemmas.{wired}
use Rattle.board_rule.proofs.buffers.PacedLemmas.{paces}
use Rattle.board_rule.proofs.buffers.HolderLemmas.{got, link_there, pool_here, now_running}
use Rattle.board_rule.proofs.buffers.AreaLemmas.{wrote_now}
use Rattle.board_progress.specs.Moves.{Move}
use Rattle.board_progress.specs.BufferAdvances.{BufferAdvances}
use Rattle.board_progress.specs.BufferAdvances.BufferAdvances.{loads_as_reader, loads_sample, lowers_readers, stores_need}
use Rattle.board_progress.specs.Progress.{CanAdvance}
use Rattle.board_progress.proofs.StaffedLemmas.{within}

module _ (p : BoardLayout) (s : State (Option ℕ) View) (h : Holds p s) where
  abbrev g : Whole
  g = h.whole

  pub buffer_moves : (id : ℕ) (v : View) (x : Move) → get_elem? s.views id ≡ some v → BufferAdvances p s.words v x → CanAdvance p s.words v
  buffer_moves id v x at a = (x, inr a, λ t. t)

  pub read_advances : (b : Bool) (id : ℕ) (v : View) → get_elem? s.views id ≡ some v → (l : ℕ) → l < length p.shape.links
      → HasNode b p v (reader_of p l) → IsRunning b v (reader_of p l) → (read_of v l).stored ≢ read_cycle b p v l + 1 → CanAdvance p s.words v
  read_advances b id v at l inside hn running open_yet =
      let w = wired p h.seated.sound h.seated.pooled in let k : ShapeLink = link_at p l in let there = link_there p l inside in
      let now = now_running p s h id b v (reader_of p l) at hn running in let run = now.1 in let c = now.0 in
      let full = (h.seated.knows id v at).ends.of_read l k there now.2 in
      let is : g.ends.reads l ≡ read_of v l = sym (got v.reads l (g.ends.reads l) (unread 0) full) in
      let paced = paces p g s.words w h.activations in let sp = spans p g in let q : ℕ = pool_of p l in let x : PoolShape = pool_at p q in
      let pool = pool_here p w l k there in let o = h.buffers.links q l x k pool.0 pool.1 there in
      let rt = o.reader_turn in let r₀ = rt.0 in let r₁ = rt.1 in let r₂ = rt.2 in let r₃ = rt.3 in
      let sd : (g.ends.reads l).stored ≡ (read_of v l).stored = ap (λ (z : ReadView). z.stored) is in
      let lw : (g.ends.reads l).lowered ≡ (read_of v l).lowered = ap (λ (z : ReadView). z.lowered) is in
      let ld : (g.ends.reads l).loaded ≡ (read_of v l).loaded = ap (λ (z : ReadView). z.loaded) is in
      let number : (g.ends.reads l).id ≡ (read_of v l).id = ap (λ (z : ReadView). z.id) is in
      let reads = (h.seated.knows id v at).reads now.3 in let links = reads.links in
      let reader : IsReader b p v l = (inside, within v.reads l (g.ends.reads l) full, hn, running, (omega arith)) in
      let low = paced.first (reader_of p l) (w.to_in l k there) in
      let n = wrote_now p sp g.ends g.expect s.words w paced h.buffers l k there run in let n₂ = n.2 in
      dite (ℕ_discrete (read_of v l).loaded (read_cycle b p v l))
      (λ e. buffer_moves id v _ at (loads_as_reader b l _ (reader, e) refl refl))
      (λ e. let turn : (read_of v l).loaded ≡ read_cycle b p v l + 1 = omega arith in
      let has : (g.ends.reads l).id < x.blocks = (let i : (g.ends.reads l).id ≡ stored_id (g.ends.writes l) n.0 = o.found n.0 n.1
      (let z : (read_of v l).stored ≡ read_cycle b p v l = omega arith in omega arith) (omega arith) in let j = o.named n.0 n.1 (omega arith) in omega arith) in
      let mine : (read_of v l).id < x.blocks = omega arith in
      dite (ℕ_discrete (read_of v l).lowered (read_cycle b p v l))
      (λ f. dite (ℕ_discrete (words_read_of v l) x.words)
      (λ all. buffer_moves id v _ at (lowers_readers b l (read_of v l).id _ (((reader, turn, mine, refl), f), all) refl refl))
      (λ some. let most = reads.few l inside in
      buffer_moves id v _ at (loads_sample b l (read_of v l).id _ (((reader, turn, mine, refl), f), (omega arith)) (omega arith) refl refl)))
      (λ f. buffer_moves id v _ at (stores_need b l (read_of v l).id ((reader, turn, mine, refl), (omega arith), (omega arith)) refl)))
