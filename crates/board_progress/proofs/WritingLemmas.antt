-- A node that works and has a link from it that it has not yet published can take a step on that link or on its pool.
use Rattle.std.proofs.Common.{◌≡◌, ◌≢◌, ℕ, suc, ◌+◌, ◌-◌, ◌<◌, ◌≤◌, ◌⊎◌, inl, inr, ⊎_elim, true, false, true≢false, cond, ◌||◌, List, [], ◌∷◌, refl, sym, ap, ◌∙◌, subst}
use Rattle.std.proofs.Common.{arith, length, Option, Bool}
use Rattle.std.specs.Prelude.{Contains, max, fold}
use Rattle.std.specs.List.{list_any}
use mathlib.Core.Logic.{dite}
use mathlib.Core.Option.{some}
use native.Mathlib.Decide.{ℕ_discrete, dec_le}
use lib.ListN.{get_elem?}
use Rattle.std.proofs.lemmas.Option.{slice_get_within}
use Rattle.atomic_table.specs.Table.{State}
use Rattle.pw_graph.specs.declared.ids.PortId.{PortId}
use Rattle.pw_graph.specs.declared.shape.ShapeLink.{ShapeLink}
use Rattle.pw_graph.specs.declared.pools.PoolShape.{PoolShape}
use Rattle.pw_graph.specs.Pools.{pools_of, asked, links_from, blocks_of}
use Rattle.pw_graph.proofs.LayoutLemmas.{pools_have_blocks}
use Rattle.board_rule.specs.declared.view.View.{View}
use Rattle.board_rule.specs.declared.view.WriteView.{WriteView}
use Rattle.board_rule.specs.declared.view.BlockView.{BlockView}
use Rattle.board_rule.specs.declared.view.BlockView.TheVariants.{Free, Filling, Out}
use Rattle.board_rule.specs.Layout.{BoardLayout, first}
use Rattle.board_rule.specs.View.{Whole, unwritten}
use Rattle.board_rule.specs.Steps.{HasNode, IsRunning, cycle_of}
use Rattle.board_rule.specs.BoardRule.{Holds}
use Rattle.board_rule.specs.buffers.Areas.{Span, stored_id}
use Rattle.board_rule.specs.buffers.BufferRule.{PoolOk}
use Rattle.board_rule.specs.buffers.BlockReadings.{is_busy, stamp, filled, busy_cycles}
use Rattle.board_rule.specs.buffers.Spans.{spans, block_at, holder}
use Rattle.board_rule.specs.buffers.EndViews.{no_pool, link_at, pool_at, pool_of, writer_of, filler_of, write_of, block_of}
use Rattle.board_rule.specs.buffers.WriterSteps.{write_cycle}
use Rattle.board_rule.specs.buffers.BlockSteps.{fill_cycle, IsLoaded, IsWriting, HasBlock}
use Rattle.board_rule.specs.buffers.ReclaimSteps.{due_stamp}
use Rattle.board_rule.proofs.buffers.WiredLemmas.{PoolAt, Wired, wired, pool_source, busy_cycles_some}
use Rattle.board_rule.proofs.buffers.PacedLemmas.{Paced, paces}
use Rattle.board_rule.proofs.buffers.HolderLemmas.{got, link_is, link_there, pool_here, now_running}
use Rattle.board_rule.proofs.buffers.ReclaimLemmas.{busy_cycles_most, reclaimed_most, due_out}
use Rattle.board_rule.proofs.buffers.BlockStepsLemmas.{finds_none}
use Rattle.board_rule.proofs.buffers.PoolWordLemmas.{pools_have_words}
use Rattle.board_progress.specs.BufferAdvances.BufferAdvances.{loads_as_writer, loads_readers, stores_sample, stores_readers, stores_have}
use Rattle.board_progress.specs.Progress.{CanAdvance}
use Rattle.board_progress.proofs.StaffedLemmas.{within, searched}
use Rattle.board_progress.proofs.ReadingLemmas.{buffer_moves}

-- a pool that is late has two blocks
asked_two : (b : Bool) (n : ℕ) → b ≡ true → 2 ≤ cond b (max 2 n) n
asked_two true n e = omega arith
asked_two false n e = absurd (true≢false (sym e))

most_grows : (a : ℕ) (ls : List ShapeLink) → a ≤ fold (λ top l. max top (asked l)) a ls
most_grows a [] = omega arith
most_grows a (l ∷ ls) = let more : max a (asked l) ≤ fold (λ top k. max top (asked k)) (max a (asked l)) ls = most_grows (max a (asked l)) ls in
    omega arith

late_asks : (a : ℕ) (ls : List ShapeLink) → list_any (λ k. k.delayed) ls ≡ true → 2 ≤ fold (λ top l. max top (asked l)) a ls
late_asks a [] e = absurd (true≢false (sym e))
late_asks a (l ∷ ls) e = by l.delayed refl (late_asks (max a (asked l)) ls)
  where
    by : (b : Bool) → l.delayed ≡ b
        → (list_any (λ (k : ShapeLink). k.delayed) ls ≡ true → 2 ≤ fold (λ top k. max top (asked k)) (max a (asked l)) ls)
        → 2 ≤ fold (λ top k. max top (asked k)) (max a (asked l)) ls
    by true d rest = let two : 2 ≤ asked l = asked_two l.delayed l.buffers d in
        let more : max a (asked l) ≤ fold (λ top k. max top (asked k)) (max a (asked l)) ls = most_grows (max a (asked l)) ls in omega arith
    by false d rest = rest (ap (λ b. b || list_any (λ (k : ShapeLink). k.delayed) ls) (sym d) ∙ e)

two_is : (b : Bool) → 1 < cond {A = ℕ} b 2 1 → b ≡ true
two_is true h = refl
two_is false h = absurd (omega arith)

pub two_blocks : (p : BoardLayout) (q : ℕ) (x : PoolShape) → PoolAt p q x → 1 < busy_cycles p x → 2 ≤ x.blocks
two_blocks p q x at late = let source = pool_source p.shape q x at in
    let is : x.blocks ≡ blocks_of p.shape source.0 = ap (λ (z : PoolShape). z.blocks) source.2 in
    let port : x.port ≡ source.0 = ap (λ (z : PoolShape). z.port) source.2 in
    let some : list_any (λ k. k.delayed) (links_from p.shape x.port) ≡ true = two_is (list_any (λ k. k.delayed) (links_from p.shape x.port)) late in
    let two : 2 ≤ blocks_of p.shape source.0 = late_asks 0 (links_from p.shape source.0)
    (sym (ap (λ z. list_any (λ k. k.delayed) (links_from p.shape z)) port) ∙ some) in omega arith

-- the kinds of a block
out_or : (n : ℕ) (y : BlockView) → (y ≡ Out n) ⊎ (y ≡ Out n → ⊥)
out_or n Free = inr (λ e. (cc))
out_or n (Filling i) = inr (λ e. (cc))
out_or n (Out m) = dite (ℕ_discrete m n) (λ e. inl (ap (λ k. Out k) e)) (λ o. inr (λ e. o (ap (stamp 0) e)))

abbrev IsFilling : BlockView → Type 0
IsFilling y = (i : ℕ) × (y ≡ Filling i)

filling_or : (y : BlockView) → IsFilling y ⊎ (IsFilling y → ⊥)
filling_or Free = inr (λ t. let e = t.1 in (cc))
filling_or (Filling i) = inl (i, refl)
filling_or (Out n) = inr (λ t. let e = t.1 in (cc))

else_out : (y : BlockView) → (IsFilling y → ⊥) → (y ≡ Free) ⊎ ((n : ℕ) × (y ≡ Out n))
else_out Free none = inl refl
else_out (Filling i) none = absurd (none (i, refl))
else_out (Out n) none = inr (n, refl)

module _ (p : BoardLayout) (s : State (Option ℕ) View) (h : Holds p s) (id : ℕ) (v : View) (at : get_elem? s.views id ≡ some v) where
  abbrev g : Whole
  g = h.whole

  abbrev w : Wired p
  w = wired p h.seated.sound h.seated.pooled

  -- a link that is not yet loaded in this cycle
  pub load_advances : (l : ℕ) → l < length p.shape.links → HasNode false p v (writer_of p l) → IsRunning false v (writer_of p l)
      → (write_of v l).loaded ≢ write_cycle p v l + 1 → CanAdvance p s.words v
  load_advances l inside hn running open_yet = let k : ShapeLink = link_at p l in let there = link_there p l inside in
      let now = now_running p s h id false v (writer_of p l) at hn running in let run = now.1 in let c = now.0 in
      let full = (h.seated.knows id v at).ends.of_write l k there now.2 in
      let is : g.ends.writes l ≡ write_of v l = sym (got v.writes l (g.ends.writes l) (unwritten 0) full) in
      let pool = pool_here p w l k there in
      let o = h.buffers.links (pool_of p l) l (pool_at p (pool_of p l)) k pool.0 pool.1 there in
      let wt = o.writer_turn in let w₀ = wt.0 in let w₁ = wt.1 in let w₂ = wt.2 in
      let ld : (g.ends.writes l).loaded ≡ (write_of v l).loaded = ap (λ (z : WriteView). z.loaded) is in
      buffer_moves p s h id v _ at (loads_as_writer l _ ((inside, within v.writes l (g.ends.writes l) full, hn, running), (omega arith)) refl refl)

  -- a pool of which all links are loaded, and one is not yet published
  module _ (q : ℕ) (there : PoolAt p q (pool_at p q)) (hn : HasNode false p v (filler_of p q)) (running : IsRunning false v (filler_of p q))
      (l : ℕ) (in_pool : Contains (pool_at p q).links l) (mine : q ≡ pool_of p l) (unsaid : (write_of v l).stored ≢ fill_cycle p v q + 1)
      (loaded : IsLoaded p v q) where
    abbrev x : PoolShape
    x = pool_at p q

    abbrev c : ℕ
    c = fill_cycle p v q

    abbrev sp : ℕ → Span
    sp = spans p g

    now : ((sp (filler_of p q)).ended ≡ c) × ((sp (filler_of p q)).begun ≡ (sp (filler_of p q)).ended + 1) × (holder p (filler_of p q) ≡ v.number)
        × (v.number ≤ p.seats) × (false ≡ false → v.number < p.seats)
    now = now_running p s h id false v (filler_of p q) at hn running

    paced : Paced p (spans p g)
    paced = paces p g s.words w h.activations

    -- the view's entries are those of the whole
    write_full : (j : ℕ) → Contains x.links j → get_elem? v.writes j ≡ some (g.ends.writes j)
    write_full j cj = let k = w.there q j x there cj in (h.seated.knows id v at).ends.of_write j k.0 k.1
        (ap (λ (z : PortId). holder p (p.index z.node)) k.2 ∙ now.2)

    write_is : (j : ℕ) → Contains x.links j → g.ends.writes j ≡ write_of v j
    write_is j cj = sym (got v.writes j (g.ends.writes j) (unwritten 0) (write_full j cj))

    block_full : (a : ℕ) → a < x.blocks → get_elem? v.blocks (block_at p q a) ≡ some (g.ends.blocks q a)
    block_full a lt = (h.seated.knows id v at).ends.of_block q a x there lt now.2

    block_is : (a : ℕ) → a < x.blocks → g.ends.blocks q a ≡ block_of p v q a
    block_is a lt = sym (got v.blocks (block_at p q a) (g.ends.blocks q a) Free (block_full a lt))

    has_block : (a : ℕ) → a < x.blocks → HasBlock p v q a
    has_block a lt = (slice_get_within (pools_of p.shape) q x there, lt, within v.blocks (block_at p q a) (g.ends.blocks q a) (block_full a lt), hn, running)

    -- the writer of each link of the pool is the node that fills it
    writer_is : (j : ℕ) → Contains x.links j → writer_of p j ≡ filler_of p q
    writer_is j cj = let k = w.there q j x there cj in
        ap (λ (z : ShapeLink). p.index z.from.node) (link_is p j k.0 k.1) ∙ ap (λ (z : PortId). p.index z.node) k.2

    -- of a link of the pool: stored in this cycle or not, and loaded
    turn_of : (j : ℕ) → Contains x.links j → (c ≤ (write_of v j).stored) × ((write_of v j).stored ≤ c + 1)
    turn_of j cj = let k = w.there q j x there cj in let o = h.buffers.links q j x k.0 there cj k.1 in
        let wt = o.writer_turn in let w₀ = wt.0 in let w₁ = wt.1 in let w₂ = wt.2 in let run = now.1 in let cyc = now.0 in
        let e : (sp (p.index k.0.from.node)).ended ≡ (sp (filler_of p q)).ended = ap (λ (z : PortId). (sp (p.index z.node)).ended) k.2 in
        let b : (sp (p.index k.0.from.node)).begun ≡ (sp (filler_of p q)).begun = ap (λ (z : PortId). (sp (p.index z.node)).begun) k.2 in
        let sd : (g.ends.writes j).stored ≡ (write_of v j).stored = ap (λ (z : WriteView). z.stored) (write_is j cj) in (omega arith, omega arith)

    first_low : first p ≤ c
    first_low = let a = paced.first (filler_of p q) hn.2 in let cyc = now.0 in omega arith

    -- a link that is published names a block of this cycle
    said : (j : ℕ) → Contains x.links j → (write_of v j).stored ≡ c + 1 → (a : ℕ) × (a < x.blocks) × (block_of p v q a ≡ Out (c + 1))
    said j cj e = let k = w.there q j x there cj in let o = h.buffers.links q j x k.0 there cj k.1 in
        let ok = h.buffers.pools q x there in let low = first_low in
        let sd : (g.ends.writes j).stored ≡ (write_of v j).stored = ap (λ (z : WriteView). z.stored) (write_is j cj) in
        let ld : (g.ends.writes j).loaded ≡ (write_of v j).loaded = ap (λ (z : WriteView). z.loaded) (write_is j cj) in
        let load = loaded j cj in
        let most = reclaimed_most p x (g.ends.reclaimed q) g.ends.writes (g.ends.blocks q) ok.reclaims j (c + 1) cj (omega arith) (omega arith) in
        let some = busy_cycles_some p x in
        let inside = o.named 0 (omega arith) (omega arith) in
        let out = (ok.named j cj).out 0 (c + 1) (omega arith) (omega arith) (omega arith) (omega arith) in
        (stored_id (g.ends.writes j) 0, inside, sym (block_is (stored_id (g.ends.writes j) 0) inside) ∙ out)

    pub pool_advances : CanAdvance p s.words v
    pool_advances = ⊎_elim announced unannounced
        (searched (λ a. (a < x.blocks) × (block_of p v q a ≡ Out (c + 1))) is_out x.blocks)
      where
        is_out : (a : ℕ) → ((a < x.blocks) × (block_of p v q a ≡ Out (c + 1))) ⊎ ((a < x.blocks) × (block_of p v q a ≡ Out (c + 1)) → ⊥)
        is_out a = dite (dec_le (suc a) x.blocks)
            (λ z. ⊎_elim (λ e. inl ((let y : a < x.blocks = omega arith in y), e)) (λ e. inr (λ t. e t.1)) (out_or (c + 1) (block_of p v q a)))
            (λ z. inr (λ t. let y = t.0 in z (omega arith)))

        -- a block of this cycle is announced: the link is published
        announced : (a : ℕ) × (a < x.blocks) × ((a < x.blocks) × (block_of p v q a ≡ Out (c + 1))) → CanAdvance p s.words v
        announced t = let k = w.there q l x there in_pool in
            let wc : cycle_of false v (writer_of p l) ≡ c = ap (cycle_of false v) (writer_is l in_pool) in
            let load = loaded l in_pool in let turn = turn_of l in_pool in let t₀ = turn.0 in let t₁ = turn.1 in let lt = t.1 in
            let same : (pool_at p (pool_of p l)).blocks ≡ x.blocks = ap (λ j. (pool_at p j).blocks) (sym mine) in
            buffer_moves p s h id v _ at (stores_have l t.0 (
              (
                slice_get_within p.shape.links l k.0 k.1,
                within v.writes l (g.ends.writes l) (write_full l in_pool),
                subst (HasNode false p v) (sym (writer_is l in_pool)) hn,
                subst (IsRunning false v) (sym (writer_is l in_pool)) running,
              ),
              (omega arith),
              (omega arith),
              (omega arith),
              sym (ap (λ j. block_of p v j t.0) mine) ∙ t.2.1 ∙ ap (λ j. Out (j + 1)) (sym wc),
            ) refl)

        unannounced : ((a : ℕ) → a < x.blocks → (a < x.blocks) × (block_of p v q a ≡ Out (c + 1)) → ⊥) → CanAdvance p s.words v
        unannounced none = ⊎_elim filling unfilled (searched (λ a. IsFilling (block_of p v q a)) (λ a. filling_or (block_of p v q a)) x.blocks)
          where
            writing : IsWriting p v q
            writing j cj = let turn = turn_of j cj in let t₀ = turn.0 in let t₁ = turn.1 in
                (loaded j cj, dite (ℕ_discrete (write_of v j).stored (c + 1)) (λ e. let d = said j cj e in absurd (none d.0 d.1 (d.1, d.2))) (λ o. omega arith))

            -- a block is being filled: its next word, or it is announced
            filling : (a : ℕ) × (a < x.blocks) × IsFilling (block_of p v q a) → CanAdvance p s.words v
            filling t = let i : ℕ = t.2.0 in let full = (h.buffers.blocks q t.0 x there t.1).full in
                let most : filled x.words (g.ends.blocks q t.0) ≡ i = ap (filled x.words) (block_is t.0 t.1 ∙ t.2.1) in
                dite (ℕ_discrete i x.words)
                (λ e. buffer_moves p s h id v _ at (stores_readers q t.0 (has_block t.0 t.1, t.2.1 ∙ ap (λ j. Filling j) e) refl))
                (λ o. buffer_moves p s h id v _ at (stores_sample q t.0 i _ (has_block t.0 t.1, writing, (omega arith), refl, inl t.2.1) refl))

            unfilled : ((a : ℕ) → a < x.blocks → IsFilling (block_of p v q a) → ⊥) → CanAdvance p s.words v
            unfilled idle = dite (dec_le (g.ends.reclaimed q) c) due back
              where
                ok : PoolOk p x (sp (p.index x.port.node)) (g.ends.reclaimed q) g.ends.writes (g.ends.blocks q)
                ok = h.buffers.pools q x there

                -- the block that is due has come back
                due : g.ends.reclaimed q ≤ c → CanAdvance p s.words v
                due waits = let cyc = now.0 in let run = now.1 in let begun = ok.reclaims.begun in let most = busy_cycles_most p x in
                    let d = due_out p sp g.ends g.expect s.words w h.buffers q x there (omega arith) in
                    let same : (sp (filler_of p q)).ended + 1 - busy_cycles p x ≡ due_stamp p v q = omega arith in
                    let out : g.ends.blocks q d.0 ≡ Out (due_stamp p v q) = d.2 ∙ ap (λ j. Out j) same in
                    let none = finds_none p sp g.ends g.expect s.words w paced h.buffers q d.0 x there d.1 (due_stamp p v q) (out, (omega arith)) run in
                    buffer_moves p s h id v _ at (loads_readers q d.0
                    (has_block d.0 d.1, loaded, inl (sym (block_is d.0 d.1) ∙ out, (omega arith))) none refl)

                -- it is reclaimed: no busy block is due, and one is free
                back : (g.ends.reclaimed q ≤ c → ⊥) → CanAdvance p s.words v
                back past = ⊎_elim zero_free zero_out (else_out (block_of p v q 0) (idle 0 some))
                  where
                    some : 0 < x.blocks
                    some = let a = pools_have_blocks p.shape h.seated.pooled.sound.links.each q no_pool
                        (slice_get_within (pools_of p.shape) q x there) in omega arith

                    -- a block that is out
                    recent : (a n : ℕ) → a < x.blocks → block_of p v q a ≡ Out n → (n < c + 1) × (c + 1 < n + busy_cycles p x)
                    recent a n lt e = let cyc = now.0 in let run = now.1 in let is = block_is a lt ∙ e in
                        let until = ok.reclaims.until a n lt is in
                        let high = (h.buffers.blocks q a x there lt).high (ap is_busy is) in
                        let st : stamp (sp (filler_of p q)).ended (g.ends.blocks q a) ≡ n = ap (stamp (sp (filler_of p q)).ended) is in
                        let other : n ≢ c + 1 = (λ z. none a lt (lt, e ∙ ap (λ j. Out j) z)) in
                        (omega arith, omega arith)

                    room : (a : ℕ) → a < x.blocks → is_busy (block_of p v q a) ≡ true
                        → (stamp c (block_of p v q a) < c + 1) × (c + 1 < stamp c (block_of p v q a) + busy_cycles p x)
                    room a lt busy = ⊎_elim (λ e. absurd (true≢false (sym busy ∙ ap is_busy e)))
                        (λ t. subst (λ y. (stamp c y < c + 1) × (c + 1 < stamp c y + busy_cycles p x)) (sym t.1) (recent a t.0 lt t.1))
                        (else_out (block_of p v q a) (idle a lt))

                    fills : (a : ℕ) → a < x.blocks → block_of p v q a ≡ Free → CanAdvance p s.words v
                    fills a lt free = let words = pools_have_words p h.seated.sound h.seated.pooled q x there in
                        buffer_moves p s h id v _ at (stores_sample q a 0 _ (has_block a lt, writing, words, refl, inr (free, refl, room)) refl)

                    zero_free : block_of p v q 0 ≡ Free → CanAdvance p s.words v
                    zero_free e = fills 0 some e

                    zero_out : (n : ℕ) × (block_of p v q 0 ≡ Out n) → CanAdvance p s.words v
                    zero_out t = let r = recent 0 t.0 some t.1 in let r₀ = r.0 in let r₁ = r.1 in let most = busy_cycles_most p x in
                        let two = two_blocks p q x there (omega arith) in
                        ⊎_elim (λ e. fills 1 (omega arith) e)
                        (λ u. let r' = recent 1 u.0 (omega arith) u.1 in let a = r'.0 in let b = r'.1 in
                        let is0 = block_is 0 some ∙ t.1 in let is1 = block_is 1 (omega arith) ∙ u.1 in
                        let same = ok.apart 0 1 some (omega arith) (ap is_busy is0) (ap is_busy is1)
                        (ap (stamp (sp (filler_of p q)).ended) is0 ∙ (let z : t.0 ≡ u.0 = omega arith in z) ∙ sym (ap (stamp (sp (filler_of p q)).ended) is1)) in
                        absurd (omega arith))
                        (else_out (block_of p v q 1) (idle 1 (omega arith)))
