-- What each step of a writer on buffers allows.
use Rattle.std.proofs.Common.{◌≡◌, ℕ, ◌+◌, ◌-◌, ◌*◌, ◌/◌, ◌<◌, ◌≤◌, inl, inr, ⊎_elim, true, false, cond, ltb, List, []}
use Rattle.std.specs.Prelude.{Contains}
use Rattle.std.proofs.Common.{length, set, get_or, refl, sym, ap, ◌∙◌, subst, arith, length-set, set-set}
use mathlib.Core.Logic.{dite}
use native.Mathlib.Decide.{dec_le}
use lib.Seq.{set-get_or}
use Rattle.atomic_table.specs.Table.{Me, keeps, Allows}
use Rattle.pw_graph.specs.declared.shape.ShapeLink.{ShapeLink}
use Rattle.pw_graph.specs.declared.pools.PoolShape.{PoolShape}
use Rattle.pw_graph.specs.Layout.{io_place, readers_place, sample_place, word_count}
use Rattle.pw_graph.specs.Words.{io_word_of, io_id_in, have_data_word, need_data_word}
use Rattle.pw_graph.proofs.LayoutLemmas.{length-start_words}
use Rattle.board_rule.specs.declared.view.WriteView.{WriteView}
use Rattle.board_rule.specs.declared.view.BlockView.{BlockView}
use Rattle.board_rule.specs.declared.view.BlockView.TheVariants.{Free, Filling, Out}
use Rattle.board_rule.specs.declared.view.View.{View}
use Rattle.board_rule.specs.Layout.{BoardLayout, first}
use Rattle.board_rule.specs.View.{Whole, Samples, unwritten}
use Rattle.board_rule.specs.buffers.SampleWords.{packed, samples_in, samples_of}
use Rattle.board_rule.specs.buffers.Areas.{delay_by, area_of, stored_id}
use Rattle.board_rule.specs.buffers.BufferRule.{Buffers}
use Rattle.pw_graph.specs.declared.ids.PortId.{PortId}
use Rattle.board_rule.specs.buffers.BlockReadings.{delay_at, busy_cycles, is_busy, stamp}
use Rattle.board_rule.specs.buffers.Spans.{spans, holder, block_at}
use Rattle.board_rule.specs.BoardRule.{Seated, Holds}
use Rattle.board_rule.specs.buffers.BlockReadings.{Ends}
use Rattle.board_rule.specs.buffers.EndViews.{link_at, pool_at, pool_of, writer_of, filler_of, write_of, block_of, view_block}
use Rattle.board_rule.specs.buffers.WriterSteps.{write_cycle, write_area, LoadsAsWriter, loaded_as_writer, IsGivenBack, StoresHave, have_stored}
use Rattle.board_rule.specs.buffers.BlockSteps.{fill_cycle, StoresSample, sample_stored, StoresReaders}
use Rattle.board_rule.specs.buffers.BlockSteps.{readers_stored}
use Rattle.board_rule.specs.buffers.ReclaimSteps.{reclaimed_of, due_stamp, LoadsReaders, FindsDue, readers_loaded}
use Rattle.board_rule.specs.working.Plays.{Leaves, Learns}
use Rattle.board_rule.proofs.LayoutLemmas.{count_is}
use Rattle.board_rule.proofs.buffers.WiredLemmas.{late_is}
use Rattle.board_rule.proofs.buffers.DelayByLemmas.{area_most}
use Rattle.board_rule.proofs.buffers.PacedLemmas.{paces}
use Rattle.board_rule.proofs.buffers.SpanLemmas.{wired_in}
use Rattle.board_rule.proofs.buffers.HolderLemmas.{got, link_there, pool_there, pool_here, now_running, new_write, new_block, write_step}
use Rattle.board_rule.proofs.buffers.HolderLemmas.{block_step, with_ends, new_reclaim, reclaim_step}
use Rattle.board_rule.proofs.start.SeatLemmas.{set_there}
use Rattle.board_rule.proofs.buffers.ReclaimLemmas.{busy_cycles_most, due_out}
use Rattle.board_rule.proofs.buffers.KeepLemmas.{holds_ends}
use Rattle.board_rule.proofs.buffers.AreaLemmas.{link_is as area_is, finds_need, loads_as_writer, stores_have}
use Rattle.board_rule.proofs.buffers.BlockStepsLemmas.{IsDue, due_named, due_zero, finds_none, frees, CanFill, fills, announces}

-- a load leaves the words
pub unread_word : (ws : List ℕ) (i : ℕ) (f : List ℕ → Type 0) → f ws → f (set ws i (get_or ws i 0))
unread_word ws i f h = subst f (sym (set-get_or ws i 0)) h

-- the words are as many as the shape says
pub room_in : (p : BoardLayout) (g : Whole) (ws : List ℕ) (views : List View) → Seated p g ws views → word_count p.shape ≤ length ws
room_in p g ws views s = let a = s.room in let b = count_is p.shape in let c = length-start_words p.shape s.pooled in omega arith

-- the number in the word of an area
pub id_of : (status id : ℕ) → status < 4294967296 → io_id_in (io_word_of status id) ≡ id
id_of status id h = let z : (status + 4294967296 * id) / 4294967296 ≡ id = omega arith in z

module _ (p : BoardLayout) {S : Type 0} (slots id : ℕ) (me : Me S View) (after : ℕ → View) (says : ℕ → Type 0) where
  pub load_writer_allowed : (l : ℕ) → LoadsAsWriter p me.0 l → ((found : ℕ) → after found ≡ loaded_as_writer p me.0 l)
      → ((found : ℕ) → found ≡ need_data_word (io_id_in found) → IsGivenBack p me.0 l (io_id_in found) → says found)
      → Allows (Holds p) slots id me (io_place p.shape l (write_area p me.0 l)) (λ n. n) (Learns after says me)
  load_writer_allowed l h is_after it s r _ at fits =
      let g = r.whole in let w = wired_in p g s.words s.views r.seated in let k : ShapeLink = link_at p l in
      let there = link_there p l h.0.0 in let m : ℕ = writer_of p l in
      let now = now_running p s r id false me.0 m at h.0.2 h.0.3 in let run = now.1 in let c = now.0 in
      let is : g.ends.writes l ≡ write_of me.0 l = sym
      (got me.0.writes l (g.ends.writes l) (unwritten 0) ((r.seated.knows id me.0 at).ends.of_write l k there now.2)) in
      let paced = paces p g s.words w r.activations in let b = r.buffers in let sp = spans p g in
      let o = area_is p sp g.ends g.expect s.words w paced b l k there in let wt = o.writer_turn in let w₀ = wt.0 in let w₁ = wt.1 in
      let loaded : (g.ends.writes l).loaded ≡ (sp m).ended = ap (λ (y : WriteView). y.loaded) is ∙ h.1 ∙ sym c in
      let new = loads_as_writer p sp g.ends g.expect s.words w paced b l k there run loaded in
      let i : ℕ = io_place p.shape l (write_area p me.0 l) in let found : ℕ = get_or s.words i 0 in
      let given : ℕ = stored_id (g.ends.writes l) (delay_by k) in let late = late_is p l k there in
      let word : found ≡ need_data_word given = ap (λ n. get_or s.words (io_place p.shape l (area_of k (n + 1))) 0) (sym c)
      ∙ finds_need p sp g.ends g.expect s.words w paced b l k there run (omega arith) in
      let number : io_id_in found ≡ given = ap io_id_in word ∙ id_of 1 given (omega arith) in
      let first_low = paced.first m (w.from_in l k there) in
      let pool = pool_here p w l k there in
      let y : WriteView = record (write_of me.0 l) { loaded = write_cycle p me.0 l + 1 } in (
        loaded_as_writer p me.0 l,
        keeps,
        tt,
        holds_ends p s r id i found (loaded_as_writer p me.0 l) me.1 (new_write p g.ends l y)
            (inl (w.io_in l (write_area p me.0 l) k there (area_most k (write_cycle p me.0 l + 1))))
            (write_step p g s.words (set s.words i found) s.views id l k me.0 y at (length-set s.words i found) there now.2
            (now.4 refl) r.seated)
            (unread_word s.words i (λ ws. Buffers p sp (new_write p g.ends l y) g.expect ws)
            (subst (λ (z : WriteView). Buffers p sp (new_write p g.ends l z) g.expect s.words)
            (λ j. record (is j) { loaded = c j + 1 }) new)),
        (
          sym (is_after found),
          refl,
          it found (word ∙ ap (need_data_word) (sym number)) (
            number ∙ ap (λ (z : WriteView). stored_id z (delay_by k)) is ∙ ap (stored_id (write_of me.0 l)) (sym late),
            (λ e. number ∙ o.unnamed (delay_by k) (omega arith) (omega arith)),
            (λ e. let z = (b.links (pool_of p l) l (pool_at p (pool_of p l)) k pool.0 pool.1 there).named (delay_by k) (omega arith)
                (omega arith) in omega arith),
          ),
        ),
      )

  pub store_have_allowed : (l num : ℕ) → StoresHave p me.0 l num → ((found : ℕ) → after found ≡ have_stored p me.0 l num)
      → Allows (Holds p) slots id me (io_place p.shape l (write_area p me.0 l)) (λ _. have_data_word num)
      (λ _. Leaves after me (have_data_word num))
  store_have_allowed l num h is_after s r _ at fits =
      let g = r.whole in let w = wired_in p g s.words s.views r.seated in let k : ShapeLink = link_at p l in
      let there = link_there p l h.0.0 in let m : ℕ = writer_of p l in
      let now = now_running p s r id false me.0 m at h.0.2 h.0.3 in let run = now.1 in let c = now.0 in
      let ks = (r.seated.knows id me.0 at).ends in
      let is : g.ends.writes l ≡ write_of me.0 l = sym (got me.0.writes l (g.ends.writes l) (unwritten 0) (ks.of_write l k there now.2)) in
      let q : ℕ = pool_of p l in let x : PoolShape = pool_at p q in let pool = pool_here p w l k there in
      let blk : g.ends.blocks q num ≡ (let z : BlockView = Out (write_cycle p me.0 l + 1) in z) =
      sym (got me.0.blocks (block_at p q num) (g.ends.blocks q num) Free
      (ks.of_block q num x pool.0 h.3 (ap (holder p) pool.2 ∙ now.2))) ∙ h.4 in
      let paced = paces p g s.words w r.activations in let sp = spans p g in let i : ℕ = io_place p.shape l (write_area p me.0 l) in
      let word : ℕ = have_data_word num in
      let new = stores_have p sp g.ends g.expect s.words w paced r.buffers l k there num q x pool.0 pool.1
      (room_in p g s.words s.views r.seated) run (ap (λ (z : WriteView). z.loaded) is ∙ h.1 ∙ ap (λ n. n + 1) (sym c))
      (ap (λ (z : WriteView). z.stored) is ∙ h.2 ∙ sym c) h.3
      (blk ∙ ap (λ n. let z : BlockView = Out (n + 1) in z) (sym c)) in
      let y : WriteView = record (write_of me.0 l) { stored = write_cycle p me.0 l + 1; id = num; last = (write_of me.0 l).id } in (
        have_stored p me.0 l num,
        keeps,
        tt,
        holds_ends p s r id i word (have_stored p me.0 l num) me.1 (new_write p g.ends l y)
            (inl (w.io_in l (write_area p me.0 l) k there (area_most k (write_cycle p me.0 l + 1))))
            (write_step p g s.words (set s.words i word) s.views id l k me.0 y at (length-set s.words i word) there now.2
            (now.4 refl) r.seated)
            (subst (λ (z : WriteView × ℕ). Buffers p sp (new_write p g.ends l z.0) g.expect
            (set s.words (io_place p.shape l (area_of k (z.1 + 1))) word))
            (λ j. (record { loaded = (is j).loaded; stored = c j + 1; id = num; last = (is j).id }, c j)) new),
        (sym (is_after word), refl),
      )

  pub load_readers_allowed : (q n : ℕ) → LoadsReaders p me.0 q n → ((found : ℕ) → after found ≡ readers_loaded p me.0 q n found)
      → ((found : ℕ) → found ≡ 0 → FindsDue p me.0 q n → says found)
      → Allows (Holds p) slots id me (readers_place p.shape q n) (λ k. k) (Learns after says me)
  load_readers_allowed q n h is_after it s r _ at fits =
      let g = r.whole in let w = wired_in p g s.words s.views r.seated in let x : PoolShape = pool_at p q in
      let there = pool_there p q h.0.0 in let m : ℕ = filler_of p q in
      let now = now_running p s r id false me.0 m at h.0.3 h.0.4 in let run = now.1 in let c = now.0 in
      let ks = (r.seated.knows id me.0 at).ends in let paced = paces p g s.words w r.activations in let sp = spans p g in
      let stamp_due : ℕ = due_stamp p me.0 q in let most = busy_cycles_most p x in
      let block_is : (a : ℕ) → a < x.blocks → g.ends.blocks q a ≡ block_of p me.0 q a =
      λ a l. sym (got me.0.blocks (block_at p q a) (g.ends.blocks q a) Free (ks.of_block q a x there l now.2)) in
      let busy_low : (a k : ℕ) → a < x.blocks → g.ends.blocks q a ≡ Out k → stamp_due ≤ k =
      λ a k l o. let low = (r.buffers.blocks q a x there l).low (ap is_busy o) in let st = ap (stamp (sp m).ended) o in omega arith in
      let due : (busy_cycles p x ≤ fill_cycle p me.0 q + 1) × (g.ends.blocks q n ≡ Out stamp_due) = ⊎_elim (λ z. (z.1, block_is n h.0.1 ∙ z.0))
      (λ z. let later = z.2 in let begun = (r.buffers.pools q x there).reclaims.begun in
      let count : g.ends.reclaimed q ≡ reclaimed_of me.0 q = sym (got me.0.reclaimed q (g.ends.reclaimed q) 0 (ks.of_pool q x there now.2)) in
      let waits : g.ends.reclaimed q ≤ (sp m).ended = dite (dec_le (reclaimed_of me.0 q) (first p + 1)) (λ l. omega arith)
      (λ l. let u = z.1 (omega arith) in omega arith) in
      let out = due_out p sp g.ends g.expect s.words w r.buffers q x there waits in
      let same : (sp m).ended + 1 - busy_cycles p x ≡ stamp_due = omega arith in
      let there_out : block_of p me.0 q out.0 ≡ (let y : BlockView = Out stamp_due in y) = sym (block_is out.0 out.1) ∙ out.2
      ∙ ap (λ k. let y : BlockView = Out k in y) same in
      let oldest = z.0 out.0 stamp_due out.1 there_out in let o = oldest.1 in
      let low = busy_low n oldest.0 h.0.1 (block_is n h.0.1 ∙ o.is) in let high = o.oldest out.0 stamp_due out.1 there_out in
      (omega arith, block_is n h.0.1 ∙ o.is ∙ ap (λ k. let y : BlockView = Out k in y) (let y : oldest.0 ≡ stamp_due = omega arith in y))) h.2 in
      let soon = due.0 in
      let is : IsDue p sp g.ends g.expect s.words w paced r.buffers q n x there h.0.1 stamp_due = (due.1, omega arith) in
      let i : ℕ = readers_place p.shape q n in let found : ℕ = get_or s.words i 0 in
      let none = finds_none p sp g.ends g.expect s.words w paced r.buffers q n x there h.0.1 stamp_due is run in
      let written : (l : ℕ) → Contains x.links l → g.ends.writes l ≡ write_of me.0 l = λ l in_pool. let k = w.there q l x there in_pool in
      sym (got me.0.writes l (g.ends.writes l) (unwritten 0) (ks.of_write l k.0 k.1
      (ap (λ (z : PortId). holder p (p.index z.node)) k.2 ∙ now.2))) in
      let loaded : (l : ℕ) → Contains x.links l → (g.ends.writes l).loaded ≡ (sp m).ended + 1 = λ l in_pool.
      ap (λ (z : WriteView). z.loaded) (written l in_pool) ∙ h.1 l in_pool ∙ ap (λ z. z + 1) (sym c) in
      let new = frees p sp g.ends g.expect s.words w paced r.buffers q n x there h.0.1 stamp_due is run loaded in
      let freed : View = readers_loaded p me.0 q n 0 in let cycle : ℕ = fill_cycle p me.0 q + 1 in
      let free_ends : Ends = new_reclaim p (new_block p g.ends q n Free) q cycle in let half : View = view_block p me.0 q n Free in
      let same : readers_loaded p me.0 q n found ≡ freed = ap (readers_loaded p me.0 q n) none in
      let ws : List ℕ = set s.words i found in (
        freed,
        keeps,
        tt,
        holds_ends p s r id i found freed me.1 free_ends (inr (w.readers_in q n x there h.0.1).0)
            (subst (Seated p (with_ends p g free_ends) ws) (set-set s.views id half freed)
            (reclaim_step p (with_ends p g (new_block p g.ends q n Free)) ws (set s.views id half) id q cycle x half
            (set_there s.views id half me.0 at) there now.2 (now.4 refl)
            (block_step p g s.words ws s.views id q n x me.0 Free at (length-set s.words i found) there h.0.1 now.2 (now.4 refl) r.seated)))
            (unread_word s.words i (λ ws. Buffers p sp free_ends g.expect ws)
            (subst (λ k. Buffers p sp (new_reclaim p (new_block p g.ends q n Free) q (k + 1)) g.expect s.words) c new)),
        (
          sym (is_after found ∙ same),
          refl,
          it found none (
            record {
              inside = h.0.1;
              is = sym (block_is n h.0.1) ∙ due.1;
              oldest = λ a k l o. busy_low a k l (block_is a l ∙ o);
              before = λ a l o. let inside = h.0.1 in let low : a < x.blocks = omega arith in let mine = block_is a low ∙ o in
                  let e = (r.buffers.pools q x there).apart a n low inside (ap is_busy mine) (ap is_busy due.1)
                  (ap (stamp (sp m).ended) mine ∙ sym (ap (stamp (sp m).ended) due.1)) in absurd (omega arith);
            },
            (λ l in_pool late stored new_cycle. let wr = written l in_pool in
                let st : (g.ends.writes l).stored ≡ (sp m).ended = ap (λ (z : WriteView). z.stored) wr ∙ stored ∙ sym c in
                ap (λ (z : WriteView). stored_id z (delay_at p l)) (sym wr)
                ∙ due_named p sp g.ends g.expect s.words w paced r.buffers q n x there h.0.1 stamp_due is (omega arith) l in_pool late st),
            (λ two second. due_zero p sp g.ends g.expect s.words w paced r.buffers q n x there h.0.1 stamp_due is loaded two (c ∙ second)),
          ),
        ),
      )

  -- the samples of this cycle
  samples_now : (e : Samples) (c q : ℕ) → first p ≤ c → samples_of p e (c + 1) q ≡ samples_in p e c q
  samples_now e c q h = let a : ltb (first p) (c + 1) ≡ true = (grind arith) in let b : c + 1 - 1 ≡ c = omega arith in
      (λ i. cond (a i) (samples_in p e (b i) q) [])

  pub store_sample_allowed : (q n i word : ℕ) → StoresSample p me.0 q n i word → ((found : ℕ) → after found ≡ sample_stored p me.0 q n i)
      → Allows (Holds p) slots id me (sample_place p.shape q n i) (λ _. word) (λ _. Leaves after me word)
  store_sample_allowed q n i word h is_after s r _ at fits =
      let g = r.whole in let w = wired_in p g s.words s.views r.seated in let x : PoolShape = pool_at p q in
      let there = pool_there p q h.0.0 in let m : ℕ = filler_of p q in
      let now = now_running p s r id false me.0 m at h.0.3 h.0.4 in let run = now.1 in let c = now.0 in let k = r.seated.knows id me.0 at in
      let is : (a : ℕ) → a < x.blocks → g.ends.blocks q a ≡ block_of p me.0 q a =
      λ a l. sym (got me.0.blocks (block_at p q a) (g.ends.blocks q a) Free (k.ends.of_block q a x there l now.2)) in
      let paced = paces p g s.words w r.activations in let sp = spans p g in let place : ℕ = sample_place p.shape q n i in
      let can : CanFill p sp g.ends g.expect s.words w paced r.buffers q n x there h.0.1 i = ⊎_elim (λ z. inl (is n h.0.1 ∙ z))
      (λ z. inr (
        is n h.0.1 ∙ z.0,
        z.1,
        λ a l busy. subst
            (λ (y : ℕ × BlockView). (stamp y.0 y.1 < y.0 + 1) × (y.0 + 1 < stamp y.0 y.1 + busy_cycles p x)) (λ j. (sym c j, sym (is a l) j))
            (z.2 a l (ap is_busy (sym (is a l)) ∙ busy)),
      )) h.4 in
      let new = fills p sp g.ends g.expect s.words w paced r.buffers q n x there h.0.1 i
      (room_in p g s.words s.views r.seated) run h.2 can in
      let low = paced.first m (let z = (w.readers_in q n x there h.0.1).0 in h.0.3.2) in
      let text : packed (samples_of p g.expect ((sp m).ended + 1) q) i ≡ word = ap (λ z. packed (samples_of p g.expect (z + 1) q) i) c
      ∙ ap (λ z. packed z i) (samples_now g.expect (fill_cycle p me.0 q) q (omega arith))
      ∙ ap (λ (z : Samples). packed (samples_in p z (fill_cycle p me.0 q) q) i) (sym k.expects) ∙ sym h.3 in
      let y : BlockView = Filling (i + 1) in let r₁ = (w.readers_in q n x there h.0.1).0 in (
        sample_stored p me.0 q n i,
        keeps,
        tt,
        holds_ends p s r id place word (sample_stored p me.0 q n i) me.1 (new_block p g.ends q n y) (inr (omega arith))
            (block_step p g s.words (set s.words place word) s.views id q n x me.0 y at (length-set s.words place word) there h.0.1 now.2
            (now.4 refl) r.seated)
            (subst (λ z. Buffers p sp (new_block p g.ends q n y) g.expect (set s.words place z)) text new),
        (sym (is_after word), refl),
      )

  pub store_readers_allowed : (q n : ℕ) → StoresReaders p me.0 q n → ((found : ℕ) → after found ≡ readers_stored p me.0 q n)
      → Allows (Holds p) slots id me (readers_place p.shape q n) (λ _. length (pool_at p q).links)
      (λ _. Leaves after me (length (pool_at p q).links))
  store_readers_allowed q n h is_after s r _ at fits =
      let g = r.whole in let w = wired_in p g s.words s.views r.seated in let x : PoolShape = pool_at p q in
      let there = pool_there p q h.0.0 in let m : ℕ = filler_of p q in
      let now = now_running p s r id false me.0 m at h.0.3 h.0.4 in let run = now.1 in let c = now.0 in
      let is : g.ends.blocks q n ≡ (let z : BlockView = Filling x.words in z) =
      sym (got me.0.blocks (block_at p q n) (g.ends.blocks q n) Free
      ((r.seated.knows id me.0 at).ends.of_block q n x there h.0.1 now.2)) ∙ h.1 in
      let paced = paces p g s.words w r.activations in let sp = spans p g in let i : ℕ = readers_place p.shape q n in
      let word : ℕ = length x.links in
      let new = announces p sp g.ends g.expect s.words w paced r.buffers q n x there h.0.1 (room_in p g s.words s.views r.seated) run is in
      let y : BlockView = Out (fill_cycle p me.0 q + 1) in (
        readers_stored p me.0 q n,
        keeps,
        tt,
        holds_ends p s r id i word (readers_stored p me.0 q n) me.1 (new_block p g.ends q n y) (inr (w.readers_in q n x there h.0.1).0)
            (block_step p g s.words (set s.words i word) s.views id q n x me.0 y at (length-set s.words i word) there h.0.1 now.2
            (now.4 refl) r.seated)
            (subst (λ k. Buffers p sp (new_block p g.ends q n (Out (k + 1))) g.expect (set s.words i word)) c new),
        (sym (is_after word), refl),
      )
