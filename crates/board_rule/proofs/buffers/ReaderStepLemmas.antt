-- What each step of a reader on buffers allows. `b` is true for the driver's seat.
use Rattle.std.proofs.Common.{◌≡◌, ◌≢◌, ℕ, ◌+◌, ◌-◌, ◌%◌, ◌^◌, ◌<◌, ◌≤◌, inl, inr, Bool, List, Option, set, get_or, refl, sym, ap, ◌∙◌}
use Rattle.std.proofs.Common.{subst, arith, length-set, set-set}
use mathlib.Core.Logic.{dite}
use native.Mathlib.Decide.{ℕ_discrete, dec_le}
use Rattle.atomic_table.specs.Table.{Me, keeps, stepped, Allows}
use Rattle.pw_graph.specs.declared.shape.ShapeLink.{ShapeLink}
use Rattle.pw_graph.specs.declared.pools.PoolShape.{PoolShape}
use Rattle.pw_graph.specs.Layout.{io_place, event_place, event_count, readers_place, sample_place}
use Rattle.pw_graph.specs.Words.{io_id_in, have_data_word, need_data_word}
use Rattle.board_rule.specs.declared.view.ReadView.{ReadView}
use Rattle.board_rule.specs.declared.view.View.{View}
use Rattle.board_rule.specs.Layout.{BoardLayout, nodes, first}
use Rattle.board_rule.specs.View.{Whole, idle, unread}
use Rattle.board_rule.specs.buffers.SampleWords.{IsTable, packed, samples_of}
use Rattle.board_rule.specs.buffers.BufferRule.{Buffers}
use Rattle.board_rule.specs.buffers.Areas.{delay_by, area_of, stored_id}
use Rattle.board_rule.specs.buffers.BlockReadings.{delay_at}
use Rattle.board_rule.specs.buffers.Spans.{spans}
use Rattle.board_rule.specs.BoardRule.{Seated, Holds}
use Rattle.board_rule.specs.declared.view.BlockView.{BlockView}
use Rattle.board_rule.specs.declared.view.BlockView.TheVariants.{Out}
use Rattle.board_rule.specs.buffers.EndViews.{link_at, pool_at, pool_of, reader_of, read_of, view_read}
use Rattle.board_rule.specs.buffers.ReaderSteps.{read_cycle, read_area, LoadsAsReader, loaded_as_reader, IsPublished, LoadsSample, sample_loaded}
use Rattle.board_rule.specs.buffers.ReaderSteps.{LowersReaders, readers_lowered}
use Rattle.board_rule.specs.buffers.ReaderSteps.{samples_read, StoresNeed, need_stored}
use Rattle.board_rule.specs.working.Plays.{Leaves, Learns}
use Rattle.board_rule.proofs.buffers.WiredLemmas.{LinkAt, Wired, late_is}
use Rattle.board_rule.proofs.buffers.DelayByLemmas.{area_most}
use Rattle.board_rule.proofs.buffers.PacedLemmas.{Paced, paces}
use Rattle.board_rule.proofs.buffers.SpanLemmas.{node_over, node_begun, over_at, begun_at, wired_in}
use Rattle.board_rule.proofs.start.SeatLemmas.{set_there, reads_set, words_step}
use Rattle.board_rule.proofs.buffers.HolderLemmas.{got, link_there, pool_here, now_running, with_ends, new_read, read_step}
use Rattle.board_rule.proofs.buffers.KeepLemmas.{holds_ends}
use Rattle.board_rule.proofs.buffers.WriterStepLemmas.{unread_word, room_in, id_of}
use Rattle.board_rule.proofs.buffers.AreaLemmas.{link_is as area_is, wrote_now, finds_have, finds_number, finds_zero, finds_out, loads_as_reader}
use Rattle.board_rule.proofs.buffers.AreaLemmas.{stores_need}
use Rattle.board_rule.proofs.buffers.ReaderLemmas.{reads_block, finds_sample, finds_some, lowers_block}

-- where a link's reader works, the seat of a follower is split off, and with it the samples are named
has_table : (p : BoardLayout) (g : Whole) (words : List ℕ) (views : List View) → Seated p g words views → Paced p (spans p g) → (l : ℕ)
    (k : ShapeLink) → LinkAt p l k → Wired p
    → (spans p g (p.index k.to.node)).begun ≡ (spans p g (p.index k.to.node)).ended + 1 → IsTable p g.expect
has_table p g words views s paced l k at w run = let n : ℕ = p.index k.to.node in let m : ℕ = p.index k.from.node in
    let low = paced.first n (w.to_in l k at) in
    dite (ℕ_discrete n p.driver)
    (λ q. by m (w.from_in l k at) (w.from_follows l k at) (λ i. let a = over_at p g m (w.from_follows l k at) in
    let b : node_over (g.nodes m) ≡ first p + 0 = ap node_over i in let c = paced.last m (w.from_in l k at) (w.from_follows l k at) in
    let d : (spans p g n).begun ≡ (spans p g p.driver).begun = ap (λ j. (spans p g j).begun) q in absurd (omega arith)))
    (λ q. by n (w.to_in l k at) q (λ i. let a = begun_at p g n q in let b : node_begun (g.nodes n) ≡ first p + 0 = ap node_begun i in
    absurd (omega arith)))
  where
    by : (m : ℕ) → m < nodes p → m ≢ p.driver → (g.nodes m ≡ idle (first p) → ⊥) → IsTable p g.expect
    by m h o busy = dite (dec_le (p.seat_of m + 1) g.split) (λ z. s.table m h o (omega arith))
        (λ z. absurd (busy (s.unsplit m h o (omega arith))))

module _ (p : BoardLayout) (slots id : ℕ) (me : Me (Option ℕ) View) (after : ℕ → View) (says : ℕ → Type 0) where
  pub load_reader_allowed : (b : Bool) (l : ℕ) → LoadsAsReader b p me.0 l → ((found : ℕ) → after found ≡ loaded_as_reader b p me.0 l found)
      → ((found : ℕ) → IsPublished b p me.0 l found → says found)
      → Allows (Holds p) slots id me (io_place p.shape l (read_area b p me.0 l)) (λ n. n) (Learns after says me)
  load_reader_allowed b l h is_after it s r _ at fits =
      let g = r.whole in let w = wired_in p g s.words s.views r.seated in let k : ShapeLink = link_at p l in
      let there = link_there p l h.0.0 in let m : ℕ = reader_of p l in
      let now = now_running p s r id b me.0 m at h.0.2 h.0.3 in let run = now.1 in let c = now.0 in
      let is : g.ends.reads l ≡ read_of me.0 l = sym (got me.0.reads l (g.ends.reads l) (unread 0)
      ((r.seated.knows id me.0 at).ends.of_read l k there now.2)) in
      let paced = paces p g s.words w r.activations in let bs = r.buffers in let sp = spans p g in
      let o = area_is p sp g.ends g.expect s.words w paced bs l k there in let rt = o.reader_turn in let r₀ = rt.0 in let r₁ = rt.1 in
      let r₂ = rt.2 in
      let loaded : (g.ends.reads l).loaded ≡ (sp m).ended = ap (λ (y : ReadView). y.loaded) is ∙ h.1 ∙ sym c in
      let new = loads_as_reader p sp g.ends g.expect s.words w paced bs l k there run loaded in
      let i : ℕ = io_place p.shape l (read_area b p me.0 l) in let found : ℕ = get_or s.words i 0 in
      let here : i ≡ io_place p.shape l (area_of k (sp m).ended) = ap (λ n. io_place p.shape l (area_of k n)) (sym c) in
      let wrote : ℕ = stored_id (g.ends.writes l) (wrote_now p sp g.ends g.expect s.words w paced bs l k there run).0 in
      let word : found ≡ have_data_word wrote = ap (λ n. get_or s.words n 0) here
      ∙ finds_have p sp g.ends g.expect s.words w paced bs l k there run (omega arith) in
      let number : io_id_in found ≡ wrote = ap io_id_in word ∙ id_of 2 wrote (omega arith) in
      let pool = pool_here p w l k there in
      let small = finds_number p sp g.ends g.expect s.words w paced bs l k there run (pool_of p l)
      (pool_at p (pool_of p l)) pool.0 pool.1 in
      let y : ReadView = record (read_of me.0 l) { loaded = read_cycle b p me.0 l + 1; id = io_id_in found } in (
        loaded_as_reader b p me.0 l found,
        keeps,
        tt,
        holds_ends p s r id i found (loaded_as_reader b p me.0 l found) me.1 (new_read p g.ends l y)
            (inl (w.io_in l (read_area b p me.0 l) k there (area_most k (read_cycle b p me.0 l))))
            (subst (Seated p (with_ends p g (new_read p g.ends l y)) (set s.words i found))
            (set-set s.views id (view_read me.0 l y) (loaded_as_reader b p me.0 l found))
            (words_step p (with_ends p g (new_read p g.ends l y)) (set s.words i found) (set s.words i found)
            (set s.views id (view_read me.0 l y)) id (view_read me.0 l y) (set me.0.words_read l 0)
            (set_there s.views id (view_read me.0 l y) me.0 at) refl
            (λ low. reads_set p me.0.words_read l 0 ((r.seated.knows id me.0 at).reads low) (omega arith))
            (read_step p g s.words (set s.words i found) s.views id l k me.0 y at (length-set s.words i found) there now.2 now.3 r.seated)))
            (unread_word s.words i (λ ws. Buffers p sp (new_read p g.ends l y) g.expect ws)
            (subst (λ (z : ReadView). Buffers p sp (new_read p g.ends l z) g.expect s.words)
            (λ j. record (is j) { loaded = c j + 1; id = io_id_in (get_or s.words (sym here j) 0) }) new)),
        (
          sym (is_after found),
          refl,
          it found (
            word ∙ ap (have_data_word) (sym number),
            (omega arith),
            (λ late start. number ∙ finds_zero p sp g.ends g.expect s.words w paced bs l k there run (pool_of p l)
                (pool_at p (pool_of p l)) pool.0 pool.1 (sym (late_is p l k there) ∙ late) (c ∙ start)),
            (
              s,
              r,
              (id, at),
              ap (g.ends.blocks (pool_of p l)) number
                  ∙ finds_out p sp g.ends g.expect s.words w paced bs l k there run (pool_of p l) (pool_at p (pool_of p l)) pool.0 pool.1
                  ∙ ap (λ n. let z : BlockView = Out n in z) (let late = late_is p l k there in
                  let z : (sp m).ended + 1 - delay_by k ≡ read_cycle b p me.0 l + 1 - delay_at p l = omega arith in z),
            ),
          ),
        ),
      )

  pub store_need_allowed : (b : Bool) (l num : ℕ) → StoresNeed b p me.0 l num → ((found : ℕ) → after found ≡ need_stored b p me.0 l)
      → Allows (Holds p) slots id me (io_place p.shape l (read_area b p me.0 l)) (λ _. need_data_word num)
      (λ _. Leaves after me (need_data_word num))
  store_need_allowed b l num h is_after s r _ at fits =
      let g = r.whole in let w = wired_in p g s.words s.views r.seated in let k : ShapeLink = link_at p l in
      let there = link_there p l h.0.0.0 in let m : ℕ = reader_of p l in
      let now = now_running p s r id b me.0 m at h.0.0.2 h.0.0.3 in let run = now.1 in let c = now.0 in
      let is : g.ends.reads l ≡ read_of me.0 l = sym (got me.0.reads l (g.ends.reads l) (unread 0)
      ((r.seated.knows id me.0 at).ends.of_read l k there now.2)) in
      let paced = paces p g s.words w r.activations in let sp = spans p g in let i : ℕ = io_place p.shape l (read_area b p me.0 l) in
      let word : ℕ = need_data_word num in
      let new = stores_need p sp g.ends g.expect s.words w paced r.buffers l k there num (room_in p g s.words s.views r.seated) run
      (ap (λ (z : ReadView). z.lowered) is ∙ h.1 ∙ ap (λ n. n + 1) (sym c)) (ap (λ (z : ReadView). z.stored) is ∙ h.2 ∙ sym c)
      (h.0.3 ∙ ap (λ (z : ReadView). z.id) (sym is)) in
      let y : ReadView = record (read_of me.0 l) { stored = read_cycle b p me.0 l + 1 } in (
        need_stored b p me.0 l,
        keeps,
        tt,
        holds_ends p s r id i word (need_stored b p me.0 l) me.1 (new_read p g.ends l y)
            (inl (w.io_in l (read_area b p me.0 l) k there (area_most k (read_cycle b p me.0 l))))
            (read_step p g s.words (set s.words i word) s.views id l k me.0 y at (length-set s.words i word) there now.2 now.3 r.seated)
            (subst (λ (z : ReadView × ℕ). Buffers p sp (new_read p g.ends l z.0) g.expect
            (set s.words (io_place p.shape l (area_of k z.1)) word))
            (λ j. (record (is j) { stored = c j + 1 }, c j)) new),
        (sym (is_after word), refl),
      )

  pub load_sample_allowed : (b : Bool) (l num i : ℕ) → LoadsSample b p me.0 l num i → i < (pool_at p (pool_of p l)).words
      → ((found : ℕ) → after found ≡ sample_loaded b p me.0 l i)
      → ((found : ℕ) → found ≡ packed (samples_read b p me.0 l) i → IsTable p me.0.expect → says found)
      → Allows (Holds p) slots id me (sample_place p.shape (pool_of p l) num i) (λ n. n) (Learns after says me)
  load_sample_allowed b l num i hear short is_after it s r _ at fits =
      let h = hear.0 in let g = r.whole in let w = wired_in p g s.words s.views r.seated in let k : ShapeLink = link_at p l in
      let there = link_there p l h.0.0.0 in let m : ℕ = reader_of p l in
      let now = now_running p s r id b me.0 m at h.0.0.2 h.0.0.3 in let run = now.1 in let c = now.0 in
      let ks = r.seated.knows id me.0 at in
      let is : g.ends.reads l ≡ read_of me.0 l = sym (got me.0.reads l (g.ends.reads l) (unread 0) (ks.ends.of_read l k there now.2)) in
      let paced = paces p g s.words w r.activations in let sp = spans p g in let q : ℕ = pool_of p l in let x : PoolShape = pool_at p q in
      let pool = pool_here p w l k there in
      let loaded : (g.ends.reads l).loaded ≡ (sp m).ended + 1 = ap (λ (z : ReadView). z.loaded) is ∙ h.0.1 ∙ ap (λ n. n + 1) (sym c) in
      let here : (g.ends.reads l).lowered ≡ (sp m).ended = ap (λ (z : ReadView). z.lowered) is ∙ h.1 ∙ sym c in
      let number : num ≡ (g.ends.reads l).id = h.0.3 ∙ ap (λ (z : ReadView). z.id) (sym is) in
      let place : ℕ = sample_place p.shape q num i in let found : ℕ = get_or s.words place 0 in
      let late = late_is p l k there in let on_time : (sp m).ended + 1 - delay_by k ≡ read_cycle b p me.0 l + 1 - delay_at p l = omega arith in
      let word : found ≡ packed (samples_read b p me.0 l) i = ap (λ n. get_or s.words (sample_place p.shape q n i) 0) number
      ∙ finds_sample p sp g.ends g.expect s.words w paced r.buffers l k there q x pool.0 pool.1 run loaded here i short
      ∙ (λ j. packed (samples_of p (sym ks.expects j) (on_time j) q) i) in (
        sample_loaded b p me.0 l i,
        keeps,
        tt,
        unread_word s.words place (λ ws. Holds p record { words = ws; homes = s.homes; views = set s.views id (sample_loaded b p me.0 l i) }) record {
          whole = g;
          seated = words_step p g s.words s.words s.views id me.0 (set me.0.words_read l (i + 1)) at refl
              (λ low. reads_set p me.0.words_read l (i + 1) (ks.reads low) (omega arith)) r.seated;
          activations = r.activations;
          events = r.events;
          buffers = r.buffers;
        },
        (sym (is_after found), refl, it found word (subst (IsTable p) (sym ks.expects) (has_table p g s.words s.views r.seated paced l k there w run))),
      )

  pub lower_readers_allowed : (b : Bool) (l num : ℕ) → LowersReaders b p me.0 l num → ((found : ℕ) → after found ≡ readers_lowered b p me.0 l)
      → ((found : ℕ) → 0 < found → says found)
      → Allows (Holds p) slots id me (readers_place p.shape (pool_of p l) num) (λ n. (n + (2 ^ 64 - 1)) % 2 ^ 64) (Learns after says me)
  lower_readers_allowed b l num all is_after it s r _ at fits =
      let h = all.0 in let g = r.whole in let w = wired_in p g s.words s.views r.seated in let k : ShapeLink = link_at p l in
      let there = link_there p l h.0.0.0 in let m : ℕ = reader_of p l in
      let now = now_running p s r id b me.0 m at h.0.0.2 h.0.0.3 in let run = now.1 in let c = now.0 in
      let is : g.ends.reads l ≡ read_of me.0 l = sym (got me.0.reads l (g.ends.reads l) (unread 0)
      ((r.seated.knows id me.0 at).ends.of_read l k there now.2)) in
      let paced = paces p g s.words w r.activations in let sp = spans p g in let q : ℕ = pool_of p l in let x : PoolShape = pool_at p q in
      let pool = pool_here p w l k there in
      let loaded : (g.ends.reads l).loaded ≡ (sp m).ended + 1 = ap (λ (z : ReadView). z.loaded) is ∙ h.0.1 ∙ ap (λ n. n + 1) (sym c) in
      let here : (g.ends.reads l).lowered ≡ (sp m).ended = ap (λ (z : ReadView). z.lowered) is ∙ h.1 ∙ sym c in
      let number : num ≡ (g.ends.reads l).id = h.0.3 ∙ ap (λ (z : ReadView). z.id) (sym is) in
      let place : ℕ = readers_place p.shape q num in let found : ℕ = get_or s.words place 0 in
      let same : get_or s.words (readers_place p.shape q (g.ends.reads l).id) 0 ≡ found =
      ap (λ n. get_or s.words (readers_place p.shape q n) 0) (sym number) in
      let some = finds_some p sp g.ends g.expect s.words w paced r.buffers l k there q x pool.0 pool.1 run loaded here in
      let block = reads_block p sp g.ends g.expect s.words w paced r.buffers l k there q x pool.0 pool.1 run loaded here in
      let new = lowers_block p sp g.ends g.expect s.words w paced r.buffers l k there q x pool.0 pool.1 run loaded here (found - 1)
      (room_in p g s.words s.views r.seated) (omega arith) in
      let word : (found + (2 ^ 64 - 1)) % 2 ^ 64 ≡ found - 1 = omega arith in
      let y : ReadView = record (read_of me.0 l) { lowered = read_cycle b p me.0 l + 1 } in (
        readers_lowered b p me.0 l,
        keeps,
        tt,
        subst (λ n. Holds p (stepped s place n id me.1 (readers_lowered b p me.0 l) keeps)) (sym word)
            (holds_ends p s r id place (found - 1) (readers_lowered b p me.0 l) me.1 (new_read p g.ends l y)
            (inr (subst (λ n. event_place p.shape (event_count p.shape) ≤ readers_place p.shape q n) (sym number)
            (w.readers_in q (g.ends.reads l).id x pool.0 block.0).0))
            (read_step p g s.words (set s.words place (found - 1)) s.views id l k me.0 y at
            (length-set s.words place (found - 1)) there now.2 now.3 r.seated)
            (subst (λ (z : ReadView × ℕ). Buffers p sp (new_read p g.ends l z.0) g.expect
            (set s.words (readers_place p.shape q z.1) (found - 1))) (λ j. (record (is j) { lowered = c j + 1 }, sym number j)) new)),
        (sym (is_after found), refl, it found (omega arith)),
      )
