-- Each kind of step of a writer on the words of a pool keeps the buffer rule, and finds what the rule says.
use Rattle.std.proofs.Common.{◌≡◌, ◌≢◌, ℕ, ◌+◌, ◌<◌, ◌≤◌, ◌⊎◌, ⊎_elim, true, true≢false, List, length, set, get_or, refl, sym, ap}
use Rattle.std.proofs.Common.{◌∙◌, subst, arith, get_or-set_other, get_or-set_same}
use Rattle.std.specs.Prelude.{Contains}
use mathlib.Core.Logic.{dite}
use native.Mathlib.Decide.{ℕ_discrete}
use Rattle.pw_graph.specs.declared.ids.PortId.{PortId}
use Rattle.pw_graph.specs.declared.shape.ShapeLink.{ShapeLink}
use Rattle.pw_graph.specs.declared.pools.PoolShape.{PoolShape}
use Rattle.pw_graph.specs.Layout.{readers_place, sample_place, word_count}
use Rattle.board_rule.specs.declared.view.BlockView.{BlockView}
use Rattle.board_rule.specs.declared.view.BlockView.TheVariants.{Free, Filling, Out}
use Rattle.board_rule.specs.Layout.{BoardLayout, first}
use Rattle.board_rule.specs.start.StartViews.{Samples}
use Rattle.board_rule.specs.buffers.SampleWords.{packed, samples_of}
use Rattle.board_rule.specs.buffers.Areas.{Span}
use Rattle.board_rule.specs.buffers.Areas.{stored_id}
use Rattle.board_rule.specs.View.{put}
use Rattle.board_rule.specs.buffers.BufferRule.{NamesBlocks, BlockOk, Reclaims, Buffers}
use Rattle.board_rule.specs.buffers.BlockReadings.{Ends, is_busy, stamp, filled, delay_at, busy_cycles, readers_of}
use Rattle.board_rule.proofs.buffers.WiredLemmas.{LinkAt, PoolAt, Wired, made, late_is, busy_cycles_some, delayed_link}
use Rattle.board_rule.proofs.buffers.PacedLemmas.{Paced}
use Rattle.board_rule.proofs.buffers.ReadersOfLemmas.{none_waiting, all_waiting}
use Rattle.board_rule.proofs.buffers.ReclaimLemmas.{reclaimed_most}
use Rattle.board_rule.proofs.start.SeatLemmas.{put_here, put_else}
use Rattle.board_rule.proofs.buffers.BlockLemmas.{with_block, with_free, names_put, names_later, reclaims_put, AreNear, buffers_block}

fill_out : (j n : ℕ) → (let z : BlockView = Filling j in z) ≡ Out n → ⊥
fill_out j n z = (cc)

free_out : (n : ℕ) → (let z : BlockView = Free in z) ≡ Out n → ⊥
free_out n z = (cc)

module _ (p : BoardLayout) (s : ℕ → Span) (ends : Ends) (e : Samples) (ws : List ℕ) (w : Wired p) (paced : Paced p s)
    (b : Buffers p s ends e ws) where
  module _ (q n : ℕ) (x : PoolShape) (at : PoolAt p q x) (inside : n < x.blocks) where
    abbrev filler : Span
    filler = s (p.index x.port.node)

    abbrev base : ℕ
    base = readers_place p.shape q n

    block_is : BlockOk p q n x filler ends.reads e (ends.blocks q n) ws
    block_is = b.blocks q n x at inside

    -- a link of the pool is written by the pool's node
    spans_of : (l : ℕ) → Contains x.links l → (k : ShapeLink) × LinkAt p l k × (s (p.index k.from.node) ≡ filler)
    spans_of l c = let k = w.there q l x at c in (k.0, k.1, ap (λ (z : PortId). s (p.index z.node)) k.2)

    -- where the writer runs, each reader has ended the cycle before
    readers_ended : filler.begun ≡ filler.ended + 1 → (l : ℕ) → Contains x.links l → filler.ended ≤ (ends.reads l).lowered
    readers_ended run l c = let k = spans_of l c in let o = b.links q l x k.0 at c k.1 in let rt = o.reader_turn in let r₀ = rt.0 in
        let r₁ = rt.1 in
        let n = paced.near (p.index k.0.from.node) (p.index k.0.to.node) (w.from_in l k.0 k.1) (w.to_in l k.0 k.1) in
        let f : (s (p.index k.0.from.node)).begun ≡ filler.begun = ap (λ (z : Span). z.begun) k.2 in omega arith

    -- and no reader has yet begun the reading cycle of this one
    readers_wait : (l : ℕ) → Contains x.links l → (ends.reads l).lowered ≤ filler.ended + delay_at p l
    readers_wait l c = let k = spans_of l c in let o = b.links q l x k.0 at c k.1 in let rt = o.reader_turn in let r₂ = rt.2 in
        let r₃ = rt.3 in let t = late_is p l k.0 k.1 in
        let d = paced.ordered l k.0 k.1 in let f : (s (p.index k.0.from.node)).ended ≡ filler.ended = ap (λ (z : Span). z.ended) k.2 in
        omega arith

    -- the pool is reclaimed no further than its node has begun
    reclaimed_soon : filler.begun ≡ filler.ended + 1 → ends.reclaimed q ≤ filler.ended + 1
    reclaimed_soon run = let l = w.linked q x at in let k = spans_of l.0 l.1 in let wt = (b.links q l.0 x k.0 at l.1 k.1).writer_turn in
        let w₂ = wt.2 in let f : (s (p.index k.0.from.node)).begun ≡ filler.begun = ap (λ (z : Span). z.begun) k.2 in
        let first_low = paced.first (p.index x.port.node) (made p w q x at).0 in
        reclaimed_most p x (ends.reclaimed q) ends.writes (ends.blocks q) (b.pools q x at).reclaims l.0 (filler.ended + 1) l.1 (omega arith) (omega arith)

    -- the block is due: it is busy for no longer than this cycle
    abbrev pub IsDue : ℕ → Type 0
    IsDue m = (ends.blocks q n ≡ Out m) × (m + busy_cycles p x ≡ filler.ended + 1)

    -- it is the block that each link which is as late as the pool names in its area of this cycle
    pub due_named : (m : ℕ) → IsDue m → first p < filler.ended → (l : ℕ) → Contains x.links l → delay_at p l + 1 ≡ busy_cycles p x
        → (ends.writes l).stored ≡ filler.ended → stored_id (ends.writes l) (delay_at p l) ≡ n
    due_named m due new l c late stored = let soon = due.1 in
        ((b.pools q x at).named l c).names (delay_at p l) m n (omega arith) (omega arith) (omega arith) inside due.0

    -- it is block 0 in the second cycle where the pool has a delayed link
    pub due_zero : (m : ℕ) → IsDue m → ((l : ℕ) → Contains x.links l → (ends.writes l).loaded ≡ filler.ended + 1) → busy_cycles p x ≡ 2
        → filler.ended ≡ first p + 1 → n ≡ 0
    due_zero m due loaded two second = let late = delayed_link p q x at (omega arith) in let l : ℕ = late.0 in let k = spans_of l late.1 in
        let o = b.links q l x k.0 at late.1 k.1 in let ok = b.pools q x at in let names = ok.named l late.1 in
        let wt = o.writer_turn in let w₀ = wt.0 in let w₁ = wt.1 in let now = loaded l late.1 in let soon = due.1 in let one = late.2 in
        let ended : (s (p.index k.0.from.node)).ended ≡ filler.ended = ap (λ (z : Span). z.ended) k.2 in
        let stored : (ends.writes l).stored ≡ filler.ended = dite (ℕ_discrete (ends.writes l).stored filler.ended) (λ z. z)
        (λ z. let low = reclaimed_most p x (ends.reclaimed q) ends.writes (ends.blocks q) ok.reclaims l (filler.ended + 1) late.1 (omega arith) (omega arith) in
        let is = names.out 0 (filler.ended + 1) (omega arith) (omega arith) (omega arith) (omega arith) in
        let st : stamp filler.ended (ends.blocks q (stored_id (ends.writes l) 0)) ≡ filler.ended + 1 = ap (stamp filler.ended) is in
        let sn : stamp filler.ended (ends.blocks q n) ≡ m = ap (stamp filler.ended) due.0 in
        let e = late_is p l k.0 k.1 in
        let near = ok.near (stored_id (ends.writes l) 0) n (o.named 0 (omega arith) (omega arith)) inside (ap is_busy is) (ap is_busy due.0) in
        absurd (omega arith)) in
        sym (due_named m due (omega arith) l late.1 (omega arith) stored) ∙ ap (stored_id (ends.writes l)) one
        ∙ names.zero one 1 (omega arith) (omega arith)

    -- the writer finds that all readers of it are gone
    pub finds_none : (m : ℕ) → IsDue m → filler.begun ≡ filler.ended + 1 → get_or ws base 0 ≡ 0
    finds_none m due run = let late = due.1 in block_is.readers ∙ ap (readers_of p ends.reads x) due.0
        ∙ none_waiting p x ends.reads m (λ l c. let a = readers_ended run l c in let d = w.delay_in q l x at c in omega arith)

    -- and frees it, once all links of the pool are loaded in this cycle
    pub frees : (m : ℕ) → IsDue m → filler.begun ≡ filler.ended + 1
        → ((l : ℕ) → Contains x.links l → (ends.writes l).loaded ≡ filler.ended + 1)
        → Buffers p s (with_free ends q n (filler.ended + 1)) e ws
    frees m due run loaded = let late = due.1 in let first_low = paced.first (p.index x.port.node) (made p w q x at).0 in
        let now = put_here ends.reclaimed q (filler.ended + 1) in let ok = b.pools q x at in let soon = reclaimed_soon run in
        buffers_block p s ends e ws ws w q n x at inside b Free (put ends.reclaimed q (filler.ended + 1))
        (λ i o. put_else ends.reclaimed q i (filler.ended + 1) o)
        (subst (λ k. Reclaims p x k ends.writes (put (ends.blocks q) n Free)) (sym now) record {
          begun = omega arith;
          turn = λ l c. let k = spans_of l c in let wt = (b.links q l x k.0 at c k.1).writer_turn in let w₁ = wt.1 in let ld = loaded l c in
              (omega arith, λ _. omega arith);
          until = λ c k h is. dite (ℕ_discrete c n)
              (λ u. absurd (free_out k (sym (put_here (ends.blocks q) n Free) ∙ ap (put (ends.blocks q) n Free) (sym u) ∙ is)))
              (λ u. let out : ends.blocks q c ≡ (let z : BlockView = Out k in z) = sym (put_else (ends.blocks q) n c Free u) ∙ is in
              let low = (b.blocks q c x at h).low (ap is_busy out) in let st = ap (stamp filler.ended) out in dite (ℕ_discrete k m)
              (λ z. absurd (u (ok.apart c n h inside (ap is_busy out) (ap is_busy due.0) (st ∙ z ∙ sym (ap (stamp filler.ended) due.0)))))
              (λ z. omega arith));
        })
        record {
          low = λ z. absurd (true≢false (sym z));
          high = λ z. absurd (true≢false (sym z));
          full = omega arith;
          readers = finds_none m due run;
          samples = λ i l. absurd (omega arith);
        }
        (λ l c. subst (λ k. NamesBlocks p x (delay_at p l) k (ends.writes l) (put (ends.blocks q) n Free)) (sym now)
        (names_put p x (delay_at p l) (filler.ended + 1) n (ends.writes l) (ends.blocks q) Free
        (names_later p x (delay_at p l) (ends.reclaimed q) (filler.ended + 1) (ends.writes l) (ends.blocks q) soon (ok.named l c))
        (λ t h is. let same : t ≡ m = ap (stamp 0) (sym is ∙ due.0) in absurd (omega arith))
        (λ a t h i j z. absurd (free_out t z))))
        (λ a ha o ba z. absurd (true≢false (sym z))) (λ j o. refl)

    -- nothing of the pool is of this cycle yet, or it is being filled up to the index i
    abbrev pub CanFill : ℕ → Type 0
    CanFill i = (ends.blocks q n ≡ Filling i) ⊎ ((ends.blocks q n ≡ Free) × (i ≡ 0)
        × ((a : ℕ) → a < x.blocks → is_busy (ends.blocks q a) ≡ true → (stamp filler.ended (ends.blocks q a) < filler.ended + 1)
        × (filler.ended + 1 < stamp filler.ended (ends.blocks q a) + busy_cycles p x)))

    abbrev word : ℕ → ℕ
    word i = packed (samples_of p e (filler.ended + 1) q) i

    -- a block that is being filled is near each other one
    filling_near : (i : ℕ) → ends.blocks q n ≡ Filling i → (y : BlockView) → stamp filler.ended y ≡ filler.ended + 1 → (a : ℕ) → a < x.blocks
        → a ≢ n → is_busy (ends.blocks q a) ≡ true → AreNear p x filler.ended (ends.blocks q a) y
    filling_near i f y now a ha o ba = let k = b.pools q x at in
        let st : stamp filler.ended (ends.blocks q n) ≡ filler.ended + 1 = ap (stamp filler.ended) f in
        let h = k.near a n ha inside ba (ap is_busy f) in let g = k.near n a inside ha (ap is_busy f) ba in (
          (λ z. o (k.apart a n ha inside ba (ap is_busy f) (omega arith))),
          omega arith,
          omega arith,
        )

    pub fills : (i : ℕ) → word_count p.shape ≤ length ws → filler.begun ≡ filler.ended + 1 → i < x.words → CanFill i
        → Buffers p s (with_block ends q n (Filling (i + 1))) e (set ws (sample_place p.shape q n i) (word i))
    fills i room run short can = let r = (w.readers_in q n x at inside).1 in let some = busy_cycles_some p x in
        buffers_block p s ends e ws (set ws (sample_place p.shape q n i) (word i)) w q n x at inside b (Filling (i + 1)) ends.reclaimed
        (λ j o. refl) (reclaims_put p x (ends.reclaimed q) n ends.writes (ends.blocks q) (Filling (i + 1)) (b.pools q x at).reclaims
        (λ m z. absurd (fill_out (i + 1) m z)))
        record {
          low = λ z. omega arith;
          high = λ z. omega arith;
          full = omega arith;
          readers = get_or-set_other ws (sample_place p.shape q n i) base (word i) 0 (λ z. omega arith) ∙ block_is.readers
              ∙ ⊎_elim (λ (f : ends.blocks q n ≡ Filling i). ap (readers_of p ends.reads x) f)
              (λ f. ap (readers_of p ends.reads x) f.0) can;
          samples = λ j m. dite (ℕ_discrete j i)
              (λ z. ap (λ v. get_or (set ws (sample_place p.shape q n i) (word i)) (sample_place p.shape q n v) 0) z
              ∙ get_or-set_same ws (sample_place p.shape q n i) (word i) 0 (omega arith) ∙ ap word (sym z))
              (λ z. get_or-set_other ws (sample_place p.shape q n i) (sample_place p.shape q n j) (word i) 0 (λ v. z (omega arith))
              ∙ early j (omega arith));
        }
        (λ l c. names_put p x (delay_at p l) (ends.reclaimed q) n (ends.writes l) (ends.blocks q) (Filling (i + 1))
        ((b.pools q x at).named l c)
        (λ t h is. ⊎_elim (λ (f : ends.blocks q n ≡ Filling i). fill_out i t (sym f ∙ is)) (λ f. free_out t (sym f.0 ∙ is)) can)
        (λ a t h u v z. absurd (fill_out (i + 1) t z)))
        (λ a ha o ba _. ⊎_elim (λ (f : ends.blocks q n ≡ Filling i). filling_near i f (Filling (i + 1)) refl a ha o ba)
        (λ f. let h = f.2 a ha ba in let h₀ = h.0 in let h₁ = h.1 in ((λ z. absurd (omega arith)), omega arith, omega arith)) can)
        (λ j o. get_or-set_other ws (sample_place p.shape q n i) j (word i) 0 (λ z. o (omega arith) (omega arith)))
      where
        early : (j : ℕ) → j < i → get_or ws (sample_place p.shape q n j) 0 ≡ word j
        early j m = ⊎_elim
            (λ (f : ends.blocks q n ≡ Filling i). block_is.samples j
            (let z : filled x.words (ends.blocks q n) ≡ i = ap (filled x.words) f in omega arith)
            ∙ ap (λ z. packed (samples_of p e (stamp filler.ended z) q) j) f)
            (λ f. absurd (let z : i ≡ 0 = f.1 in omega arith)) can

    -- a filled block is announced to all readers
    pub announces : word_count p.shape ≤ length ws → filler.begun ≡ filler.ended + 1 → ends.blocks q n ≡ Filling x.words
        → Buffers p s (with_block ends q n (Out (filler.ended + 1))) e (set ws base (length x.links))
    announces room run full = let r = (w.readers_in q n x at inside).1 in let some = busy_cycles_some p x in
        let soon = reclaimed_soon run in
        buffers_block p s ends e ws (set ws base (length x.links)) w q n x at inside b (Out (filler.ended + 1)) ends.reclaimed
        (λ j o. refl) (reclaims_put p x (ends.reclaimed q) n ends.writes (ends.blocks q) (Out (filler.ended + 1)) (b.pools q x at).reclaims
        (λ m z. let now : filler.ended + 1 ≡ m = ap (stamp 0) z in omega arith))
        record {
          low = λ z. omega arith;
          high = λ z. omega arith;
          full = omega arith;
          readers = get_or-set_same ws base (length x.links) 0 (omega arith)
              ∙ sym (all_waiting p x ends.reads (filler.ended + 1) (λ l c. let a = readers_wait l c in omega arith));
          samples = λ j m. get_or-set_other ws base (sample_place p.shape q n j) (length x.links) 0 (λ z. omega arith)
              ∙ block_is.samples j (let z : filled x.words (ends.blocks q n) ≡ x.words = ap (filled x.words) full in omega arith)
              ∙ ap (λ z. packed (samples_of p e (stamp filler.ended z) q) j) full;
        }
        (λ l c. names_put p x (delay_at p l) (ends.reclaimed q) n (ends.writes l) (ends.blocks q) (Out (filler.ended + 1))
        ((b.pools q x at).named l c)
        (λ t h is. fill_out x.words t (sym full ∙ is))
        (λ a t h u v z. let now : filler.ended + 1 ≡ t = ap (stamp 0) z in named_now l c a t h u v now))
        (λ a ha o ba _. filling_near x.words full (Out (filler.ended + 1)) refl a ha o ba)
        (λ j o. get_or-set_other ws base j (length x.links) 0 (λ z. o (omega arith) (omega arith)))
      where
        -- had a link named a block of this cycle already, it would be this one
        named_now : (l : ℕ) → Contains x.links l → (a t : ℕ) → a ≤ delay_at p l → t + a ≡ (ends.writes l).stored
            → first p < t + delay_at p l → filler.ended + 1 ≡ t → stored_id (ends.writes l) a ≡ n
        named_now l c a t h u v now = let some = busy_cycles_some p x in let k = spans_of l c in let o = b.links q l x k.0 at c k.1 in
            let wt = o.writer_turn in let w₂ = wt.2 in
            let f : (s (p.index k.0.from.node)).begun ≡ filler.begun = ap (λ (z : Span). z.begun) k.2 in
            let ok = b.pools q x at in let soon = reclaimed_soon run in let is = (ok.named l c).out a t h u v (omega arith) in
            let e = late_is p l k.0 k.1 in
            let st : stamp filler.ended (ends.blocks q n) ≡ filler.ended + 1 = ap (stamp filler.ended) full in
            let other : stamp filler.ended (ends.blocks q (stored_id (ends.writes l) a)) ≡ t = ap (stamp filler.ended) is in
            ok.apart (stored_id (ends.writes l) a) n (o.named a (omega arith) (omega arith)) inside (ap is_busy is) (ap is_busy full)
            (omega arith)
