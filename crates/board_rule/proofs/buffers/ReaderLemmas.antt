-- Each kind of step of a reader on the words of a pool keeps the buffer rule, and finds what the rule says.
use Rattle.std.proofs.Common.{◌≡◌, ◌≢◌, ℕ, ◌+◌, ◌-◌, ◌<◌, ◌≤◌, ◌⊎◌, ⊎_elim, List, length, set, get_or, sym, ap, ◌∙◌, subst, arith}
use Rattle.std.proofs.Common.{get_or-set_other, get_or-set_same}
use Rattle.std.specs.Prelude.{Contains}
use mathlib.Core.Logic.{dite}
use native.Mathlib.Decide.{ℕ_discrete}
use Rattle.pw_graph.specs.declared.shape.ShapeLink.{ShapeLink}
use Rattle.pw_graph.specs.declared.pools.PoolShape.{PoolShape}
use Rattle.pw_graph.specs.Layout.{io_place, readers_place, sample_place, word_count}
use Rattle.board_rule.specs.declared.view.ReadView.{ReadView}
use Rattle.board_rule.specs.declared.view.BlockView.TheVariants.{Out}
use Rattle.board_rule.specs.Layout.{BoardLayout, first}
use Rattle.board_rule.specs.start.StartViews.{Samples}
use Rattle.board_rule.specs.View.{put}
use Rattle.board_rule.specs.buffers.SampleWords.{packed, samples_of}
use Rattle.board_rule.specs.buffers.Areas.{delay_by, area_of, stored_id, Span}
use Rattle.board_rule.specs.buffers.BufferRule.{BlockOk, Buffers}
use Rattle.board_rule.specs.buffers.BlockReadings.{Ends, is_busy, stamp, filled, delay_at, waiting, readers_of}
use Rattle.board_rule.proofs.start.SeatLemmas.{put_here, put_else}
use Rattle.board_rule.proofs.buffers.WiredLemmas.{LinkAt, PoolAt, Wired, late_is}
use Rattle.board_rule.proofs.buffers.DelayByLemmas.{delay_most, area_most}
use Rattle.board_rule.proofs.buffers.PacedLemmas.{Paced}
use Rattle.board_rule.proofs.buffers.ReclaimLemmas.{reclaimed_most}
use Rattle.board_rule.proofs.buffers.ReadersOfLemmas.{waits, waits_one, waits_none, waits_same, readers_same, waiting_change, waiting_has}
use Rattle.board_rule.proofs.buffers.EndLemmas.{with_read, LinkIs, buffers_read}
use Rattle.board_rule.proofs.buffers.AreaLemmas.{wrote_now}

module _ (p : BoardLayout) (s : ℕ → Span) (ends : Ends) (e : Samples) (ws : List ℕ) (w : Wired p) (paced : Paced p s)
    (b : Buffers p s ends e ws) where
  module _ (l : ℕ) (k : ShapeLink) (at : LinkAt p l k) (q : ℕ) (x : PoolShape) (is : PoolAt p q x) (c : Contains x.links l)
      (run : (s (p.index k.to.node)).begun ≡ (s (p.index k.to.node)).ended + 1)
      (loaded : (ends.reads l).loaded ≡ (s (p.index k.to.node)).ended + 1)
      (here : (ends.reads l).lowered ≡ (s (p.index k.to.node)).ended) where
    abbrev to : Span
    to = s (p.index k.to.node)

    abbrev reader : ReadView
    reader = ends.reads l

    abbrev base : ℕ
    base = readers_place p.shape q reader.id

    -- the stamp of the block that is read in this cycle
    abbrev pub stamp_read : ℕ
    stamp_read = to.ended + 1 - delay_by k

    link_is : LinkIs p s l k (ends.writes l) reader ws x
    link_is = b.links q l x k is c at

    -- the block that a reader in its turn has: the one of this reading cycle, and out
    pub reads_block : (reader.id < x.blocks) × (ends.blocks q reader.id ≡ Out stamp_read)
    reads_block = let o = link_is in let n = wrote_now p s ends e ws w paced b l k at run in let n₁ = n.1 in let n₂ = n.2 in
        let rt = o.reader_turn in let r₁ = rt.1 in let most = delay_most k in let t = late_is p l k at in let late = w.delay_in q l x is c in
        let f : first p ≤ to.ended = paced.first (p.index k.to.node) (w.to_in l k at) in
        let same : reader.id ≡ stored_id (ends.writes l) n.0 = o.found n.0 n.1 (omega arith) (omega arith) in
        let id : stored_id (ends.writes l) n.0 < x.blocks = o.named n.0 n.1 (omega arith) in
        let near = paced.near (p.index k.from.node) (p.index k.to.node) (w.from_in l k at) (w.to_in l k at) in
        let wt = o.writer_turn in let w₂ = wt.2 in let ok = b.pools q x is in
        let low = reclaimed_most p x (ends.reclaimed q) ends.writes (ends.blocks q) ok.reclaims l (to.ended + 1) c (omega arith) (omega arith) in (
          omega arith,
          ap (ends.blocks q) same
              ∙ (ok.named l c).out n.0 stamp_read (omega arith) (omega arith) (omega arith) (omega arith),
        )

    block_is : BlockOk p q reader.id x (s (p.index x.port.node)) ends.reads e (ends.blocks q reader.id) ws
    block_is = b.blocks q reader.id x is reads_block.0

    -- it finds the samples that are expected of the cycle in which the block was announced
    pub finds_sample : (i : ℕ) → i < x.words → get_or ws (sample_place p.shape q reader.id i) 0 ≡ packed (samples_of p e stamp_read q) i
    finds_sample i short = let out = reads_block.1 in
        block_is.samples i (let z : filled x.words (ends.blocks q reader.id) ≡ x.words = ap (filled x.words) out in omega arith)
        ∙ ap (λ z. packed (samples_of p e (stamp (s (p.index x.port.node)).ended z) q) i) out

    -- its readers word counts it
    counts : get_or ws base 0 ≡ waiting p ends.reads x stamp_read
    counts = block_is.readers ∙ ap (readers_of p ends.reads x) reads_block.1

    -- the reader is one of those that have not yet lowered it
    is_waiting : reader.lowered < stamp_read + delay_at p l
    is_waiting = let t = late_is p l k at in let most = delay_most k in omega arith

    pub finds_some : 0 < get_or ws base 0
    finds_some = let a = counts in let h = waiting_has p x ends.reads l stamp_read c in
        let one = waits_one (delay_at p l) reader stamp_read is_waiting in omega arith

    abbrev lowered : ReadView
    lowered = record reader { lowered = to.ended + 1 }

    -- it lowers the block
    pub lowers_block : (n : ℕ) → word_count p.shape ≤ length ws → get_or ws base 0 ≡ n + 1
        → Buffers p s (with_read ends l lowered) e (set ws base n)
    lowers_block n room found = let inside = reads_block.0 in let r = w.readers_in q reader.id x is inside in let r₀ = r.0 in
        let r₁ = r.1 in
        buffers_read p s ends e ws (set ws base n) w l k at b lowered
        (λ t z it ct. let o = b.links t l z k it ct at in let rt = o.reader_turn in let rt₁ = rt.1 in
        let word : (a : ℕ) → a ≤ delay_by k → get_or (set ws base n) (io_place p.shape l a) 0 ≡ get_or ws (io_place p.shape l a) 0 =
        λ a h. get_or-set_other ws base (io_place p.shape l a) n 0 (λ v. let io = (w.io_in l a k at h).1 in omega arith) in record {
          writer_turn = o.writer_turn;
          reader_turn = (rt.0, omega arith, omega arith, rt.3);
          later = o.later;
          have = λ a h v. word (area_of k ((ends.writes l).stored + a)) (area_most k ((ends.writes l).stored + a)) ∙ o.have a h v;
          need = λ a h v. word (area_of k ((ends.writes l).stored + a)) (area_most k ((ends.writes l).stored + a)) ∙ o.need a h v;
          unnamed = o.unnamed;
          named = o.named;
          found = o.found;
        })
        (λ m j to_link _ a h. let io = (w.io_in m a j to_link h).1 in
        get_or-set_other ws base (io_place p.shape m a) n 0 (λ v. omega arith))
        (λ t m z it h. dite (ℕ_discrete t q)
        (λ u. dite (ℕ_discrete m reader.id) (λ v. mine n t m z it u v found r₁ room) (λ v. others n t m z it h (λ y. v y.1)))
        (λ u. others n t m z it h (λ y. u y.0)))
        (λ t m i z it h short. get_or-set_other ws base (sample_place p.shape t m i) n 0 (λ v. dite (ℕ_discrete t q)
        (λ u. dite (ℕ_discrete m reader.id) (λ y. let g : readers_place p.shape t m ≡ base = (λ j. readers_place p.shape (u j) (y j)) in
        absurd (omega arith)) (λ y. apart_from t m i z it h short (λ f. y f.1) v))
        (λ u. apart_from t m i z it h short (λ f. u f.0) v)))
      where
        after_reads : ℕ → ReadView
        after_reads = put ends.reads l (record (ends.reads l) { lowered = (s (p.index k.to.node)).ended + 1 })

        -- the block that is lowered: one reader less waits for it
        mine : (n t m : ℕ) (z : PoolShape) → PoolAt p t z → t ≡ q → m ≡ (ends.reads l).id
            → get_or ws (readers_place p.shape q (ends.reads l).id) 0 ≡ n + 1
            → readers_place p.shape q (ends.reads l).id + x.words < word_count p.shape → word_count p.shape ≤ length ws
            → get_or (set ws (readers_place p.shape q (ends.reads l).id) n) (readers_place p.shape t m) 0
            ≡ readers_of p after_reads z (ends.blocks t m)
        mine n t m z it u v found last room = let xz : x ≡ z = cc in
            subst (λ (y : ℕ × ℕ × PoolShape). get_or (set ws (readers_place p.shape q (ends.reads l).id) n)
            (readers_place p.shape y.0 y.1) 0 ≡ readers_of p after_reads y.2 (ends.blocks y.0 y.1)) (λ i. (sym u i, sym v i, xz i))
            (get_or-set_same ws (readers_place p.shape q (ends.reads l).id) n 0 (omega arith) ∙ less
            ∙ sym (ap (readers_of p after_reads x) reads_block.1))
          where
            less : n ≡ waiting p after_reads x stamp_read
            less = let a = counts in
                let d = waiting_change p x ends.reads after_reads l stamp_read (w.once q x is) c
                (λ j o. put_else ends.reads l j (record (ends.reads l) { lowered = (s (p.index k.to.node)).ended + 1 }) o) in
                let was = waits_one (delay_at p l) (ends.reads l) stamp_read is_waiting in
                let now : waits (delay_at p l) (after_reads l) stamp_read ≡ 0 =
                ap (λ y. waits (delay_at p l) y stamp_read)
                (put_here ends.reads l (record (ends.reads l) { lowered = (s (p.index k.to.node)).ended + 1 }))
                ∙ waits_none (delay_at p l) (record (ends.reads l) { lowered = (s (p.index k.to.node)).ended + 1 }) stamp_read
                (let t = late_is p l k at in let most = delay_most k in omega arith) in omega arith

        apart_words : (t m : ℕ) (z : PoolShape) → PoolAt p t z → m < z.blocks → ((t ≡ q) × (m ≡ (ends.reads l).id) → ⊥)
            → (readers_place p.shape t m + z.words < readers_place p.shape q (ends.reads l).id)
            ⊎ (readers_place p.shape q (ends.reads l).id + x.words < readers_place p.shape t m)
        apart_words t m z it h o = w.apart t q m (ends.reads l).id z x it is h reads_block.0 o

        apart_from : (t m i : ℕ) (z : PoolShape) → PoolAt p t z → m < z.blocks → i < z.words → ((t ≡ q) × (m ≡ (ends.reads l).id) → ⊥)
            → sample_place p.shape t m i ≡ readers_place p.shape q (ends.reads l).id → ⊥
        apart_from t m i z it h short o v = ⊎_elim (λ y. absurd (omega arith)) (λ y. absurd (omega arith)) (apart_words t m z it h o)

        -- another block of the pool has another stamp
        other_stamp : (t m y : ℕ) (z : PoolShape) → PoolAt p t z → m < z.blocks → Contains z.links l
            → ((t ≡ q) × (m ≡ (ends.reads l).id) → ⊥) → ends.blocks t m ≡ Out y → y ≢ stamp_read
        other_stamp t m y z it h cl o out f = let tq : t ≡ q = w.one_pool t q l z x it is cl c in
            let zx : z ≡ x = cc in let count : z.blocks ≡ x.blocks = ap (λ (v : PoolShape). v.blocks) zx in
            let mine : ends.blocks q m ≡ Out y = ap (λ v. ends.blocks v m) (sym tq) ∙ out in let st = reads_block in o (
              tq,
              (b.pools q x is).apart m (ends.reads l).id (omega arith) st.0 (ap is_busy mine) (ap is_busy st.1)
                  (ap (stamp (s (p.index x.port.node)).ended) mine ∙ f ∙ sym (ap (stamp (s (p.index x.port.node)).ended) st.1)),
            )

        -- another block: no reader of it is the one that steps, or that one waits for it as before
        others : (n t m : ℕ) (z : PoolShape) → PoolAt p t z → m < z.blocks → ((t ≡ q) × (m ≡ (ends.reads l).id) → ⊥)
            → get_or (set ws (readers_place p.shape q (ends.reads l).id) n) (readers_place p.shape t m) 0
            ≡ readers_of p after_reads z (ends.blocks t m)
        others n t m z it h o = get_or-set_other ws (readers_place p.shape q (ends.reads l).id) (readers_place p.shape t m) n 0
            (λ v. ⊎_elim (λ y. absurd (omega arith)) (λ y. absurd (omega arith)) (apart_words t m z it h o))
            ∙ (b.blocks t m z it h).readers
            ∙ sym (readers_same p z ends.reads after_reads (ends.blocks t m) (λ j y cj out. dite (ℕ_discrete j l)
            (λ f. let differ = other_stamp t m y z it h (subst (Contains z.links) f cj) o out in let late = late_is p l k at in
            let most = delay_most k in
            subst (λ v. waits (delay_at p v) (after_reads v) y ≡ waits (delay_at p v) (ends.reads v) y) (sym f)
            (ap (λ v. waits (delay_at p l) v y) (put_here ends.reads l (record (ends.reads l) { lowered = (s (p.index k.to.node)).ended + 1 }))
            ∙ waits_same (delay_at p l) y (ends.reads l) (record (ends.reads l) { lowered = (s (p.index k.to.node)).ended + 1 })
            (λ v. omega arith) (λ v. omega arith)))
            (λ f. ap (λ v. waits (delay_at p j) v y)
            (put_else ends.reads l j (record (ends.reads l) { lowered = (s (p.index k.to.node)).ended + 1 }) f))))
