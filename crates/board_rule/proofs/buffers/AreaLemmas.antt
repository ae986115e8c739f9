-- Each kind of step on an io area keeps the buffer rule, and finds what the rule says.
use Rattle.std.proofs.Common.{◌≡◌, ◌≢◌, ℕ, ◌+◌, ◌-◌, ◌*◌, ◌/◌, ◌%◌, ◌<◌, ◌≤◌, List, length, set, get_or, refl, sym, ap, ◌∙◌, subst, arith}
use Rattle.std.proofs.Common.{get_or-set_other, get_or-set_same}
use Rattle.std.specs.Prelude.{Contains}
use mathlib.Core.Logic.{dite}
use native.Mathlib.Decide.{ℕ_discrete}
use Rattle.pw_graph.specs.declared.shape.ShapeLink.{ShapeLink}
use Rattle.pw_graph.specs.declared.pools.PoolShape.{PoolShape}
use Rattle.pw_graph.specs.declared.ids.PortId.{PortId}
use Rattle.pw_graph.specs.Words.{io_id_in, have_data_word, need_data_word}
use Rattle.pw_graph.specs.Layout.{io_place, word_count}
use Rattle.board_rule.specs.declared.view.WriteView.{WriteView}
use Rattle.board_rule.specs.declared.view.ReadView.{ReadView}
use Rattle.board_rule.specs.declared.view.BlockView.{BlockView}
use Rattle.board_rule.specs.declared.view.BlockView.TheVariants.{Out}
use Rattle.board_rule.specs.Layout.{BoardLayout, first}
use Rattle.board_rule.specs.start.StartViews.{Samples}
use Rattle.board_rule.specs.buffers.Areas.{delay_by, area_of, stored_id, Span}
use Rattle.board_rule.specs.buffers.BufferRule.{NamesBlocks, Buffers}
use Rattle.board_rule.specs.buffers.BlockReadings.{Ends, is_busy, stamp, delay_at}
use Rattle.board_rule.proofs.buffers.WiredLemmas.{LinkAt, PoolAt, Wired, late_is}
use Rattle.board_rule.proofs.buffers.DelayByLemmas.{delay_most, same_area, area_most, areas_differ}
use Rattle.board_rule.proofs.buffers.PacedLemmas.{Paced}
use Rattle.board_rule.proofs.buffers.ReclaimLemmas.{reclaimed_most, reclaimed_now}
use Rattle.board_rule.proofs.buffers.EndLemmas.{with_write, with_read, LinkIs, buffers_write, buffers_turn}

-- the store before the one that was made last
one_ago : (loaded stored id : ℕ) (w : WriteView) (a : ℕ) → a ≡ 1
    → stored_id record { loaded = loaded; stored = stored; id = id; last = w.id } a ≡ stored_id w 0
one_ago loaded stored id w a e = ap (stored_id record { loaded = loaded; stored = stored; id = id; last = w.id }) e

module _ (p : BoardLayout) (s : ℕ → Span) (ends : Ends) (e : Samples) (ws : List ℕ) (w : Wired p) (paced : Paced p s)
    (b : Buffers p s ends e ws) where
  module _ (l : ℕ) (k : ShapeLink) (at : LinkAt p l k) where
    abbrev from : Span
    from = s (p.index k.from.node)

    abbrev to : Span
    to = s (p.index k.to.node)

    abbrev writer : WriteView
    writer = ends.writes l

    abbrev reader : ReadView
    reader = ends.reads l

    abbrev late : ℕ
    late = delay_by k

    -- the areas that the writer and the reader use in their cycles
    abbrev pub writing_place : ℕ
    writing_place = io_place p.shape l (area_of k (from.ended + 1))

    abbrev pub reading_place : ℕ
    reading_place = io_place p.shape l (area_of k to.ended)

    -- the link, as the rule says it of its pool
    pub link_is : LinkIs p s l k writer reader ws (w.pool l k at).1
    link_is = let c = w.pool l k at in b.links c.0 l c.1 k c.2 c.3 at

    -- an area is a word of the board
    pub area_in : (a : ℕ) → a ≤ late → word_count p.shape ≤ length ws → io_place p.shape l a < length ws
    area_in a h room = let i = (w.io_in l a k at h).1 in omega arith

    -- what the writer finds: the number that the reader gave back
    pub finds_need : from.begun ≡ from.ended + 1 → writer.stored ≡ from.ended
        → get_or ws writing_place 0 ≡ need_data_word (stored_id writer late)
    finds_need run stored = let o = link_is in let n : from.begun ≤ to.ended + 1 =
        paced.near (p.index k.from.node) (p.index k.to.node) (w.from_in l k at) (w.to_in l k at) in let r = o.reader_turn.0 in
        ap (λ a. get_or ws (io_place p.shape l a) 0) (same_area k (from.ended + 1) (writer.stored + late)
        (λ one. let z : from.ended + 1 ≡ writer.stored + late = omega arith in ap (λ n. n % 2) z))
        ∙ o.need late (omega arith) (omega arith)

    pub loads_as_writer : from.begun ≡ from.ended + 1 → writer.loaded ≡ from.ended
        → Buffers p s (with_write ends l record writer { loaded = from.ended + 1 }) e ws
    loads_as_writer run loaded = let y : WriteView = record writer { loaded = from.ended + 1 } in
        let more : writer.loaded ≤ from.ended + 1 = omega arith in
        buffers_write p s ends e ws ws w l k at b y
        (λ q x is c. let o = b.links q l x k is c at in let wt = o.writer_turn in let w₀ = wt.0 in let w₁ = wt.1 in record {
          writer_turn = (w₀, omega arith, omega arith);
          reader_turn = o.reader_turn;
          later = o.later;
          have = o.have;
          need = o.need;
          unnamed = o.unnamed;
          named = o.named;
          found = o.found;
        }) more (λ q x is c. let ok = b.pools q x is in let o = ok.named l c in (
          (ok.reclaims.turn l c).0,
          record {
            out = o.out;
            zero = o.zero;
            names = o.names;
          },
        )) (λ i _. refl)

    -- the pool's node writes the link
    fills_from : (q : ℕ) (x : PoolShape) → PoolAt p q x → Contains x.links l → s (p.index x.port.node) ≡ from
    fills_from q x is c = let m = w.there q l x is c in let same : m.0 ≡ k = cc in
        sym (ap (λ (z : PortId). s (p.index z.node)) m.2) ∙ ap (λ (z : ShapeLink). s (p.index z.from.node)) same

    pub stores_have : (id q : ℕ) (x : PoolShape) → PoolAt p q x → Contains x.links l → word_count p.shape ≤ length ws
        → from.begun ≡ from.ended + 1 → writer.loaded ≡ from.ended + 1 → writer.stored ≡ from.ended → id < x.blocks
        → ends.blocks q id ≡ Out (from.ended + 1)
        → Buffers p s (with_write ends l record { loaded = writer.loaded; stored = from.ended + 1; id = id; last = writer.id }) e
        (set ws writing_place (have_data_word id))
    stores_have id q x is c room run loaded stored small out =
        let d : to.begun ≤ from.ended + late = paced.ordered l k at in
        let f : first p ≤ from.ended = paced.first (p.index k.from.node) (w.from_in l k at) in
        let most = delay_most k in
        buffers_write p s ends e ws (set ws writing_place (have_data_word id)) w l k at b y
        (λ r z ir cr. let o = b.links r l z k ir cr at in let rt = o.reader_turn in let r₁ = rt.1 in let r₂ = rt.2 in let r₃ = rt.3 in
        let la = o.later in let same : q ≡ r = w.one_pool q r l x z is ir c cr in let pool : x ≡ z = cc in
        let one : x.blocks ≡ z.blocks = ap (λ (v : PoolShape). v.blocks) pool in record {
          writer_turn = (omega arith, omega arith, omega arith);
          reader_turn = rt;
          later = (omega arith, la.1);
          have = λ a h g. dite (ℕ_discrete a 0)
              (λ v. new_word a v ∙ ap (λ j. have_data_word (stored_id y j)) (sym v))
              (λ v. old_word a h v ∙ o.have 0 (omega arith) (omega arith)
              ∙ ap (have_data_word) (sym (one_ago writer.loaded (from.ended + 1) id writer a (omega arith))));
          need = λ a h g. dite (ℕ_discrete a 0) (λ v. absurd (omega arith))
              (λ v. old_word a h v ∙ o.need 0 (omega arith) (omega arith)
              ∙ ap (need_data_word) (sym (one_ago writer.loaded (from.ended + 1) id writer a (omega arith))));
          unnamed = λ a h g. absurd (omega arith);
          named = λ a h g. dite (ℕ_discrete a 0)
              (λ v. let i : stored_id y a ≡ id = ap (stored_id y) v in omega arith)
              (λ v. let i = one_ago writer.loaded (from.ended + 1) id writer a (omega arith) in
              let j = o.named 0 (omega arith) (omega arith) in omega arith);
          found = λ a h g t. dite (ℕ_discrete a 0) (λ v. absurd (omega arith))
              (λ v. o.found 0 (omega arith) g (omega arith) ∙ sym (one_ago writer.loaded (from.ended + 1) id writer a (omega arith)));
        })
        (omega arith)
        (λ r z ir cr. let same : q ≡ r = w.one_pool q r l x z is ir c cr in let pool : x ≡ z = cc in
        subst (λ (v : ℕ × PoolShape). (from.ended + 1 ≤ ends.reclaimed v.0)
        × NamesBlocks p v.1 (delay_at p l) (ends.reclaimed v.0) y (ends.blocks v.0)) (λ i. (same i, pool i)) (now, names))
        (λ i o. get_or-set_other ws writing_place i (have_data_word id) 0 (o (area_of k (from.ended + 1)) (area_most k (from.ended + 1))))
      where
        y : WriteView
        y = record { loaded = (ends.writes l).loaded; stored = (s (p.index k.from.node)).ended + 1; id = id; last = (ends.writes l).id }

        new : ℕ
        new = have_data_word id

        new_word : (a : ℕ) → a ≡ 0
            → get_or (set ws writing_place new) (io_place p.shape l (area_of k ((s (p.index k.from.node)).ended + 1 + a))) 0 ≡ new
        new_word a v = ap (λ j. get_or (set ws writing_place new) (io_place p.shape l (area_of k j)) 0)
            (let z : (s (p.index k.from.node)).ended + 1 + a ≡ (s (p.index k.from.node)).ended + 1 = omega arith in z)
            ∙ get_or-set_same ws writing_place new 0
            (area_in (area_of k ((s (p.index k.from.node)).ended + 1)) (area_most k ((s (p.index k.from.node)).ended + 1)) room)

        -- the area of the store before is the one that was written last
        old_word : (a : ℕ) → a ≤ delay_by k → a ≢ 0
            → get_or (set ws writing_place new) (io_place p.shape l (area_of k ((s (p.index k.from.node)).ended + 1 + a))) 0
            ≡ get_or ws (io_place p.shape l (area_of k ((ends.writes l).stored + 0))) 0
        old_word a h v = let most = delay_most k in let c : ℕ = (s (p.index k.from.node)).ended in
            let e : area_of k (c + 1 + a) ≡ area_of k (c + 0) = same_area k (c + 1 + a) (c + 0) (λ one. omega arith) in
            let d = areas_differ k c 0 1 (omega arith) (omega arith) (omega arith) in
            ap (λ j. get_or (set ws writing_place new) (io_place p.shape l j) 0) e
            ∙ get_or-set_other ws writing_place (io_place p.shape l (area_of k (c + 0))) new 0 (λ z. d (omega arith))
            ∙ ap (λ j. get_or ws (io_place p.shape l (area_of k (j + 0))) 0) (sym stored)

        -- the pool is reclaimed in this cycle
        now : (s (p.index k.from.node)).ended + 1 ≤ ends.reclaimed q
        now = let node : (s (p.index x.port.node)).ended ≡ (s (p.index k.from.node)).ended = ap (λ (z : Span). z.ended) (fills_from q x is c) in
            let r = reclaimed_now p s ends e ws w b q x is id small (out ∙ ap (λ n. let u : BlockView = Out (n + 1) in u) (sym node)) in omega arith

        -- what the link names now
        names : NamesBlocks p x (delay_at p l) (ends.reclaimed q) y (ends.blocks q)
        names = let o = (b.pools q x is).named l c in let t = late_is p l k at in let most = delay_most k in
            let f : first p ≤ from.ended = paced.first (p.index k.from.node) (w.from_in l k at) in
            record {
              out = λ a n h i j z. dite (ℕ_discrete a 0)
                  (λ v. ap (λ m. ends.blocks q (stored_id y m)) v ∙ out
                  ∙ ap (λ m. let u : BlockView = Out m in u) (let u : from.ended + 1 ≡ n = omega arith in u))
                  (λ v. ap (ends.blocks q) (one_ago writer.loaded (from.ended + 1) id writer a (omega arith))
                  ∙ o.out 0 n (omega arith) (omega arith) j (omega arith));
              zero = λ one a h i. one_ago writer.loaded (from.ended + 1) id writer a (omega arith) ∙ o.zero one 0 (omega arith) (omega arith);
              names = λ a n m h i j low at_m. dite (ℕ_discrete a 0)
                  (λ v. ap (stored_id y) v ∙ (b.pools q x is).apart id m small low (ap is_busy out) (ap is_busy at_m)
                  (ap (stamp (s (p.index x.port.node)).ended) out ∙ (let u : from.ended + 1 ≡ n = omega arith in u)
                  ∙ sym (ap (stamp (s (p.index x.port.node)).ended) at_m)))
                  (λ v. one_ago writer.loaded (from.ended + 1) id writer a (omega arith)
                  ∙ o.names 0 n m (omega arith) (omega arith) j low at_m);
            }

    -- what the reader finds, and of which store
    pub wrote_now : to.begun ≡ to.ended + 1 → (a : ℕ) × (a ≤ late) × (writer.stored + late ≡ to.ended + 1 + a)
    wrote_now run = let o = link_is in let n : from.begun ≤ to.ended + 1 =
        paced.near (p.index k.from.node) (p.index k.to.node) (w.from_in l k at) (w.to_in l k at) in
        let d : to.begun ≤ from.ended + late = paced.ordered l k at in let wt = o.writer_turn in let w₀ = wt.0 in let w₁ = wt.1 in
        let w₂ = wt.2 in (writer.stored + late - (to.ended + 1), omega arith, omega arith)

    -- the area of that store is the one that the reader uses in this cycle
    here : (a : ℕ) → a ≤ late → writer.stored + late ≡ to.ended + 1 + a → area_of k to.ended ≡ area_of k (writer.stored + a)
    here a h is = same_area k to.ended (writer.stored + a) (λ one. let z : writer.stored + a ≡ to.ended + (a + a) = omega arith in omega arith)

    pub finds_have : (run : to.begun ≡ to.ended + 1) → reader.stored ≡ to.ended
        → get_or ws reading_place 0 ≡ have_data_word (stored_id writer (wrote_now run).0)
    finds_have run stored = let o = link_is in let n = wrote_now run in let n₁ = n.1 in let n₂ = n.2 in
        ap (λ j. get_or ws (io_place p.shape l j) 0) (here n.0 n.1 n.2) ∙ o.have n.0 n.1 (omega arith)

    pub finds_number : (run : to.begun ≡ to.ended + 1) → (q : ℕ) (x : PoolShape) → PoolAt p q x → Contains x.links l
        → stored_id writer (wrote_now run).0 < x.blocks
    finds_number run q x is c = let f : first p ≤ to.ended = paced.first (p.index k.to.node) (w.to_in l k at) in let n = wrote_now run in
        let n₂ = n.2 in (b.links q l x k is c at).named n.0 n.1 (omega arith)

    -- over a delayed link it is block 0 in the first cycle
    pub finds_zero : (run : to.begun ≡ to.ended + 1) → (q : ℕ) (x : PoolShape) → PoolAt p q x → Contains x.links l → late ≡ 1
        → to.ended ≡ first p → stored_id writer (wrote_now run).0 ≡ 0
    finds_zero run q x is c one start = let n = wrote_now run in let n₁ = n.1 in let n₂ = n.2 in let t = late_is p l k at in
        ((b.pools q x is).named l c).zero (omega arith) n.0 (omega arith) (omega arith)

    -- and it is out
    pub finds_out : (run : to.begun ≡ to.ended + 1) → (q : ℕ) (x : PoolShape) → PoolAt p q x → Contains x.links l
        → ends.blocks q (stored_id writer (wrote_now run).0) ≡ Out (to.ended + 1 - late)
    finds_out run q x is c = let n = wrote_now run in let n₁ = n.1 in let n₂ = n.2 in let most = delay_most k in let t = late_is p l k at in
        let below = w.delay_in q l x is c in let ok = b.pools q x is in
        let wt = (b.links q l x k is c at).writer_turn in let w₂ = wt.2 in
        let near = paced.near (p.index k.from.node) (p.index k.to.node) (w.from_in l k at) (w.to_in l k at) in
        let f : first p ≤ to.ended = paced.first (p.index k.to.node) (w.to_in l k at) in
        let low = reclaimed_most p x (ends.reclaimed q) ends.writes (ends.blocks q) ok.reclaims l (to.ended + 1) c (omega arith) (omega arith) in
        (ok.named l c).out n.0 (to.ended + 1 - late) (omega arith) (omega arith) (omega arith) (omega arith)

    pub found_id : (run : to.begun ≡ to.ended + 1) → reader.stored ≡ to.ended
        → io_id_in (get_or ws reading_place 0) ≡ stored_id writer (wrote_now run).0
    found_id run stored = let h = finds_have run stored in let id : ℕ = stored_id writer (wrote_now run).0 in
        let f : io_id_in (get_or ws reading_place 0) ≡ io_id_in (have_data_word id) = ap io_id_in h in
        let g : (2 + 4294967296 * id) / 4294967296 ≡ id = omega arith in f ∙ g

    pub loads_as_reader : to.begun ≡ to.ended + 1 → reader.loaded ≡ to.ended
        → Buffers p s (with_read ends l record reader { loaded = to.ended + 1; id = io_id_in (get_or ws reading_place 0) }) e ws
    loads_as_reader run loaded = let y : ReadView = record reader { loaded = to.ended + 1; id = io_id_in (get_or ws reading_place 0) } in
        let n = wrote_now run in let n₂ = n.2 in
        buffers_turn p s ends e ws ws w l k at b y
        (λ q x is c. let o = b.links q l x k is c at in let rt = o.reader_turn in let r₀ = rt.0 in let r₁ = rt.1 in let r₂ = rt.2 in
        record {
          writer_turn = o.writer_turn;
          reader_turn = (r₀, r₁, omega arith, omega arith);
          later = o.later;
          have = o.have;
          need = o.need;
          unnamed = o.unnamed;
          named = o.named;
          found = λ a h _ t. found_id run (omega arith) ∙ ap (stored_id writer) (let z : n.0 ≡ a = omega arith in z);
        }) refl (λ i _. refl)

    pub stores_need : (id : ℕ) → word_count p.shape ≤ length ws → to.begun ≡ to.ended + 1 → reader.lowered ≡ to.ended + 1
        → reader.stored ≡ to.ended → id ≡ reader.id
        → Buffers p s (with_read ends l record reader { stored = to.ended + 1 }) e (set ws reading_place (need_data_word id))
    stores_need id room run lowered stored is = let y : ReadView = record reader { stored = to.ended + 1 } in let n = wrote_now run in
        let n₁ = n.1 in let n₂ = n.2 in let most = delay_most k in
        buffers_turn p s ends e ws (set ws reading_place (need_data_word id)) w l k at b y
        (λ q x iq c. let o = b.links q l x k iq c at in let rt = o.reader_turn in let r₂ = rt.2 in let r₃ = rt.3 in let la = o.later in
        let la₁ = la.1 in let same : reader.id ≡ stored_id writer n.0 = o.found n.0 n.1 (omega arith) (omega arith) in record {
          writer_turn = o.writer_turn;
          reader_turn = (omega arith, omega arith, r₂, r₃);
          later = (la.0, omega arith);
          have = λ a h g. other a n.0 h n.1 n.2 (omega arith) ∙ o.have a h (omega arith);
          need = λ a h g. dite (ℕ_discrete a n.0)
              (λ v. mine a v ∙ ap (need_data_word) (is ∙ same ∙ ap (stored_id writer) (sym v)))
              (λ v. other a n.0 h n.1 n.2 v ∙ o.need a h (omega arith));
          unnamed = o.unnamed;
          named = o.named;
          found = λ a h z. absurd (omega arith);
        }) refl (λ i o. get_or-set_other ws reading_place i (need_data_word id) 0 (o (area_of k to.ended) (area_most k to.ended)))
      where
        new : ℕ
        new = need_data_word id

        mine : (a : ℕ) → a ≡ (wrote_now run).0
            → get_or (set ws reading_place new) (io_place p.shape l (area_of k ((ends.writes l).stored + a))) 0 ≡ new
        mine a v = let n = wrote_now run in
            ap (λ j. get_or (set ws reading_place new) (io_place p.shape l j) 0)
            (ap (λ j. area_of k ((ends.writes l).stored + j)) v ∙ sym (here n.0 n.1 n.2))
            ∙ get_or-set_same ws reading_place new 0
            (area_in (area_of k (s (p.index k.to.node)).ended) (area_most k (s (p.index k.to.node)).ended) room)

        -- the area of another store
        other : (a n : ℕ) → a ≤ delay_by k → n ≤ delay_by k → (ends.writes l).stored + delay_by k ≡ (s (p.index k.to.node)).ended + 1 + n → a ≢ n
            → get_or (set ws reading_place new) (io_place p.shape l (area_of k ((ends.writes l).stored + a))) 0
            ≡ get_or ws (io_place p.shape l (area_of k ((ends.writes l).stored + a))) 0
        other a n h g t v = let e = here n g t in let d = areas_differ k (ends.writes l).stored a n h g v in
            get_or-set_other ws reading_place (io_place p.shape l (area_of k ((ends.writes l).stored + a))) new 0
            (λ z. d (let y : area_of k ((ends.writes l).stored + a) ≡ area_of k (s (p.index k.to.node)).ended = omega arith in y ∙ e))
