-- The buffer rule where one end of a link changes.
use Rattle.std.proofs.Common.{◌≡◌, ◌≢◌, ℕ, ◌+◌, ◌<◌, ◌≤◌, List, get_or, sym, ap, ◌∙◌, subst, arith}
use Rattle.std.specs.Prelude.{Contains}
use mathlib.Core.Logic.{dite}
use native.Mathlib.Decide.{ℕ_discrete}
use Rattle.pw_graph.specs.declared.shape.ShapeLink.{ShapeLink}
use Rattle.pw_graph.specs.declared.pools.PoolShape.{PoolShape}
use Rattle.pw_graph.specs.Layout.{io_place, readers_place, sample_place}
use Rattle.board_rule.specs.declared.view.WriteView.{WriteView}
use Rattle.board_rule.specs.declared.view.ReadView.{ReadView}
use Rattle.board_rule.specs.Layout.{BoardLayout, first}
use Rattle.board_rule.specs.start.StartViews.{Samples}
use Rattle.board_rule.specs.View.{put}
use Rattle.board_rule.specs.buffers.Areas.{delay_by, Span, LinkOk}
use Rattle.board_rule.specs.buffers.BufferRule.{NamesBlocks, Buffers}
use Rattle.board_rule.specs.buffers.BlockReadings.{Ends, delay_at, readers_of}
use Rattle.board_rule.proofs.start.SeatLemmas.{put_here, put_else}
use Rattle.board_rule.proofs.buffers.WiredLemmas.{LinkAt, PoolAt, Wired}
use Rattle.board_rule.proofs.buffers.DelayByLemmas.{link_stays}
use Rattle.board_rule.proofs.buffers.ReadersOfLemmas.{waits, readers_same}

-- what is known after a step of a writer or of a reader of the link l
abbrev pub with_write : Ends → ℕ → WriteView → Ends
with_write ends l y = record ends { writes = put ends.writes l y }

abbrev pub with_read : Ends → ℕ → ReadView → Ends
with_read ends l y = record ends { reads = put ends.reads l y }

module _ (p : BoardLayout) where
  -- the link l, whose ends are y and r, as the rule says it of a pool
  abbrev pub LinkIs : (ℕ → Span) → ℕ → ShapeLink → WriteView → ReadView → List ℕ → PoolShape → Type 0
  LinkIs s l k y r ws x = LinkOk (first p) x.blocks k (s (p.index k.from.node)) (s (p.index k.to.node)) y r
      (λ a. get_or ws (io_place p.shape l a) 0)

  -- the areas of another link stay
  link_else : (s : ℕ → Span) (m : ℕ) (j : ShapeLink) (y : WriteView) (r : ReadView) (ws after : List ℕ) (x : PoolShape)
      → ((a : ℕ) → a ≤ delay_by j → get_or after (io_place p.shape m a) 0 ≡ get_or ws (io_place p.shape m a) 0)
      → LinkIs s m j y r ws x → LinkIs s m j y r after x
  link_else s m j y r ws after x same o = let a = o.writer_turn.0 in let b = o.reader_turn.0 in
      link_stays (first p) x.blocks j (s (p.index j.from.node)) (s (p.index j.to.node)) (s (p.index j.from.node)) (s (p.index j.to.node))
      y r (λ i. get_or ws (io_place p.shape m i) 0) (λ i. get_or after (io_place p.shape m i) 0) o a (omega arith) b (omega arith) same

  module _ (s : ℕ → Span) (ends : Ends) (e : Samples) (ws after : List ℕ) (w : Wired p) (l : ℕ) (k : ShapeLink) (at : LinkAt p l k)
      (b : Buffers p s ends e ws) where
    -- no word changes but the link's areas
    abbrev pub OnlyAreas : Type 0
    OnlyAreas = (i : ℕ) → ((a : ℕ) → a ≤ delay_by k → i ≢ io_place p.shape l a) → get_or after i 0 ≡ get_or ws i 0

    areas_else : OnlyAreas → (m : ℕ) (j : ShapeLink) → LinkAt p m j → m ≢ l → (a : ℕ) → a ≤ delay_by j
        → get_or after (io_place p.shape m a) 0 ≡ get_or ws (io_place p.shape m a) 0
    areas_else same m j is o a h = same (io_place p.shape m a) (λ c g. w.io_apart m l a c j k is at h g o)

    readers_else : OnlyAreas → (q n : ℕ) (x : PoolShape) → PoolAt p q x → n < x.blocks
        → get_or after (readers_place p.shape q n) 0 ≡ get_or ws (readers_place p.shape q n) 0
    readers_else same q n x to h = let r = (w.readers_in q n x to h).0 in
        same (readers_place p.shape q n) (λ a g z. let i = (w.io_in l a k at g).1 in omega arith)

    samples_else : OnlyAreas → (q n i : ℕ) (x : PoolShape) → PoolAt p q x → n < x.blocks
        → get_or after (sample_place p.shape q n i) 0 ≡ get_or ws (sample_place p.shape q n i) 0
    samples_else same q n i x to h = let r = (w.readers_in q n x to h).0 in
        same (sample_place p.shape q n i) (λ a g z. let j = (w.io_in l a k at g).1 in omega arith)

    -- the writer's end and the areas change
    pub buffers_write : (y : WriteView) → ((q : ℕ) (x : PoolShape) → PoolAt p q x → Contains x.links l
        → LinkIs s l k y (ends.reads l) after x)
        → (ends.writes l).loaded ≤ y.loaded
        → ((q : ℕ) (x : PoolShape) → PoolAt p q x → Contains x.links l → (y.stored ≤ ends.reclaimed q)
        × NamesBlocks p x (delay_at p l) (ends.reclaimed q) y (ends.blocks q))
        → OnlyAreas → Buffers p s (with_write ends l y) e after
    buffers_write y ok later names same = record {
      links = λ q m x j to c is. dite (ℕ_discrete m l)
          (λ z. let jk : j ≡ k = cc in subst (λ (v : ℕ × ShapeLink). LinkIs s v.0 v.1 (put ends.writes l y v.0) (ends.reads v.0) after x)
          (λ i. (sym z i, sym jk i))
          (subst (λ v. LinkIs s l k v (ends.reads l) after x) (sym (put_here ends.writes l y)) (ok q x to (subst (Contains x.links) z c))))
          (λ z. subst (λ (v : WriteView). LinkIs s m j v (ends.reads m) after x) (sym (put_else ends.writes l m y z))
          (link_else s m j (ends.writes m) (ends.reads m) ws after x (areas_else same m j is z) (b.links q m x j to c is)));
      blocks = λ q n x to h. let o = b.blocks q n x to h in record {
        low = o.low;
        high = o.high;
        full = o.full;
        readers = readers_else same q n x to h ∙ o.readers;
        samples = λ i g. samples_else same q n i x to h ∙ o.samples i g;
      };
      pools = λ q x to. let o = b.pools q x to in record {
        reclaims = let r = o.reclaims in record {
          begun = r.begun;
          turn = λ m c. dite (ℕ_discrete m l)
              (λ z. let mine : Contains x.links l = subst (Contains x.links) z c in let was = (r.turn l mine).1 in
              subst (λ (v : WriteView). (v.stored ≤ ends.reclaimed q) × (first p + 1 < ends.reclaimed q → ends.reclaimed q ≤ v.loaded))
              (sym (ap (put ends.writes l y) z ∙ put_here ends.writes l y)) ((names q x to mine).0, λ h. let t = was h in omega arith))
              (λ z. subst (λ (v : WriteView). (v.stored ≤ ends.reclaimed q) × (first p + 1 < ends.reclaimed q → ends.reclaimed q ≤ v.loaded))
              (sym (put_else ends.writes l m y z)) (r.turn m c));
          until = r.until;
        };
        named = λ m c. dite (ℕ_discrete m l)
            (λ z. subst (λ v. NamesBlocks p x (delay_at p v) (ends.reclaimed q) (put ends.writes l y v) (ends.blocks q)) (sym z)
            (subst (λ v. NamesBlocks p x (delay_at p l) (ends.reclaimed q) v (ends.blocks q)) (sym (put_here ends.writes l y))
            (names q x to (subst (Contains x.links) z c)).1))
            (λ z. subst (λ v. NamesBlocks p x (delay_at p m) (ends.reclaimed q) v (ends.blocks q)) (sym (put_else ends.writes l m y z))
            (o.named m c));
        apart = o.apart;
        near = o.near;
      };
    }

    -- the reader's end changes, and the areas or the readers word of a block
    pub buffers_read : (y : ReadView) → ((q : ℕ) (x : PoolShape) → PoolAt p q x → Contains x.links l → LinkIs s l k (ends.writes l) y after x)
        → ((m : ℕ) (j : ShapeLink) → LinkAt p m j → m ≢ l → (a : ℕ) → a ≤ delay_by j
        → get_or after (io_place p.shape m a) 0 ≡ get_or ws (io_place p.shape m a) 0)
        → ((q n : ℕ) (x : PoolShape) → PoolAt p q x → n < x.blocks
        → get_or after (readers_place p.shape q n) 0 ≡ readers_of p (put ends.reads l y) x (ends.blocks q n))
        → ((q n i : ℕ) (x : PoolShape) → PoolAt p q x → n < x.blocks → i < x.words
        → get_or after (sample_place p.shape q n i) 0 ≡ get_or ws (sample_place p.shape q n i) 0)
        → Buffers p s (with_read ends l y) e after
    buffers_read y ok areas readers samples = record {
      links = λ q m x j to c is. dite (ℕ_discrete m l)
          (λ z. let jk : j ≡ k = cc in subst (λ (v : ℕ × ShapeLink). LinkIs s v.0 v.1 (ends.writes v.0) (put ends.reads l y v.0) after x)
          (λ i. (sym z i, sym jk i))
          (subst (λ v. LinkIs s l k (ends.writes l) v after x) (sym (put_here ends.reads l y)) (ok q x to (subst (Contains x.links) z c))))
          (λ z. subst (λ (v : ReadView). LinkIs s m j (ends.writes m) v after x) (sym (put_else ends.reads l m y z))
          (link_else s m j (ends.writes m) (ends.reads m) ws after x (areas m j is z) (b.links q m x j to c is)));
      blocks = λ q n x to h. let o = b.blocks q n x to h in record {
        low = o.low;
        high = o.high;
        full = o.full;
        readers = readers q n x to h;
        samples = λ i g. let f = o.full in samples q n i x to h (omega arith) ∙ o.samples i g;
      };
      pools = b.pools;
    }

    -- the same where no block is lowered
    pub buffers_turn : (y : ReadView) → ((q : ℕ) (x : PoolShape) → PoolAt p q x → Contains x.links l → LinkIs s l k (ends.writes l) y after x)
        → y.lowered ≡ (ends.reads l).lowered → OnlyAreas → Buffers p s (with_read ends l y) e after
    buffers_turn y ok lowered same =
        buffers_read y ok (areas_else same)
        (λ q n x to h. readers_else same q n x to h ∙ (b.blocks q n x to h).readers
        ∙ sym (readers_same p x ends.reads (put ends.reads l y) (ends.blocks q n) (λ m t _ _. dite (ℕ_discrete m l)
        (λ z. ap (λ (v : ReadView). waits (delay_at p m) v t) (ap (put ends.reads l y) z ∙ put_here ends.reads l y)
        ∙ ap (λ j. waits (delay_at p m) (record y { lowered = j }) t) lowered ∙ ap (λ j. waits (delay_at p m) (ends.reads j) t) (sym z))
        (λ z. ap (λ (v : ReadView). waits (delay_at p m) v t) (put_else ends.reads l m y z)))))
        (λ q n i x to h _. samples_else same q n i x to h)
