-- Steps that touch no end of a link, no block and no word of the buffer rule keep it, also where a node begins to run.
use Rattle.std.proofs.Common.{◌≡◌, ℕ, ◌*◌, ◌<◌, ◌≤◌, ◌⊎◌, inl, inr, List, get_or, sym, ap, ◌∙◌, subst, arith}
use Rattle.pw_graph.specs.declared.shape.ShapeLink.{ShapeLink}
use Rattle.pw_graph.specs.declared.pools.PoolShape.{PoolShape}
use Rattle.pw_graph.specs.Layout.{event_count, io_place, late_place, event_place, readers_place, sample_place}
use Rattle.board_rule.specs.Layout.{BoardLayout, nodes, first}
use Rattle.board_rule.specs.start.StartViews.{Samples}
use Rattle.board_rule.specs.buffers.SampleWords.{packed, samples_of}
use Rattle.board_rule.specs.buffers.Areas.{delay_by, Span}
use Rattle.board_rule.specs.buffers.BufferRule.{PoolOk, Buffers}
use Rattle.board_rule.specs.buffers.BlockReadings.{Ends, stamp}
use Rattle.board_rule.proofs.buffers.WiredLemmas.{LinkAt, PoolAt, Wired, made}
use Rattle.board_rule.proofs.buffers.DelayByLemmas.{link_stays}

module _ (p : BoardLayout) where
  -- the words of the buffer rule: io areas, and the words of pools
  abbrev pub IsBufferWord : ℕ → Type 0
  IsBufferWord i = ((2 * nodes p < i) × (i < late_place p.shape 0)) ⊎ (event_place p.shape (event_count p.shape) ≤ i)

  abbrev pub SameBuffers : List ℕ → List ℕ → Type 0
  SameBuffers ws after = (i : ℕ) → IsBufferWord i → get_or after i 0 ≡ get_or ws i 0

  module _ (w : Wired p) (ws after : List ℕ) (same : SameBuffers ws after) where
    pub io_same : (l : ℕ) (k : ShapeLink) → LinkAt p l k → (a : ℕ) → a ≤ delay_by k
        → get_or after (io_place p.shape l a) 0 ≡ get_or ws (io_place p.shape l a) 0
    io_same l k at a h = same (io_place p.shape l a) (inl (w.io_in l a k at h))

    pub readers_same : (q b : ℕ) (x : PoolShape) → PoolAt p q x → b < x.blocks
        → get_or after (readers_place p.shape q b) 0 ≡ get_or ws (readers_place p.shape q b) 0
    readers_same q b x at h = same (readers_place p.shape q b) (inr (w.readers_in q b x at h).0)

    pub samples_same : (q b i : ℕ) (x : PoolShape) → PoolAt p q x → b < x.blocks
        → get_or after (sample_place p.shape q b i) 0 ≡ get_or ws (sample_place p.shape q b i) 0
    samples_same q b i x at h = let r = (w.readers_in q b x at h).0 in same (sample_place p.shape q b i) (inr (omega arith))

  -- no node ends
  pub buffers_stay : (s t : ℕ → Span) (ends : Ends) (e : Samples) (ws after : List ℕ) → Wired p
      → ((n : ℕ) → n < nodes p → (t n).ended ≡ (s n).ended) → ((n : ℕ) → n < nodes p → (s n).begun ≤ (t n).begun) → SameBuffers ws after
      → Buffers p s ends e ws → Buffers p t ends e after
  buffers_stay s t ends e ws after w ended begun same b = record {
    links = λ q l x k at c to. let o = b.links q l x k at c to in let m = w.from_in l k to in let n = w.to_in l k to in
        let a = ended (p.index k.from.node) m in let d = ended (p.index k.to.node) n in let wt = o.writer_turn.0 in
        let rt = o.reader_turn.0 in
        link_stays (first p) x.blocks k (s (p.index k.from.node)) (s (p.index k.to.node)) (t (p.index k.from.node)) (t (p.index k.to.node))
        (ends.writes l) (ends.reads l) (λ i. get_or ws (io_place p.shape l i) 0) (λ i. get_or after (io_place p.shape l i) 0) o
        (omega arith) (begun (p.index k.from.node) m) (omega arith) (begun (p.index k.to.node) n) (io_same w ws after same l k to);
    blocks = λ q n x at h. let o = b.blocks q n x at h in let m = (made p w q x at).0 in let up = ended (p.index x.port.node) m in
        let more = begun (p.index x.port.node) m in
        let st : stamp (t (p.index x.port.node)).ended (ends.blocks q n) ≡ stamp (s (p.index x.port.node)).ended (ends.blocks q n) =
        ap (λ k. stamp k (ends.blocks q n)) up in record {
          low = λ z. let y = o.low z in omega arith;
          high = λ z. let y = o.high z in omega arith;
          full = o.full;
          readers = readers_same w ws after same q n x at h ∙ o.readers;
          samples = λ i l. samples_same w ws after same q n i x at h ∙ o.samples i l ∙ ap (λ k. packed (samples_of p e k q) i) (sym st);
        };
    pools = λ q x at. let o = b.pools q x at in let m = (made p w q x at).0 in let up = ended (p.index x.port.node) m in
        subst (λ k. PoolOk p x record { ended = k; begun = (t (p.index x.port.node)).begun } (ends.reclaimed q) ends.writes (ends.blocks q)) (sym up) record {
          reclaims = o.reclaims;
          named = o.named;
          apart = o.apart;
          near = o.near;
        };
  }
