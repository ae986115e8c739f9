-- A node that ends a cycle keeps the buffer rule: its pools are published, and the links into it are given back.
use Rattle.std.proofs.Common.{◌≡◌, ◌≢◌, ℕ, ◌+◌, ◌<◌, ◌≤◌, true, List, get_or, refl, sym, ap, ◌∙◌, arith}
use mathlib.Core.Logic.{dite}
use native.Mathlib.Decide.{ℕ_discrete}
use Rattle.pw_graph.specs.declared.ids.PortId.{PortId}
use Rattle.pw_graph.specs.declared.shape.ShapeLink.{ShapeLink}
use Rattle.pw_graph.specs.declared.pools.PoolShape.{PoolShape}
use Rattle.board_rule.specs.declared.view.BlockView.{BlockView}
use Rattle.board_rule.specs.declared.view.BlockView.TheVariants.{Free, Filling, Out}
use Rattle.pw_graph.specs.Layout.{io_place}
use Rattle.board_rule.specs.Layout.{BoardLayout, nodes, first}
use Rattle.board_rule.specs.start.StartViews.{Samples}
use Rattle.board_rule.specs.buffers.SampleWords.{packed, samples_of}
use Rattle.board_rule.specs.buffers.Areas.{Span}
use Rattle.board_rule.specs.buffers.BufferRule.{BlockOk, Buffers}
use Rattle.board_rule.specs.buffers.BlockReadings.{Ends, is_busy, stamp, busy_cycles}
use Rattle.board_rule.proofs.buffers.WiredLemmas.{LinkAt, PoolAt, Wired, made, busy_cycles_some}
use Rattle.board_rule.proofs.buffers.DelayByLemmas.{link_stays}
use Rattle.board_rule.proofs.buffers.BuffersStayLemmas.{SameBuffers, io_same, readers_same, samples_same}
use Rattle.board_rule.proofs.buffers.PacedLemmas.{Paced}
use Rattle.board_rule.proofs.buffers.ReclaimLemmas.{reclaimed_most}

fill_out : (j n : ℕ) → (let z : BlockView = Filling j in z) ≡ Out n → ⊥
fill_out j n z = (cc)

module _ (p : BoardLayout) where
  -- all links of the index m are done with in the cycle that it runs in
  pub record Ready (s : ℕ → Span) (ends : Ends) (m : ℕ) : Type 0 where
    pub wrote : (l : ℕ) (k : ShapeLink) → LinkAt p l k → p.index k.from.node ≡ m → (ends.writes l).stored ≡ (s m).begun
    pub gave : (l : ℕ) (k : ShapeLink) → LinkAt p l k → p.index k.to.node ≡ m → (ends.reads l).stored ≡ (s m).begun

  -- the block that m announced in this cycle: no other of its pool is being filled, and no block is
  -- due
  newest : (s : ℕ → Span) (ends : Ends) (e : Samples) (ws : List ℕ) (m q : ℕ) (x : PoolShape) → Wired p → Paced p s → Ready s ends m
      → (s m).begun ≡ (s m).ended + 1 → Buffers p s ends e ws → PoolAt p q x → p.index x.port.node ≡ m
      → (b : ℕ) → b < x.blocks → is_busy (ends.blocks q b) ≡ true
      → ((i : ℕ) → ends.blocks q b ≡ Filling i → ⊥) × ((s m).ended + 1 < stamp (s m).ended (ends.blocks q b) + busy_cycles p x)
  newest s ends e ws m q x w paced ready runs b at is n h busy =
      let a = w.linked q x at in let l : ℕ = a.0 in let k = w.there q l x at a.1 in let o = b.links q l x k.0 at a.1 k.1 in
      let from : p.index k.0.from.node ≡ m = ap (λ (z : PortId). p.index z.node) k.2 ∙ is in
      let stored = ready.wrote l k.0 k.1 from in
      let f = paced.first (p.index k.0.from.node) (w.from_in l k.0 k.1) in
      let ended : (s (p.index k.0.from.node)).ended ≡ (s m).ended = ap (λ z. (s z).ended) from in
      let mine : (s (p.index x.port.node)).ended ≡ (s m).ended = ap (λ z. (s z).ended) is in
      let begun : (s (p.index k.0.from.node)).begun ≡ (s m).begun = ap (λ z. (s z).begun) from in
      let wt = o.writer_turn in let w₂ = wt.2 in
      let some = busy_cycles_some p x in let ok = b.pools q x at in
      let id : (ends.writes l).id < x.blocks = o.named 0 (omega arith) (omega arith) in
      let low = reclaimed_most p x (ends.reclaimed q) ends.writes (ends.blocks q) ok.reclaims l ((s m).ended + 1) a.1 (omega arith) (omega arith) in
      let out : ends.blocks q (ends.writes l).id ≡ Out ((s m).ended + 1) =
      (ok.named l a.1).out 0 ((s m).ended + 1) (omega arith) (omega arith) (omega arith) (omega arith) in
      let st : stamp (s (p.index x.port.node)).ended (ends.blocks q (ends.writes l).id) ≡ (s m).ended + 1 =
      ap (stamp (s (p.index x.port.node)).ended) out in
      let near = ok.near (ends.writes l).id n id h (ap is_busy out) busy in
      let same : stamp (s (p.index x.port.node)).ended (ends.blocks q n) ≡ stamp (s m).ended (ends.blocks q n) =
      ap (λ z. stamp z (ends.blocks q n)) mine in (
        (λ i fill. let sn : stamp (s (p.index x.port.node)).ended (ends.blocks q n) ≡ (s (p.index x.port.node)).ended + 1 =
            ap (stamp (s (p.index x.port.node)).ended) fill in
            let it = ok.apart n (ends.writes l).id h id busy (ap is_busy out) (omega arith) in
            fill_out i ((s m).ended + 1) (sym fill ∙ ap (ends.blocks q) it ∙ out)),
        omega arith,
      )

  -- so its stamp is the same whatever its node has ended
  steady : (a c : ℕ) (y : BlockView) → ((i : ℕ) → y ≡ Filling i → ⊥) → stamp a y ≡ stamp c y
  steady a c Free only = refl
  steady a c (Filling i) only = absurd (only i refl)
  steady a c (Out k) only = refl

  not_filling : (y : BlockView) → (is_busy y ≡ true → (i : ℕ) → y ≡ Filling i → ⊥) → (i : ℕ) → y ≡ Filling i → ⊥
  not_filling y only i z = only (ap is_busy z) i z

  pub buffers_finish : (s t : ℕ → Span) (ends : Ends) (e : Samples) (ws after : List ℕ) (m : ℕ) → Wired p → m < nodes p → Paced p s
      → Ready s ends m → (s m).begun ≡ (s m).ended + 1 → (t m).ended ≡ (s m).ended + 1
      → ((n : ℕ) → n < nodes p → n ≢ m → (t n).ended ≡ (s n).ended)
      → ((n : ℕ) → n < nodes p → (s n).begun ≤ (t n).begun) → SameBuffers p ws after → Buffers p s ends e ws → Buffers p t ends e after
  buffers_finish s t ends e ws after m w hm paced ready runs ends_now ended begun same b = record {
    links = λ q l x k at c to. let o = b.links q l x k at c to in let hf = w.from_in l k to in let ht = w.to_in l k to in
        let wt = o.writer_turn.0 in let rt = o.reader_turn.0 in
        link_stays (first p) x.blocks k (s (p.index k.from.node)) (s (p.index k.to.node)) (t (p.index k.from.node)) (t (p.index k.to.node))
        (ends.writes l) (ends.reads l) (λ i. get_or ws (io_place p.shape l i) 0) (λ i. get_or after (io_place p.shape l i) 0) o
        (dite (ℕ_discrete (p.index k.from.node) m)
        (λ z. let a = ready.wrote l k to z in let d : (t (p.index k.from.node)).ended ≡ (t m).ended = ap (λ i. (t i).ended) z in omega arith)
        (λ z. let a = ended (p.index k.from.node) hf z in omega arith))
        (begun (p.index k.from.node) hf)
        (dite (ℕ_discrete (p.index k.to.node) m)
        (λ z. let a = ready.gave l k to z in let d : (t (p.index k.to.node)).ended ≡ (t m).ended = ap (λ i. (t i).ended) z in omega arith)
        (λ z. let a = ended (p.index k.to.node) ht z in omega arith))
        (begun (p.index k.to.node) ht) (io_same p w ws after same l k to);
    blocks = λ q n x at h. dite (ℕ_discrete (p.index x.port.node) m) (λ z. mine q n x at h z) (λ z. others q n x at h z);
    pools = λ q x at. let o = b.pools q x at in record {
      reclaims = o.reclaims;
      named = o.named;
      apart = λ a c ha hc ba bc z. o.apart a c ha hc ba bc (stays q x at a ha ba ∙ z ∙ sym (stays q x at c hc bc));
      near = λ a c ha hc ba bc. let z = o.near a c ha hc ba bc in let u = stays q x at a ha ba in let v = stays q x at c hc bc in
          omega arith;
    };
  }
    where
      -- busy blocks keep their stamps
      stays : (q : ℕ) (x : PoolShape) → PoolAt p q x → (n : ℕ) → n < x.blocks → is_busy (ends.blocks q n) ≡ true
          → stamp (s (p.index x.port.node)).ended (ends.blocks q n) ≡ stamp (t (p.index x.port.node)).ended (ends.blocks q n)
      stays q x at n h busy = dite (ℕ_discrete (p.index x.port.node) m)
          (λ z. steady (s (p.index x.port.node)).ended (t (p.index x.port.node)).ended (ends.blocks q n)
          (newest s ends e ws m q x w paced ready runs b at z n h busy).0)
          (λ z. ap (λ j. stamp j (ends.blocks q n)) (sym (ended (p.index x.port.node) (made p w q x at).0 z)))

      -- a block of another node
      others : (q n : ℕ) (x : PoolShape) → PoolAt p q x → n < x.blocks → p.index x.port.node ≢ m
          → BlockOk p q n x (t (p.index x.port.node)) ends.reads e (ends.blocks q n) after
      others q n x at h z = let o = b.blocks q n x at h in let k = (made p w q x at).0 in let up = ended (p.index x.port.node) k z in
          let more = begun (p.index x.port.node) k in
          let st : stamp (t (p.index x.port.node)).ended (ends.blocks q n) ≡ stamp (s (p.index x.port.node)).ended (ends.blocks q n) =
          ap (λ j. stamp j (ends.blocks q n)) up in record {
            low = λ y. let u = o.low y in omega arith;
            high = λ y. let u = o.high y in omega arith;
            full = o.full;
            readers = readers_same p w ws after same q n x at h ∙ o.readers;
            samples = λ i l. samples_same p w ws after same q n i x at h ∙ o.samples i l ∙ ap (λ j. packed (samples_of p e j q) i) (sym st);
          }

      -- one of m: free, or out for a cycle more
      mine : (q n : ℕ) (x : PoolShape) → PoolAt p q x → n < x.blocks → p.index x.port.node ≡ m
          → BlockOk p q n x (t (p.index x.port.node)) ends.reads e (ends.blocks q n) after
      mine q n x at h z = let o = b.blocks q n x at h in let more = begun (p.index x.port.node) (made p w q x at).0 in
          let same_s : (s (p.index x.port.node)).ended ≡ (s m).ended = ap (λ j. (s j).ended) z in
          let same_t : (t (p.index x.port.node)).ended ≡ (t m).ended = ap (λ j. (t j).ended) z in
          let new = newest s ends e ws m q x w paced ready runs b at z n h in
          let st = steady (s (p.index x.port.node)).ended (t (p.index x.port.node)).ended (ends.blocks q n)
          (not_filling (ends.blocks q n) (λ u. (new u).0)) in
          let sm : stamp (s (p.index x.port.node)).ended (ends.blocks q n) ≡ stamp (s m).ended (ends.blocks q n) =
          ap (λ j. stamp j (ends.blocks q n)) same_s in record {
            low = λ u. let v = (new u).1 in omega arith;
            high = λ u. let v = o.high u in omega arith;
            full = o.full;
            readers = readers_same p w ws after same q n x at h ∙ o.readers;
            samples = λ i l. samples_same p w ws after same q n i x at h ∙ o.samples i l ∙ ap (λ j. packed (samples_of p e j q) i) st;
          }
