-- The buffer rule where one block changes.
use Rattle.std.proofs.Common.{◌≡◌, ◌≢◌, ℕ, ◌+◌, ◌<◌, ◌≤◌, ⊎_elim, true, List, get_or, sym, ap, ◌∙◌, subst, arith}
use Rattle.std.specs.Prelude.{Contains}
use mathlib.Core.Logic.{dite}
use native.Mathlib.Decide.{ℕ_discrete}
use Rattle.pw_graph.specs.declared.pools.PoolShape.{PoolShape}
use Rattle.pw_graph.specs.Layout.{io_place, readers_place, sample_place}
use Rattle.board_rule.specs.declared.view.BlockView.{BlockView}
use Rattle.board_rule.specs.Layout.{BoardLayout, first}
use Rattle.board_rule.specs.start.StartViews.{Samples}
use Rattle.board_rule.specs.View.{put}
use Rattle.board_rule.specs.buffers.Areas.{Span}
use Rattle.board_rule.specs.declared.view.WriteView.{WriteView}
use Rattle.board_rule.specs.declared.view.BlockView.TheVariants.{Free, Out}
use Rattle.board_rule.specs.buffers.Areas.{stored_id}
use Rattle.board_rule.specs.buffers.BufferRule.{NamesBlocks, BlockOk, Reclaims, PoolOk, Buffers}
use Rattle.board_rule.specs.buffers.BlockReadings.{Ends, is_busy, stamp, delay_at, busy_cycles}
use Rattle.board_rule.proofs.start.SeatLemmas.{put_here, put_else}
use Rattle.board_rule.proofs.buffers.WiredLemmas.{PoolAt, Wired, busy_cycles_some}
use Rattle.board_rule.proofs.buffers.DelayByLemmas.{link_stays}

-- what is known after a step on the block b of the pool q, and where it is free since the cycle before r
abbrev pub with_block : Ends → ℕ → ℕ → BlockView → Ends
with_block ends q b y = record ends { blocks = put ends.blocks q (put (ends.blocks q) b y) }

abbrev pub with_free : Ends → ℕ → ℕ → ℕ → Ends
with_free ends q b r = record (with_block ends q b Free) { reclaimed = put ends.reclaimed q r }

module _ (ends : Ends) (q b : ℕ) (y : BlockView) where
  pub block_here : (with_block ends q b y).blocks q b ≡ y
  block_here = ap (λ (f : ℕ → BlockView). f b) (put_here ends.blocks q (put (ends.blocks q) b y)) ∙ put_here (ends.blocks q) b y

  pub block_else : (r c : ℕ) → ((r ≡ q) × (c ≡ b) → ⊥) → (with_block ends q b y).blocks r c ≡ ends.blocks r c
  block_else r c o = dite (ℕ_discrete r q)
      (λ z. ap (λ i. put ends.blocks q (put (ends.blocks q) b y) i c) z
      ∙ ap (λ (f : ℕ → BlockView). f c) (put_here ends.blocks q (put (ends.blocks q) b y))
      ∙ put_else (ends.blocks q) b c y (λ v. o (z, v)) ∙ ap (λ i. ends.blocks i c) (sym z))
      (λ z. ap (λ (f : ℕ → BlockView). f c) (put_else ends.blocks q r (put (ends.blocks q) b y) z))

module _ (p : BoardLayout) where
  -- what a link names is out for no longer where its pool is reclaimed further
  pub names_later : (x : PoolShape) (late before now : ℕ) (w : WriteView) (blocks : ℕ → BlockView) → before ≤ now
      → NamesBlocks p x late before w blocks → NamesBlocks p x late now w blocks
  names_later x late before now w blocks h o = record {
    out = λ a n l e f z. o.out a n l e f (omega arith);
    zero = o.zero;
    names = o.names;
  }

  -- the reclaims of a pool where the block n becomes y
  pub reclaims_put : (x : PoolShape) (r n : ℕ) (writes : ℕ → WriteView) (blocks : ℕ → BlockView) (y : BlockView)
      → Reclaims p x r writes blocks → ((m : ℕ) → y ≡ Out m → r < m + busy_cycles p x) → Reclaims p x r writes (put blocks n y)
  reclaims_put x r n writes blocks y o new = record {
    begun = o.begun;
    turn = o.turn;
    until = λ c m h is. dite (ℕ_discrete c n) (λ u. new m (sym (put_here blocks n y) ∙ ap (put blocks n y) (sym u) ∙ is))
        (λ u. o.until c m h (sym (put_else blocks n c y u) ∙ is));
  }

  -- a link of the pool x names the same blocks after the block n became y: it was no block that the link names, and if it is
  -- out now, the link names it
  pub names_put : (x : PoolShape) (late reclaimed n : ℕ) (w : WriteView) (blocks : ℕ → BlockView) (y : BlockView)
      → NamesBlocks p x late reclaimed w blocks
      → ((m : ℕ) → reclaimed < m + busy_cycles p x → blocks n ≡ Out m → ⊥)
      → ((a m : ℕ) → a ≤ late → m + a ≡ w.stored → first p < m + late → y ≡ Out m → stored_id w a ≡ n)
      → NamesBlocks p x late reclaimed w (put blocks n y)
  names_put x late reclaimed n w blocks y o gone new = record {
    out = λ a m h i j z. put_else blocks n (stored_id w a) y
        (λ u. gone m z (ap blocks (sym u) ∙ o.out a m h i j z)) ∙ o.out a m h i j z;
    zero = o.zero;
    names = λ a m c h i j low is. dite (ℕ_discrete c n)
        (λ u. new a m h i j (sym (put_here blocks n y) ∙ ap (put blocks n y) (sym u) ∙ is) ∙ sym u)
        (λ u. o.names a m c h i j low (sym (put_else blocks n c y u) ∙ is));
  }

  -- the stamps of two busy blocks of a pool
  abbrev pub AreNear : PoolShape → ℕ → BlockView → BlockView → Type 0
  AreNear x ended a y = (stamp ended a ≢ stamp ended y) × (stamp ended a < stamp ended y + busy_cycles p x) × (stamp ended y < stamp ended a + busy_cycles p x)

module _ (p : BoardLayout) (s : ℕ → Span) (ends : Ends) (e : Samples) (ws after : List ℕ) (w : Wired p) (q n : ℕ) (x : PoolShape)
    (at : PoolAt p q x) (inside : n < x.blocks) (b : Buffers p s ends e ws) where
  -- the block n of the pool q becomes y, and only its words change; `done` has the reclaims then
  pub buffers_block : (y : BlockView) (done : ℕ → ℕ) → ((i : ℕ) → i ≢ q → done i ≡ ends.reclaimed i)
      → Reclaims p x (done q) ends.writes (put (ends.blocks q) n y)
      → BlockOk p q n x (s (p.index x.port.node)) ends.reads e y after
      → ((l : ℕ) → Contains x.links l → NamesBlocks p x (delay_at p l) (done q) (ends.writes l) (put (ends.blocks q) n y))
      → ((a : ℕ) → a < x.blocks → a ≢ n → is_busy (ends.blocks q a) ≡ true → is_busy y ≡ true
      → AreNear p x (s (p.index x.port.node)).ended (ends.blocks q a) y)
      → ((j : ℕ) → (readers_place p.shape q n ≤ j → j ≤ readers_place p.shape q n + x.words → ⊥) → get_or after j 0 ≡ get_or ws j 0)
      → Buffers p s (record (with_block ends q n y) { reclaimed = done }) e after
  buffers_block y done others reclaims ok names near same = record {
    links = λ r l z k to c is. let o = b.links r l z k to c is in let t₀ = o.writer_turn.0 in let t₁ = o.reader_turn.0 in
        let f = (w.readers_in q n x at inside).0 in
        link_stays (first p) z.blocks k (s (p.index k.from.node)) (s (p.index k.to.node)) (s (p.index k.from.node)) (s (p.index k.to.node))
        (ends.writes l) (ends.reads l) (λ i. get_or ws (io_place p.shape l i) 0) (λ i. get_or after (io_place p.shape l i) 0) o
        t₀ (omega arith) t₁ (omega arith)
        (λ i h. same (io_place p.shape l i) (λ u v. let j = (w.io_in l i k is h).1 in omega arith));
    blocks = λ r c z to h. dite (ℕ_discrete r q)
        (λ u. dite (ℕ_discrete c n) (λ v. here r c z to u v) (λ v. other r c z to h (λ t. v t.1)))
        (λ u. other r c z to h (λ t. u t.0));
    pools = λ r z to. dite (ℕ_discrete r q)
        (λ u. let xz : x ≡ z = cc in subst
        (λ (t : ℕ × PoolShape). PoolOk p t.1 (s (p.index t.1.port.node)) (done t.0) ends.writes ((with_block ends q n y).blocks t.0))
        (λ i. (sym u i, xz i)) (subst (PoolOk p x (s (p.index x.port.node)) (done q) ends.writes) (sym now) mine))
        (λ u. subst (λ (t : ℕ × (ℕ → BlockView)). PoolOk p z (s (p.index z.port.node)) t.0 ends.writes t.1)
        (λ i. (sym (others r u) i, sym (put_else ends.blocks q r (put (ends.blocks q) n y) u) i)) (b.pools r z to));
  }
    where
      now : (with_block ends q n y).blocks q ≡ put (ends.blocks q) n y
      now = put_here ends.blocks q (put (ends.blocks q) n y)

      -- the pool
      mine : PoolOk p x (s (p.index x.port.node)) (done q) ends.writes (put (ends.blocks q) n y)
      mine = let o = b.pools q x at in let ended : ℕ = (s (p.index x.port.node)).ended in
          let some = busy_cycles_some p x in
          let at_n : put (ends.blocks q) n y n ≡ y = put_here (ends.blocks q) n y in
          let else : (c : ℕ) → c ≢ n → put (ends.blocks q) n y c ≡ ends.blocks q c = λ c u. put_else (ends.blocks q) n c y u in
          let near_to : (a : ℕ) → a < x.blocks → a ≢ n → is_busy (put (ends.blocks q) n y a) ≡ true
          → is_busy y ≡ true → AreNear p x ended (put (ends.blocks q) n y a) y =
          λ a h u ba by. subst (λ v. AreNear p x ended v y) (sym (else a u)) (near a h u (ap is_busy (sym (else a u)) ∙ ba) by) in record {
            reclaims = reclaims;
            named = names;
            apart = λ a c ha hc ba bc t. dite (ℕ_discrete a n)
                (λ u. dite (ℕ_discrete c n) (λ v. u ∙ sym v)
                (λ v. absurd ((near_to c hc v bc (ap is_busy (sym at_n ∙ ap (put (ends.blocks q) n y) (sym u)) ∙ ba)).0
                (sym t ∙ ap (stamp ended) (ap (put (ends.blocks q) n y) u ∙ at_n)))))
                (λ u. dite (ℕ_discrete c n)
                (λ v. absurd ((near_to a ha u ba (ap is_busy (sym at_n ∙ ap (put (ends.blocks q) n y) (sym v)) ∙ bc)).0
                (t ∙ ap (stamp ended) (ap (put (ends.blocks q) n y) v ∙ at_n))))
                (λ v. o.apart a c ha hc (ap is_busy (sym (else a u)) ∙ ba) (ap is_busy (sym (else c v)) ∙ bc)
                (ap (stamp ended) (sym (else a u)) ∙ t ∙ ap (stamp ended) (else c v))));
            near = λ a c ha hc ba bc. dite (ℕ_discrete a n)
                (λ u. let sa : stamp ended (put (ends.blocks q) n y a) ≡ stamp ended y =
                ap (stamp ended) (ap (put (ends.blocks q) n y) u ∙ at_n) in dite (ℕ_discrete c n)
                (λ v. let sc : stamp ended (put (ends.blocks q) n y c) ≡ stamp ended y =
                ap (stamp ended) (ap (put (ends.blocks q) n y) v ∙ at_n) in omega arith)
                (λ v. let h = (near_to c hc v bc (ap is_busy (sym at_n ∙ ap (put (ends.blocks q) n y) (sym u)) ∙ ba)).2 in omega arith))
                (λ u. dite (ℕ_discrete c n)
                (λ v. let sc : stamp ended (put (ends.blocks q) n y c) ≡ stamp ended y =
                ap (stamp ended) (ap (put (ends.blocks q) n y) v ∙ at_n) in
                let h = (near_to a ha u ba (ap is_busy (sym at_n ∙ ap (put (ends.blocks q) n y) (sym v)) ∙ bc)).1 in omega arith)
                (λ v. let h = o.near a c ha hc (ap is_busy (sym (else a u)) ∙ ba) (ap is_busy (sym (else c v)) ∙ bc) in
                let sa = ap (stamp ended) (else a u) in let sc = ap (stamp ended) (else c v) in omega arith));
          }

      here : (r c : ℕ) (z : PoolShape) → PoolAt p r z → r ≡ q → c ≡ n
          → BlockOk p r c z (s (p.index z.port.node)) ends.reads e ((with_block ends q n y).blocks r c) after
      here r c z to u v = let xz : x ≡ z = cc in subst
          (λ (t : ℕ × ℕ × PoolShape). BlockOk p t.0 t.1 t.2 (s (p.index t.2.port.node)) ends.reads e
          ((with_block ends q n y).blocks t.0 t.1) after) (λ i. (sym u i, sym v i, xz i))
          (subst (λ t. BlockOk p q n x (s (p.index x.port.node)) ends.reads e t after) (sym (block_here ends q n y)) ok)

      other : (r c : ℕ) (z : PoolShape) → PoolAt p r z → c < z.blocks → ((r ≡ q) × (c ≡ n) → ⊥)
          → BlockOk p r c z (s (p.index z.port.node)) ends.reads e ((with_block ends q n y).blocks r c) after
      other r c z to h o = let k = b.blocks r c z to h in let a = w.apart r q c n z x to at h inside o in let f = k.full in
          subst (λ t. BlockOk p r c z (s (p.index z.port.node)) ends.reads e t after) (sym (block_else ends q n y r c o)) record {
            low = k.low;
            high = k.high;
            full = k.full;
            readers = same (readers_place p.shape r c) (λ u v. ⊎_elim (λ t. omega arith) (λ t. omega arith) a) ∙ k.readers;
            samples = λ i g. same (sample_place p.shape r c i) (λ u v. ⊎_elim (λ t. omega arith) (λ t. omega arith) a) ∙ k.samples i g;
          }
