-- Buffer safety, from the rule between any two steps: no block has two writers, or a writer and a reader.
use Rattle.std.proofs.Common.{◌≡◌, ◌≢◌, ℕ, ◌+◌, ◌-◌, ◌<◌, ◌≤◌, Bool, true, cond, length, sym, ap, ◌∙◌, subst, arith, ne_eqb}
use Rattle.std.specs.Prelude.{Contains, slice_index}
use mathlib.Core.Option.{some}
use lib.ListN.{get_elem?}
use Rattle.atomic_table.specs.Table.{State}
use Rattle.pw_graph.specs.declared.shape.ShapeLink.{ShapeLink}
use Rattle.pw_graph.specs.declared.pools.PoolShape.{PoolShape}
use Rattle.pw_graph.specs.Layout.{readers_place}
use Rattle.board_rule.specs.declared.view.ReadView.{ReadView}
use Rattle.board_rule.specs.declared.view.BlockView.{BlockView}
use Rattle.board_rule.specs.declared.view.BlockView.TheVariants.{Free, Filling, Out}
use Rattle.board_rule.specs.declared.view.View.{View}
use Rattle.board_rule.specs.Layout.{BoardLayout}
use Rattle.board_rule.specs.View.{unread}
use Rattle.board_rule.specs.buffers.Spans.{spans, holder, block_at}
use Rattle.board_rule.specs.buffers.BlockReadings.{Ends, is_busy, stamp, busy_cycles}
use Rattle.board_rule.specs.BoardRule.{Holds}
use Rattle.board_rule.specs.buffers.EndViews.{link_at, pool_at, pool_of, reader_of, filler_of, read_of, block_of}
use Rattle.board_rule.specs.buffers.Areas.{delay_by}
use Rattle.board_rule.specs.buffers.BufferReads.{HasPool}
use Rattle.board_rule.specs.buffers.ReaderSteps.{stamp_read, ReadsBlock}
use Rattle.board_rule.specs.buffers.BufferSafety.{AreSafe}
use Rattle.board_rule.proofs.buffers.WiredLemmas.{LinkAt, PoolAt, Wired, wired, late_is}
use Rattle.board_rule.proofs.buffers.PacedLemmas.{paces}
use Rattle.board_rule.proofs.buffers.HolderLemmas.{got, link_there, pool_here, now_running}
use Rattle.board_rule.proofs.buffers.ReaderLemmas.{reads_block, finds_some}

out_free : (n : ℕ) → (let z : BlockView = Out n in z) ≡ Free → ⊥
out_free n z = (cc)

out_filling : (n i : ℕ) → (let z : BlockView = Out n in z) ≡ Filling i → ⊥
out_filling n i z = (cc)

module _ (p : BoardLayout) {S : Type 0} (s : State S View) (h : Holds p s) where
  abbrev ends : Ends
  ends = h.whole.ends

  wires : Wired p
  wires = wired p h.seated.sound h.seated.pooled

  -- a node is of one seat, so no two seats write a block
  pub one_seat : (i j : ℕ) (v u : View) → get_elem? s.views i ≡ some v → get_elem? s.views j ≡ some u → v.number ≤ p.seats
      → v.number ≡ u.number → i ≡ j
  one_seat i j v u a b low e = let k = h.seated.knows i v a in let m = h.seated.knows j u b in
      sym (k.here low) ∙ ap h.whole.seat_at e ∙ m.here (omega arith)

  -- at most one block of a pool is being filled
  pub one_filled : (q a b i j : ℕ) (x : PoolShape) → PoolAt p q x → a < x.blocks → b < x.blocks → ends.blocks q a ≡ Filling i
      → ends.blocks q b ≡ Filling j → a ≡ b
  one_filled q a b i j x at ha hb fa fb = let o = h.buffers.pools q x at in
      let ended : ℕ = (spans p h.whole (p.index x.port.node)).ended in
      o.apart a b ha hb (ap is_busy fa) (ap is_busy fb) (ap (stamp ended) fa ∙ sym (ap (stamp ended) fb))

  -- without a delayed link at most one block of a pool is being filled or out, with one at most two
  pub few_busy : (q a b c : ℕ) (x : PoolShape) → PoolAt p q x → a < x.blocks → b < x.blocks → c < x.blocks → is_busy (ends.blocks q a) ≡ true
      → is_busy (ends.blocks q b) ≡ true → is_busy (ends.blocks q c) ≡ true
      → (busy_cycles p x ≡ 1 → a ≡ b) × (busy_cycles p x ≡ 2 → a ≢ b → b ≢ c → a ≢ c → ⊥)
  few_busy q a b c x at ha hb hc ba bb bc = let o = h.buffers.pools q x at in
      let ab = o.near a b ha hb ba bb in let b_a = o.near b a hb ha bb ba in let b_c = o.near b c hb hc bb bc in
      let c_b = o.near c b hc hb bc bb in let ac = o.near a c ha hc ba bc in let ca = o.near c a hc ha bc ba in (
        (λ one. o.apart a b ha hb ba bb (omega arith)),
        (λ two x₀ y z. let s = stamp_apart q a b x at ha hb ba bb x₀ in let t = stamp_apart q b c x at hb hc bb bc y in
            let u = stamp_apart q a c x at ha hc ba bc z in absurd (by _ _ _ s t u ab b_a b_c c_b ac ca two)),
      )
    where
      stamp_apart : (q a b : ℕ) (x : PoolShape) → PoolAt p q x → a < x.blocks → b < x.blocks → is_busy (ends.blocks q a) ≡ true
          → is_busy (ends.blocks q b) ≡ true → a ≢ b → stamp (spans p h.whole (p.index x.port.node)).ended (ends.blocks q a)
          ≢ stamp (spans p h.whole (p.index x.port.node)).ended (ends.blocks q b)
      stamp_apart q a b x at ha hb ba bb o e = o ((h.buffers.pools q x at).apart a b ha hb ba bb e)

      by : (k m n : ℕ) → k ≢ m → m ≢ n → k ≢ n → k < m + busy_cycles p x → m < k + busy_cycles p x → m < n + busy_cycles p x → n < m + busy_cycles p x → k < n + busy_cycles p x
          → n < k + busy_cycles p x → busy_cycles p x ≡ 2 → ⊥
      by k m n a b c d e f g i j two = omega arith

  -- the reader of the link l is in its turn, and has not yet lowered its block
  pub record IsAtBlock (l : ℕ) (k : ShapeLink) : Type 0 where
    pub runs : (spans p h.whole (p.index k.to.node)).begun ≡ (spans p h.whole (p.index k.to.node)).ended + 1
    pub loaded : (ends.reads l).loaded ≡ (spans p h.whole (p.index k.to.node)).ended + 1
    pub here : (ends.reads l).lowered ≡ (spans p h.whole (p.index k.to.node)).ended

  module _ (l q : ℕ) (k : ShapeLink) (x : PoolShape) (at : LinkAt p l k) (is : PoolAt p q x) (c : Contains x.links l)
      (r : IsAtBlock l k) where
    abbrev block : ℕ
    block = (ends.reads l).id

    -- its block is one of the pool, and out
    pub block_is_out : (block < x.blocks) × (ends.blocks q block ≡ Out ((spans p h.whole (p.index k.to.node)).ended + 1 - delay_by k))
    block_is_out = reads_block p (spans p h.whole) ends h.whole.expect s.words wires
        (paces p h.whole s.words wires h.activations) h.buffers l k at q x is c r.runs r.loaded r.here

    -- so no writer fills it
    pub no_writer : (i : ℕ) → ends.blocks q block ≡ Filling i → ⊥
    no_writer i e = out_filling _ i (sym block_is_out.1 ∙ e)

    -- nor has it, for it is not free
    pub not_free : ends.blocks q block ≡ Free → ⊥
    not_free e = out_free _ (sym block_is_out.1 ∙ e)

    -- and its readers word counts the reader, where the writer would have to find 0
    pub is_counted : 0 < slice_index s.words (readers_place p.shape q block)
    is_counted = finds_some p (spans p h.whole) ends h.whole.expect s.words wires
        (paces p h.whole s.words wires h.activations) h.buffers l k at q x is c r.runs r.loaded r.here

-- what a seat that reads a block shows of it
record Shows (p : BoardLayout) {S : Type 0} (s : State S View) (h : Holds p s) (l b stamp : ℕ) : Type 0 where
  inside : b < (pool_at p (pool_of p l)).blocks
  out : h.whole.ends.blocks (pool_of p l) b ≡ Out stamp
  counted : 0 < slice_index s.words (readers_place p.shape (pool_of p l) b)

shows : (p : BoardLayout) {S : Type 0} (s : State S View) (h : Holds p s) (i l b : ℕ) (is_driver : Bool) (v : View)
    → get_elem? s.views i ≡ some v → ReadsBlock is_driver p v l b → Shows p s h l b (stamp_read is_driver p v l)
shows p s h i l b is_driver v at r =
    let g = h.whole in let w = wires p s h in let k : ShapeLink = link_at p l in let there = link_there p l r.0.0.0 in
    let now = now_running p s h i is_driver v (reader_of p l) at r.0.0.2 r.0.0.3 in let c = now.0 in
    let is : g.ends.reads l ≡ read_of v l = sym (got v.reads l (g.ends.reads l) (unread 0)
    ((h.seated.knows i v at).ends.of_read l k there now.2)) in
    let q : ℕ = pool_of p l in let pool = pool_here p w l k there in
    let in_turn : IsAtBlock p s h l k = record {
      runs = now.1;
      loaded = ap (λ (z : ReadView). z.loaded) is ∙ r.0.1 ∙ ap (λ n. n + 1) (sym c);
      here = ap (λ (z : ReadView). z.lowered) is ∙ r.1 ∙ sym c;
    } in
    let o = block_is_out p s h l q k (pool_at p q) there pool.0 pool.1 in_turn in
    let number : b ≡ (g.ends.reads l).id = r.0.3 ∙ ap (λ (z : ReadView). z.id) (sym is) in
    let late = late_is p l k there in
    let same : (spans p g (reader_of p l)).ended + 1 - delay_by k ≡ stamp_read is_driver p v l = omega arith in record {
      inside = let z = o.0 in omega arith;
      out = ap (g.ends.blocks q) number ∙ o.1 ∙ ap (λ n. let z : BlockView = Out n in z) same;
      counted = subst (λ n. 0 < slice_index s.words (readers_place p.shape q n)) (sym number)
          (is_counted p s h l q k (pool_at p q) there pool.0 pool.1 in_turn);
    }

-- so buffers are safe, whatever the seats
pub are_safe : (p : BoardLayout) {S : Type 0} (s : State S View) → Holds p s → AreSafe p s.words s.views
are_safe p s h = record {
  one_writer = λ i j q b v u at to x y. let a = x.0.1.0 in let c = y.0.1.0 in let low = a.loops in let mine = a.owned in
      one_seat p s h i j v u at to (omega arith) (sym a.owned ∙ c.owned);
  no_reader = λ i j l b is_driver v u at to r x. let o = shows p s h i l b is_driver v at r in
      x.2 (stamp_read is_driver p v l) (as_known j l b (stamp_read is_driver p v l) u to r.0.0.0 x.0 o.inside o.out);
  is_out = λ i j l b is_driver v u at to r x. let o = shows p s h i l b is_driver v at r in
      (o.inside, as_known j l b (stamp_read is_driver p v l) u to r.0.0.0 x o.inside o.out);
  is_counted = λ i l b is_driver v at r. (shows p s h i l b is_driver v at r).counted;
}
  where
    -- the seat that fills the pool knows it
    as_known : (j l b n : ℕ) (u : View) → get_elem? s.views j ≡ some u → l < length p.shape.links → HasPool p u (pool_of p l)
        → b < (pool_at p (pool_of p l)).blocks → h.whole.ends.blocks (pool_of p l) b ≡ Out n → block_of p u (pool_of p l) b ≡ Out n
    as_known j l b n u to inside x low out = let q : ℕ = pool_of p l in let m : ℕ = filler_of p q in let has = x.1.0 in
        let pool = pool_here p (wires p s h) l (link_at p l) (link_there p l inside) in
        let holds : holder p m ≡ u.number = ap (λ z. cond z p.seats (p.seat_of m)) (ne_eqb m p.driver has.follows) ∙ has.owned in
        got u.blocks (block_at p q b) (h.whole.ends.blocks q b) Free ((h.seated.knows j u to).ends.of_block q b (pool_at p q) pool.0 low holds) ∙ out
