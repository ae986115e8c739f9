-- From pool to pool of a node that writes.
use Rattle.std.proofs.Common.{◌≡◌, ◌≢◌, ℕ, ℤ, ◌+◌, ◌<◌, ◌≤◌, false, List, [], length, get_or, take, refl, sym, ap, ◌∙◌}
use Rattle.std.proofs.Common.{subst, arith}
use Rattle.std.proofs.Common.{inl, inr, ⊎_elim, length-set, get_or-set_same, get_or-set_other}
use Rattle.std.specs.Prelude.{Contains}
use Rattle.std.proofs.lemmas.Option.{slice_get-get_or}
use Rattle.std.specs.Vec.{with_item}
use Rattle.std.proofs.lemmas.Bool.{cases_lt}
use Rattle.std.proofs.lemmas.List.{get_or_default, get_or_past}
use Rattle.pw_graph.specs.declared.pools.PoolShape.{PoolShape}
use Rattle.pw_graph.specs.Pools.{pools_of}
use Rattle.board_rule.specs.declared.view.WriteView.{WriteView}
use Rattle.board_rule.specs.declared.view.BlockView.{BlockView}
use Rattle.board_rule.specs.declared.view.View.{View}
use Rattle.board_rule.specs.Layout.{BoardLayout, first}
use Rattle.board_rule.specs.View.{node_of}
use Rattle.board_rule.specs.buffers.SampleWords.{samples_in}
use Rattle.board_rule.specs.buffers.Spans.{block_at}
use Rattle.board_rule.specs.buffers.EndViews.{no_pool, pool_at, filler_of, write_of, block_of}
use Rattle.board_rule.specs.activation.SeatNodes.{IsCycle, IsMember}
use Rattle.board_rule.specs.buffers.BlockSteps.{fill_cycle}
use Rattle.board_rule.specs.buffers.ReclaimSteps.{reclaimed_of}
use Rattle.board_rule.proofs.buffers.WiredLemmas.{wired, busy_cycles_some}
use Rattle.io_areas.specs.Queue.{Queue}
use Rattle.io_areas.specs.PooledBoard.{IsPooledBoard}
use Rattle.io_areas.specs.Ends.{IsWrittenUpTo}
use Rattle.io_areas.specs.FreeBlocks.{FreeBlocks}
use Rattle.io_areas.specs.OutputTurn.{MayWriteOutput, HasWrittenOutput}
use Rattle.data_loop.specs.declared.own_pools.OwnPools.{OwnPools}
use Rattle.data_loop.specs.OwnPools.{place_of, queue_of, Owns, AreSamePools}
use Rattle.data_loop.specs.working.Writing.{MayFillAll, Puts, IsLeft, AreWritten}
use Rattle.data_loop.specs.turns.Turning.{IsEquipped}
use Rattle.data_loop.proofs.turns.ListLemmas.{taken, take_cases, early_differs, last_taken, still_taken}

pub write_moves : (v w : View) (l c : ℕ) → length w.writes ≡ length v.writes → write_of w l ≡ write_of v l → IsWrittenUpTo v l c
    → IsWrittenUpTo w l c
write_moves v w l c long same e = record {
  there = subst (λ n. l < n) (sym long) e.there;
  loaded = ap (λ (r : WriteView). r.loaded) same ∙ e.loaded;
  stored = ap (λ (r : WriteView). r.stored) same ∙ e.stored;
}

pub stock_moves : (p : BoardLayout) (v w : View) (q c : ℕ) (pool : Queue)
    → ((b : ℕ) → b < (pool_at p q).blocks → block_of p w q b ≡ block_of p v q b) → reclaimed_of w q ≡ reclaimed_of v q
    → FreeBlocks p v q c pool → FreeBlocks p w q c pool
stock_moves p v w q c pool same back s = record {
  size = s.size;
  enough = s.enough;
  listed = λ b here. let h = s.listed b here in (h.0, same b h.0 ∙ h.1);
  once = s.once;
  long = s.long;
  out = λ n r. let o = s.out n r in (o.0, o.1, same o.0 o.1 ∙ o.2);
  one = λ a b n i j e f. s.one a b n i j (sym (same a i) ∙ e) (sym (same b j) ∙ f);
  else = λ b low. ⊎_elim (λ f. inl (same b low ∙ f)) (λ r. inr (r.0, r.1, same b low ∙ r.2)) (s.else b low);
  zero = λ r. same 0 (let some = busy_cycles_some p (pool_at p q) in let e = s.enough in omega arith) ∙ s.zero r;
  unreclaimed = subst (λ n. first p + 1 < n → n ≤ c) (sym back) s.unreclaimed;
}

-- a turn leaves the loop what it works with
pub equipped_moves : (p : BoardLayout) (v : View) (old : OwnPools) (w : View) (new : OwnPools) → length w.blocks ≡ length v.blocks
    → AreSamePools old new → IsEquipped p v old → IsEquipped p w new
equipped_moves p v old w new room same e = record {
  plain = e.plain;
  places = ap (λ (l : List ℕ). length l) same.places ∙ e.places;
  lists = same.free ∙ e.lists ∙ sym long;
  once = λ q r low high has is. e.once q r low high (owned q has) (sym (at q) ∙ is ∙ at r);
  shapes_are = λ q low has. ap (λ (l : List PoolShape). get_or l (place_of new q) no_pool) same.shapes
      ∙ ap (λ n. get_or old.shapes n no_pool) (at q) ∙ e.shapes_are q low (owned q has);
  blocks = λ q low. subst (λ k. block_at p q (pool_at p q).blocks ≤ k) (sym room) (e.blocks q low);
}
  where
    at : (q : ℕ) → place_of new q ≡ place_of old q
    at q = ap (λ (l : List ℕ). get_or l q 0) same.places

    long : length new.shapes ≡ length old.shapes
    long = ap (λ (l : List PoolShape). length l) same.shapes

    owned : (q : ℕ) → Owns new q → Owns old q
    owned q has = subst (λ (x : ℕ × ℕ). x.0 < x.1) (λ i. (at q i, long i)) has

module _ (p : BoardLayout) (v : View) (ws : List WriteView) (bs : List BlockView) (rc : List ℕ) where
  -- other ends of links and other blocks leave the nodes
  pub writes_have : (m : ℕ) → IsMember false p v m → IsMember false p (record v { writes = ws; blocks = bs; reclaimed = rc }) m
  writes_have m h = let o = h.0 in (
    record { inside = o.inside; follows = o.follows; loops = o.loops; owned = o.owned; there = o.there; knows = o.knows; owners = o.owners },
    h.1,
    h.2,
  )

module _ (p : BoardLayout) (plain : IsPooledBoard p) where
  -- a link is of one pool
  pub one_pool : (q r l : ℕ) → q < length (pools_of p.shape) → r < length (pools_of p.shape) → Contains (pool_at p q).links l
      → Contains (pool_at p r).links l
      → q ≡ r
  one_pool q r l a b c d = (wired p plain.sound plain.pooled).one_pool q r l (pool_at p q) (pool_at p r)
      (slice_get-get_or (pools_of p.shape) q no_pool a) (slice_get-get_or (pools_of p.shape) r no_pool b) c d

  module _ (v : View) (old : OwnPools) (pools : List ℕ) (may : MayFillAll p v old pools) where
    pub none_written : AreWritten p v old (take 0 pools) v old
    none_written = record {
      same = refl;
      ends = refl;
      room = refl;
      kept = record { places = refl; shapes = refl; free = refl };
      even = λ q l c _. absurd (omega (arith, c.1));
      stocks = λ q c. absurd (omega (arith, c.1));
      other_links = λ l o. refl;
      other_pools = λ r low o. (refl, (λ b lt. refl), refl);
    }

    there : (q : ℕ) → Contains pools q → q < length (pools_of p.shape)
    there q c = subst (λ r. r < length (pools_of p.shape)) c.2 (may.0 c.0 q c.1).0.has.0

    module _ (k : ℕ) (w : View) (new : OwnPools) (low : k < length pools) (so_far : AreWritten p v old (take k pools) w new) where
      abbrev pool : ℕ
      pool = get_or pools k 0

      was : MayWriteOutput p v pool
      was = (may.0 k 0 low).0

      pub pool_in : pool < length (pools_of p.shape)
      pool_in = was.has.0

      early : (q : ℕ) → Contains (take k pools) q → (q < length (pools_of p.shape)) × (q ≢ pool)
      early q c = (there q (taken pools k q c), (λ e. early_differs pools k may.1 low (subst (Contains (take k pools)) e c)))

      same_cycle : (q : ℕ) → fill_cycle p w q ≡ fill_cycle p v q
      same_cycle q = ap (λ (x : View). fill_cycle p x q) so_far.same

      pub may_write : MayWriteOutput p w pool
      may_write = record {
        has = (
          pool_in,
          subst (λ (x : View). IsMember false p x (filler_of p pool)) (sym so_far.same)
              (writes_have p v w.writes w.blocks w.reclaimed (filler_of p pool) was.has.1),
          subst (λ n. block_at p pool (pool_at p pool).blocks ≤ n) (sym so_far.room) was.has.2,
        );
        runs = ap (λ (x : View). (node_of x (filler_of p pool)).phase) so_far.same ∙ was.runs;
        cycle = subst (IsCycle p) (sym (same_cycle pool)) was.cycle;
        even = λ l c. subst (IsWrittenUpTo w l) (sym (same_cycle pool))
            (write_moves v w l (fill_cycle p v pool) so_far.ends
            (so_far.other_links l (λ q done of_q. let h = early q done in h.1 (one_pool q pool l h.0 pool_in of_q c))) (was.even l c));
      }

      left : IsLeft p v old pool w new
      left = so_far.other_pools pool pool_in (early_differs pools k may.1 low)

      pub has_stock : FreeBlocks p w pool (fill_cycle p w pool) (queue_of new pool)
      has_stock = subst (λ (x : ℕ × Queue). FreeBlocks p w pool x.0 x.1) (λ i. (sym (same_cycle pool) i, sym left.0 i))
          (stock_moves p v w pool (fill_cycle p v pool) (queue_of old pool) left.1 left.2 (may.0 k 0 low).1)

      -- the pool is one of the loop's
      pub owns_it : length new.free.items ≡ length new.shapes → Owns new pool
      owns_it long = ⊎_elim (λ low. low)
          (λ (past : length new.shapes ≤ place_of new pool). let s = has_stock in let size = s.size in let enough = s.enough in
          let some = busy_cycles_some p (pool_at p pool) in
          let none : (queue_of new pool).blocks ≡ 0 = ap (λ (x : Queue). x.blocks)
          (get_or_past new.free.items (place_of new pool) (record { free = []; blocks = 0 }) (omega (arith, past, long))) in
          absurd (omega (arith, size, enough, some, none)))
          (cases_lt (place_of new pool) (length new.shapes))

      pub free_at : length new.free.items ≡ length new.shapes → (x : Queue) → get_or new.free.items (place_of new pool) x ≡ queue_of new pool
      free_at long x = get_or_default new.free.items (place_of new pool) x (record { free = []; blocks = 0 })
          (subst (λ n. place_of new pool < n) (sym long) (owns_it long))

      pub still_puts : (samples : List ℤ) → Puts p v samples pool → Puts p w samples pool
      still_puts samples g = g ∙ sym (ap (λ (x : View). samples_in p x.expect (fill_cycle p x pool) pool) so_far.same)

      module _ (u : View) (x : Queue) (written : HasWrittenOutput p w pool u) (stock : FreeBlocks p u pool (fill_cycle p w pool + 1) x)
          (equipped : IsEquipped p w new) where
        abbrev newer : OwnPools
        newer = record new { free = with_item new.free (place_of new pool) x }

        own : Owns new pool
        own = owns_it equipped.lists

        other : (r : ℕ) → r < length (pools_of p.shape) → r ≢ pool → queue_of newer r ≡ queue_of new r
        other r low o = get_or-set_other new.free.items (place_of new pool) (place_of new r) x (record { free = []; blocks = 0 })
            (λ e. o (sym (equipped.once pool r pool_in low own (sym e))))

        pub one_more : AreWritten p v old (take (k + 1) pools) u newer
        one_more = record {
          same = written.same ∙ ap (λ (y : View). record y { writes = u.writes; blocks = u.blocks; reclaimed = u.reclaimed }) so_far.same;
          ends = written.ends ∙ so_far.ends;
          room = written.room ∙ so_far.room;
          kept = record {
            places = so_far.kept.places;
            shapes = so_far.kept.shapes;
            free = length-set new.free.items (place_of new pool) x ∙ so_far.kept.free;
          };
          even = λ q l c of_q. ⊎_elim
              (λ done. let h = early q done in write_moves w u l (fill_cycle p v q + 1) written.ends
              (written.other_links l (λ d. h.1 (one_pool q pool l h.0 pool_in of_q d))) (so_far.even q l done of_q))
              (λ (e : pool ≡ q). subst (λ i. IsWrittenUpTo u l (fill_cycle p v i + 1)) e
              (subst (λ n. IsWrittenUpTo u l (n + 1)) (same_cycle pool)
              (written.even l (subst (λ i. Contains (pool_at p i).links l) (sym e) of_q))))
              (take_cases pools k q low c);
          stocks = λ q c. ⊎_elim
              (λ done. let h = early q done in subst (FreeBlocks p u q (fill_cycle p v q + 1)) (sym (other q h.0 h.1))
              (stock_moves p w u q (fill_cycle p v q + 1) (queue_of new q) (λ b lt. written.other_pools q b h.0 lt h.1)
              (written.other_reclaims q h.1)
              (so_far.stocks q done)))
              (λ (e : pool ≡ q). subst (λ i. FreeBlocks p u i (fill_cycle p v i + 1) (queue_of newer i)) e
              (subst (λ (y : ℕ × Queue). FreeBlocks p u pool (y.0 + 1) y.1)
              (λ i. (
                same_cycle pool i,
                sym (get_or-set_same new.free.items (place_of new pool) x (record { free = []; blocks = 0 })
                    (subst (λ n. place_of new pool < n) (sym equipped.lists) own)) i,
              ))
              stock))
              (take_cases pools k q low c);
          other_links = λ l o. written.other_links l (o pool (last_taken pools k low))
              ∙ so_far.other_links l (λ q done. o q (still_taken pools k q low done));
          other_pools = λ r lt o. let n : r ≢ pool = λ e. o (subst (Contains (take (k + 1) pools)) (sym e) (last_taken pools k low)) in
              let h = so_far.other_pools r lt (λ done. o (still_taken pools k r low done)) in
              (other r lt n ∙ h.0, (λ b less. written.other_pools r b lt less n ∙ h.1 b less), written.other_reclaims r n ∙ h.2);
        }
