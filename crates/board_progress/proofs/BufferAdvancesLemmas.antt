-- Each advance on buffers lowers what its seat has left.
use Rattle.std.proofs.Common.{◌≡◌, ◌≢◌, ℕ, suc, ◌+◌, ◌-◌, ◌*◌, ◌<◌, ◌≤◌, ⊎_elim, Bool, true, false, cond, eqb, List, length, set, get_or, refl, sym, ap, ◌∙◌}
use Rattle.std.proofs.Common.{subst, arith, eq-eqb, get_or-set_same, get_or-set_other}
use mathlib.Core.Logic.{dite}
use native.Mathlib.Decide.{dec_le}
use Rattle.pw_graph.specs.declared.pools.PoolShape.{PoolShape}
use Rattle.pw_graph.specs.Pools.{pools_of}
use Rattle.pw_graph.specs.Words.{io_id_in}
use Rattle.board_rule.specs.declared.view.View.{View}
use Rattle.board_rule.specs.declared.view.WriteView.{WriteView}
use Rattle.board_rule.specs.declared.view.ReadView.{ReadView}
use Rattle.board_rule.specs.declared.view.BlockView.{BlockView}
use Rattle.board_rule.specs.declared.view.BlockView.TheVariants.{Free, Filling, Out}
use Rattle.board_rule.specs.Sums.{total}
use Rattle.board_rule.specs.Layout.{BoardLayout, last}
use Rattle.board_rule.specs.View.{unwritten, unread}
use Rattle.board_rule.specs.start.Owners.{holder}
use Rattle.board_rule.specs.Steps.{HasNode}
use Rattle.board_rule.specs.buffers.Spans.{block_at}
use Rattle.board_rule.specs.buffers.EndViews.{pool_at, pool_of, writer_of, reader_of, filler_of, write_of, read_of, block_of, view_write}
use Rattle.board_rule.specs.buffers.WriterSteps.{write_cycle}
use Rattle.board_rule.specs.buffers.BlockSteps.{fill_cycle}
use Rattle.board_rule.specs.buffers.ReclaimSteps.{LoadsReaders, reclaimed_of}
use Rattle.board_rule.specs.buffers.ReaderSteps.{words_read_of, read_cycle}
use Rattle.board_rule.proofs.SumLemmas.{total_change, total_same}
use Rattle.board_rule.proofs.buffers.HolderLemmas.{take_less, pool_there, holder_follows, holder_leads}
use Rattle.board_progress.specs.Moves.{Move}
use Rattle.board_progress.specs.BufferAdvances.{BufferAdvances}
use Rattle.board_progress.specs.BufferAdvances.BufferAdvances.{loads_as_writer, loads_readers, stores_sample, stores_readers, stores_have}
use Rattle.board_progress.specs.BufferAdvances.BufferAdvances.{loads_as_reader, loads_sample, lowers_readers, stores_need}
use Rattle.board_progress.specs.BuffersLeft.{write_left, read_left, block_left, words_at, blocks_left, reclaims_left, steps_left}
use Rattle.board_progress.proofs.StepsLeftLemmas.{one_cycle}

-- some cycles' worth, one at least
some_cycles : (last r c k : ℕ) → r ≤ c → c < last → (last - (c + 1)) * k + k ≤ (last - r) * k
some_cycles last r c k low high = let e : last - r ≡ (last - (c + 1)) + 1 + (c - r) = omega arith in
    let m : ((last - (c + 1)) + 1 + (c - r)) * k ≡ (last - (c + 1)) * k + k + (c - r) * k = grind arith in
    let a : (last - r) * k ≡ ((last - (c + 1)) + 1 + (c - r)) * k = ap (λ d. d * k) e in omega arith

module _ (p : BoardLayout) where
  pub holds_it : (b : Bool) (v : View) (m : ℕ) → HasNode b p v m → holder p m ≡ v.number
  holds_it true v m h = holder_leads p m h.0.0 ∙ sym h.0.1
  holds_it false v m h = holder_follows p m h.0.follows ∙ h.0.owned

  write_falls : (v : View) (l : ℕ) (y : WriteView) → l < length p.shape.links → l < length v.writes → holder p (writer_of p l) ≡ v.number
      → write_left (last p) y < write_left (last p) (write_of v l) → steps_left p (view_write v l y) < steps_left p v
  write_falls v l y inside there mine less =
      let f : ℕ → ℕ = λ i. cond (eqb (holder p (writer_of p i)) v.number) (write_left (last p) (write_of v i)) 0 in
      let g : ℕ → ℕ = λ i. cond (eqb (holder p (writer_of p i)) v.number) (write_left (last p) (write_of (view_write v l y) i)) 0 in
      let own = eq-eqb (holder p (writer_of p l)) v.number mine in
      let c = total_change f g l (length p.shape.links) inside (λ i o. ap (λ (z : WriteView). cond (eqb (holder p (writer_of p i)) v.number) (write_left (last p) z) 0)
      (get_or-set_other v.writes l i y (unwritten 0) o)) in
      let a : f l ≡ write_left (last p) (write_of v l) = ap (λ z. cond z (write_left (last p) (write_of v l)) 0) own in
      let b : g l ≡ write_left (last p) y = ap (λ z. cond z (write_left (last p) (write_of (view_write v l y) l)) 0) own
      ∙ ap (write_left (last p)) (get_or-set_same v.writes l y (unwritten 0) there) in
      let goal : total g (length p.shape.links) < total f (length p.shape.links) = omega arith in omega arith

  -- the reader's end of a link changes: what the seat has left changes as much
  pub read_moves : (v : View) (l : ℕ) (rs : List ReadView) (ws : List ℕ) (fall rise : ℕ) → l < length p.shape.links → holder p (reader_of p l) ≡ v.number
      → ((i : ℕ) → i ≢ l → get_or rs i (unread 0) ≡ read_of v i) → ((i : ℕ) → i ≢ l → get_or ws i 0 ≡ words_read_of v i)
      → read_left (last p) (words_at p (pool_of p l)) (get_or rs l (unread 0)) (get_or ws l 0) + fall
      ≤ read_left (last p) (words_at p (pool_of p l)) (read_of v l) (words_read_of v l) + rise
      → steps_left p (record v { reads = rs; words_read = ws }) + fall ≤ steps_left p v + rise
  read_moves v l rs ws fall rise inside mine same_reads same_words less =
      let f : ℕ → ℕ = λ i. cond (eqb (holder p (reader_of p i)) v.number) (read_left (last p) (words_at p (pool_of p i)) (read_of v i) (words_read_of v i)) 0 in
      let g : ℕ → ℕ = λ i. cond (eqb (holder p (reader_of p i)) v.number) (read_left (last p) (words_at p (pool_of p i)) (get_or rs i (unread 0)) (get_or ws i 0)) 0 in
      let own = eq-eqb (holder p (reader_of p l)) v.number mine in
      let c = total_change f g l (length p.shape.links) inside (λ i o. (λ j. cond (eqb (holder p (reader_of p i)) v.number)
      (read_left (last p) (words_at p (pool_of p i)) (same_reads i o j) (same_words i o j)) 0)) in
      let a : f l ≡ read_left (last p) (words_at p (pool_of p l)) (read_of v l) (words_read_of v l) =
      ap (λ z. cond z (read_left (last p) (words_at p (pool_of p l)) (read_of v l) (words_read_of v l)) 0) own in
      let b : g l ≡ read_left (last p) (words_at p (pool_of p l)) (get_or rs l (unread 0)) (get_or ws l 0) =
      ap (λ z. cond z (read_left (last p) (words_at p (pool_of p l)) (get_or rs l (unread 0)) (get_or ws l 0)) 0) own in
      let goal : total g (length p.shape.links) + fall ≤ total f (length p.shape.links) + rise = omega arith in omega arith

  read_falls : (v : View) (l : ℕ) (rs : List ReadView) (ws : List ℕ) → l < length p.shape.links → holder p (reader_of p l) ≡ v.number
      → ((i : ℕ) → i ≢ l → get_or rs i (unread 0) ≡ read_of v i) → ((i : ℕ) → i ≢ l → get_or ws i 0 ≡ words_read_of v i)
      → read_left (last p) (words_at p (pool_of p l)) (get_or rs l (unread 0)) (get_or ws l 0)
      < read_left (last p) (words_at p (pool_of p l)) (read_of v l) (words_read_of v l)
      → steps_left p (record v { reads = rs; words_read = ws }) < steps_left p v
  read_falls v l rs ws inside mine same_reads same_words less =
      let m = read_moves v l rs ws 1 0 inside mine same_reads same_words (omega arith) in omega arith

  -- blocks of other pools are elsewhere
  pools_apart : (q r b c : ℕ) → q < length (pools_of p.shape) → b < (pool_at p q).blocks → r ≢ q → c < (pool_at p r).blocks → block_at p r c ≢ block_at p q b
  pools_apart q r b c inside low other lt e = dite (dec_le (suc r) q)
      (λ z. let a = take_less (λ (k : PoolShape). k.blocks) (pools_of p.shape) r q (pool_at p r) (omega arith) (pool_there p r (omega arith)) in omega arith)
      (λ z. let a = take_less (λ (k : PoolShape). k.blocks) (pools_of p.shape) q r (pool_at p q) (omega arith) (pool_there p q inside) in omega arith)

  -- one block of a pool changes, and when it was reclaimed
  pool_falls : (v : View) (q b : ℕ) (y : BlockView) (rc : List ℕ) → q < length (pools_of p.shape) → b < (pool_at p q).blocks → block_at p q b < length v.blocks
      → holder p (filler_of p q) ≡ v.number → ((r : ℕ) → r ≢ q → get_or rc r 0 ≡ reclaimed_of v r)
      → (last p - get_or rc q 0) * (words_at p q + 2) + block_left (words_at p q) y
      < reclaims_left p v q + block_left (words_at p q) (block_of p v q b)
      → steps_left p (record v { blocks = set v.blocks (block_at p q b) y; reclaimed = rc }) < steps_left p v
  pool_falls v q b y rc inside low there mine same less =
      let w : ℕ = words_at p q in
      let f : ℕ → ℕ = λ r. cond (eqb (holder p (filler_of p r)) v.number) (reclaims_left p v r + blocks_left p v r) 0 in
      let u : View = record v { blocks = set v.blocks (block_at p q b) y; reclaimed = rc } in
      let g : ℕ → ℕ = λ r. cond (eqb (holder p (filler_of p r)) v.number) (reclaims_left p u r + blocks_left p u r) 0 in
      let own = eq-eqb (holder p (filler_of p q)) v.number mine in
      let others : (r : ℕ) → r ≢ q → g r ≡ f r = λ r o.
      let s₁ : reclaims_left p u r ≡ reclaims_left p v r = ap (λ k. (last p - k) * (words_at p r + 2)) (same r o) in
      let s₂ : blocks_left p u r ≡ blocks_left p v r = total_same (λ c. block_left (words_at p r) (block_of p v r c)) (λ c. block_left (words_at p r) (block_of p u r c))
      (pool_at p r).blocks (λ c lt. ap (block_left (words_at p r))
      (get_or-set_other v.blocks (block_at p q b) (block_at p r c) y Free (pools_apart q r b c inside low o lt))) in
      (λ j. cond (eqb (holder p (filler_of p r)) v.number) (s₁ j + s₂ j) 0) in
      let c = total_change f g q (length (pools_of p.shape)) inside others in
      let d = total_change (λ c. block_left w (block_of p v q c)) (λ c. block_left w (block_of p u q c)) b (pool_at p q).blocks low
      (λ i o. ap (block_left w) (get_or-set_other v.blocks (block_at p q b) (block_at p q i) y Free (λ z. o (omega arith)))) in
      let new : block_left w (block_of p u q b) ≡ block_left w y = ap (block_left w) (get_or-set_same v.blocks (block_at p q b) y Free there) in
      let a : f q ≡ reclaims_left p v q + blocks_left p v q = ap (λ z. cond z (reclaims_left p v q + blocks_left p v q) 0) own in
      let e : g q ≡ reclaims_left p u q + blocks_left p u q = ap (λ z. cond z (reclaims_left p u q + blocks_left p u q) 0) own in
      let goal : total g (length (pools_of p.shape)) < total f (length (pools_of p.shape)) = omega arith in omega arith

  -- ALL ADVANCES on buffers, where a pool is not reclaimed twice in a cycle
  pub buffer_advance_falls : (words : List ℕ) (v : View) (x : Move)
      → ((q k : ℕ) → LoadsReaders p v q k → (q < length v.reclaimed) × (reclaimed_of v q ≤ fill_cycle p v q)
      × (block_left (words_at p q) (block_of p v q k) ≡ 0))
      → BufferAdvances p words v x → steps_left p x.view < steps_left p v
  buffer_advance_falls words v x once (loads_as_writer l found h _ e) = subst (λ (y : Move). steps_left p y.view < steps_left p v) (sym e)
      (write_falls v l (record (write_of v l) { loaded = write_cycle p v l + 1 }) h.0.0 h.0.1 (holds_it false v (writer_of p l) h.0.2)
      (let a = h.1 in let b = h.0.2.1.1 in omega arith))
  buffer_advance_falls words v x once (stores_have l id h e) = subst (λ (y : Move). steps_left p y.view < steps_left p v) (sym e)
      (write_falls v l (record (write_of v l) { stored = write_cycle p v l + 1; id = id; last = (write_of v l).id }) h.0.0 h.0.1
      (holds_it false v (writer_of p l) h.0.2) (let a = h.2 in let b = h.0.2.1.1 in omega arith))
  buffer_advance_falls words v x once (loads_readers q k h _ e) = subst (λ (y : Move). steps_left p y.view < steps_left p v) (sym e)
      (pool_falls v q k Free (set v.reclaimed q (fill_cycle p v q + 1)) h.0.0 h.0.1 h.0.2 (holds_it false v (filler_of p q) h.0.3)
      (λ r o. get_or-set_other v.reclaimed q r (fill_cycle p v q + 1) 0 o)
      (let o = once q k h in let a = o.2 in let b = h.0.3.1.1 in
      let s = get_or-set_same v.reclaimed q (fill_cycle p v q + 1) 0 o.0 in
      let n : (last p - get_or (set v.reclaimed q (fill_cycle p v q + 1)) q 0) * (words_at p q + 2) ≡ (last p - (fill_cycle p v q + 1)) * (words_at p q + 2) =
      ap (λ z. (last p - z) * (words_at p q + 2)) s in
      let m = some_cycles (last p) (reclaimed_of v q) (fill_cycle p v q) (words_at p q + 2) o.1 b in omega arith))
  buffer_advance_falls words v x once (stores_sample q k i word h e) = subst (λ (y : Move). steps_left p y.view < steps_left p v) (sym e)
      (pool_falls v q k (Filling (i + 1)) v.reclaimed h.0.0 h.0.1 h.0.2 (holds_it false v (filler_of p q) h.0.3) (λ r o. refl)
      (⊎_elim (λ z. let a = ap (block_left (words_at p q)) z in let b = h.2 in omega arith)
      (λ z. let a = ap (block_left (words_at p q)) z.0 in let b = h.2 in omega arith) h.4))
  buffer_advance_falls words v x once (stores_readers q k h e) = subst (λ (y : Move). steps_left p y.view < steps_left p v) (sym e)
      (pool_falls v q k (Out (fill_cycle p v q + 1)) v.reclaimed h.0.0 h.0.1 h.0.2 (holds_it false v (filler_of p q) h.0.3) (λ r o. refl)
      (let a = ap (block_left (words_at p q)) h.1 in omega arith))
  buffer_advance_falls words v x once (loads_as_reader b l found h _ e) = subst (λ (y : Move). steps_left p y.view < steps_left p v) (sym e)
      (read_falls v l (set v.reads l (record (read_of v l) { loaded = read_cycle b p v l + 1; id = io_id_in found })) (set v.words_read l 0) h.0.0 (holds_it b v (reader_of p l) h.0.2)
      (λ i o. get_or-set_other v.reads l i (record (read_of v l) { loaded = read_cycle b p v l + 1; id = io_id_in found }) (unread 0) o) (λ i o. get_or-set_other v.words_read l i 0 0 o)
      (let y : ReadView = record (read_of v l) { loaded = read_cycle b p v l + 1; id = io_id_in found } in
      let a = get_or-set_same v.reads l y (unread 0) h.0.1 in let d = get_or-set_same v.words_read l 0 0 h.0.4 in
      let n : read_left (last p) (words_at p (pool_of p l)) (get_or (set v.reads l y) l (unread 0)) (get_or (set v.words_read l 0) l 0)
      ≡ read_left (last p) (words_at p (pool_of p l)) y 0 = (λ j. read_left (last p) (words_at p (pool_of p l)) (a j) (d j)) in
      let c = h.0.2.1.1 in let m = one_cycle (last p) (read_cycle b p v l) (words_at p (pool_of p l) + 1) c in
      let f : (last p - (read_of v l).loaded) * (words_at p (pool_of p l) + 1) ≡ (last p - read_cycle b p v l) * (words_at p (pool_of p l) + 1) =
      ap (λ z. (last p - z) * (words_at p (pool_of p l) + 1)) h.1 in omega arith))
  buffer_advance_falls words v x once (loads_sample b l id found h short _ e) = subst (λ (y : Move). steps_left p y.view < steps_left p v) (sym e)
      (read_falls v l v.reads (set v.words_read l (words_read_of v l + 1)) h.0.0.0.0 (holds_it b v (reader_of p l) h.0.0.0.2)
      (λ i o. refl) (λ i o. get_or-set_other v.words_read l i (words_read_of v l + 1) 0 o)
      (let d = get_or-set_same v.words_read l (words_read_of v l + 1) 0 h.0.0.0.4 in
      let n = ap (read_left (last p) (words_at p (pool_of p l)) (read_of v l)) d in omega arith))
  buffer_advance_falls words v x once (lowers_readers b l id found h _ e) = subst (λ (y : Move). steps_left p y.view < steps_left p v) (sym e)
      (read_falls v l (set v.reads l (record (read_of v l) { lowered = read_cycle b p v l + 1 })) v.words_read h.0.0.0.0 (holds_it b v (reader_of p l) h.0.0.0.2)
      (λ i o. get_or-set_other v.reads l i (record (read_of v l) { lowered = read_cycle b p v l + 1 }) (unread 0) o) (λ i o. refl)
      (let y : ReadView = record (read_of v l) { lowered = read_cycle b p v l + 1 } in
      let n = ap (λ z. read_left (last p) (words_at p (pool_of p l)) z (words_read_of v l)) (get_or-set_same v.reads l y (unread 0) h.0.0.0.1) in
      let a = h.0.1 in let c = h.0.0.0.2.1.1 in omega arith))
  buffer_advance_falls words v x once (stores_need b l id h e) = subst (λ (y : Move). steps_left p y.view < steps_left p v) (sym e)
      (read_falls v l (set v.reads l (record (read_of v l) { stored = read_cycle b p v l + 1 })) v.words_read h.0.0.0 (holds_it b v (reader_of p l) h.0.0.2)
      (λ i o. get_or-set_other v.reads l i (record (read_of v l) { stored = read_cycle b p v l + 1 }) (unread 0) o) (λ i o. refl)
      (let y : ReadView = record (read_of v l) { stored = read_cycle b p v l + 1 } in
      let n = ap (λ z. read_left (last p) (words_at p (pool_of p l)) z (words_read_of v l)) (get_or-set_same v.reads l y (unread 0) h.0.0.1) in
      let a = h.2 in let c = h.0.0.2.1.1 in omega arith))
