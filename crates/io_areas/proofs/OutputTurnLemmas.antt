-- From step to step of the turn of a node on a pool: its views are v, w when the links are loaded, x when a block is taken from
-- the free ones, y when it is announced, and z when it is published.
use Rattle.std.proofs.Common.{◌≡◌, ◌≢◌, ℕ, ◌+◌, ◌<◌, false, List, ◌∷◌, ◌++◌, Option, Some, None, All, Contains, get_or, option_to_list, sym}
use Rattle.std.proofs.Common.{ap, ◌∙◌, subst, arith, cond, eq-eqb, ne_eqb}
use Rattle.std.proofs.lemmas.List.Elements.{Contains-get_or}
use Rattle.board_rule.specs.declared.view.WriteView.{WriteView}
use Rattle.board_rule.specs.declared.view.BlockView.TheVariants.{Free, Out}
use Rattle.board_rule.specs.declared.view.View.{View}
use Rattle.board_rule.specs.Layout.{BoardLayout, first}
use Rattle.board_rule.specs.buffers.Areas.{stored_id}
use Rattle.board_rule.specs.buffers.BlockReadings.{delay_at, busy_cycles}
use Rattle.board_rule.specs.buffers.ReclaimSteps.{reclaimed_of, IsUnreclaimed}
use Rattle.board_rule.specs.buffers.EndViews.{pool_at, block_of, view_block, write_of}
use Rattle.board_rule.specs.activation.SeatNodes.{cycle_of, HasNode}
use Rattle.board_rule.specs.activation.WorkSteps.{IsRunning}
use Rattle.board_rule.specs.buffers.WriterSteps.{LoadsAsWriter, IsWriter, write_cycle, StoresHave}
use Rattle.board_rule.specs.buffers.BlockSteps.{IsWriting, fill_cycle}
use Rattle.io_areas.specs.Queue.{Queue}
use Rattle.io_areas.specs.Writing.{number_given, IsAtPool, IsUnfilled, Reclaims, HasReclaimed}
use Rattle.io_areas.specs.PooledBoard.{IsPooledBoard}
use Rattle.io_areas.specs.Ends.{IsWrittenUpTo}
use Rattle.io_areas.specs.FreeBlocks.{FreeBlocks}
use Rattle.io_areas.specs.OutputTurn.{MayWriteOutput, HasWrittenOutput}
use Rattle.io_areas.specs.working.OutputSteps.{AreMade, IsLoadedNow, IsPublishedNow}
use Rattle.io_areas.specs.OutputAnswer.{IsReclaimed}
use Rattle.io_areas.proofs.KeptLemmas.{IsKept, at_again}
use Rattle.io_areas.proofs.OutputStepsLemmas.{kept, same_cycle, writer_again}
use Rattle.io_areas.proofs.BlockLemmas.{here, else}
use Rattle.io_areas.proofs.RefilledLemmas.{IsRefilled, refilled, refill_kept, refill_more, reclaim_refills, reclaimed_by}
use Rattle.io_areas.proofs.PooledBoardLemmas.{of_pool}
use Rattle.io_areas.proofs.FreeBlocksLemmas.{AreBack, AreListed, AreOthers, taken, unfilled, is_reclaimed, all_back, all_listed, refreed}

abbrev links_of : BoardLayout → ℕ → List ℕ
links_of p q = (pool_at p q).links

module _ (p : BoardLayout) (v : View) (q : ℕ) (board : IsPooledBoard p) (may : MayWriteOutput p v q) where
  cycle_at : (l : ℕ) → Contains (links_of p q) l → write_cycle p v l ≡ fill_cycle p v q
  cycle_at l d = ap (cycle_of false v) (of_pool p board q may.has.0 l d).1

  writes : (l : ℕ) → Contains (links_of p q) l → IsWriter p v l
  writes l d = let o = of_pool p board q may.has.0 l d in let n = sym o.1 in
      (o.0, (may.even l d).there, subst (λ k. HasNode false p v k) n (may.has.1.0, may.cycle, may.has.1.2), subst (λ k. IsRunning false v k) n may.runs)

  pub may_load_all : All (LoadsAsWriter p v) (links_of p q)
  may_load_all k e h = let l : ℕ = get_or (links_of p q) k e in let d = Contains-get_or (links_of p q) k e h in
      (writes l d, (may.even l d).loaded ∙ sym (cycle_at l d))

-- LOADED: the turn began at v, and each link is loaded
pub record HasLoaded (p : BoardLayout) (v : View) (q : ℕ) (pool : Queue) (w : View) : Type 0 where
  pub board : IsPooledBoard p
  pub may : MayWriteOutput p v q
  pub blocks : FreeBlocks p v q (fill_cycle p v q) pool
  pub ends : AreMade (IsLoadedNow p v) v (links_of p q) w

pub begun : (p : BoardLayout) (v : View) (q : ℕ) (pool : Queue) (xs : List ℕ) (w : View) → IsPooledBoard p → MayWriteOutput p v q → xs ≡ links_of p q
    → FreeBlocks p v q (fill_cycle p v q) pool
    → AreMade (IsLoadedNow p v) v xs w → HasLoaded p v q pool w
begun p v q pool xs w board may e s ends = record
    { board = board; may = may; blocks = s; ends = subst (λ ls. AreMade (IsLoadedNow p v) v ls w) e ends }

module _ {p : BoardLayout} {v : View} {q : ℕ} {pool : Queue} {w : View} (t : HasLoaded p v q pool w) where
  kept_loaded : IsKept v w
  kept_loaded = kept (IsLoadedNow p v) v (links_of p q) w t.ends

  at_loaded : IsAtPool p w q
  at_loaded = at_again p v w kept_loaded q (t.may.has, t.may.runs, t.may.cycle)

  cycle_loaded : fill_cycle p w q ≡ fill_cycle p v q
  cycle_loaded = ap (λ (u : View). fill_cycle p u q) kept_loaded.same

  loaded : (l : ℕ) → Contains (links_of p q) l → (write_of w l).loaded ≡ fill_cycle p v q + 1
  loaded l d = ap (λ (e : WriteView). e.loaded) (t.ends.made l d) ∙ ap (λ n. n + 1) (cycle_at p v q t.board t.may l d)

  stored : (l : ℕ) → Contains (links_of p q) l → (write_of w l).stored ≡ fill_cycle p v q
  stored l d = ap (λ (e : WriteView). e.stored) (t.ends.made l d) ∙ (t.may.even l d).stored

  turn_loaded : IsWriting p w q
  turn_loaded l d = (loaded l d ∙ ap (λ n. n + 1) (sym cycle_loaded), stored l d ∙ sym cycle_loaded)

  pub blocks_again : FreeBlocks p w q (fill_cycle p w q) pool
  blocks_again = let s = t.blocks in subst (λ (k : View × ℕ). FreeBlocks p k.0 q k.1 pool) (λ i. (sym t.ends.same i, sym cycle_loaded i))
      record {
        size = s.size;
        enough = s.enough;
        listed = s.listed;
        once = s.once;
        long = s.long;
        out = s.out;
        one = s.one;
        else = s.else;
        zero = s.zero;
        unreclaimed = s.unreclaimed;
      }

  pub may_reclaim : Reclaims p w q
  may_reclaim = (at_loaded, (λ l d. (turn_loaded l d).0), blocks_again.unreclaimed)

-- OBTAINED: what came back, and the block that is taken from the free ones
pub record HasObtained (p : BoardLayout) (v : View) (q : ℕ) (pool : Queue) (w : View) (r : Option ℕ) (x : View) (used : ℕ)
    (left : Queue) : Type 0 where
  pub before : HasLoaded p v q pool w
  pub back : HasReclaimed p w q r x
  pub queue : pool.free ++ option_to_list r ≡ used ∷ left.free
  pub size : left.blocks ≡ pool.blocks

pub obtained : {p : BoardLayout} {v : View} {q : ℕ} {pool : Queue} {w : View} → HasLoaded p v q pool w
    → (told : Option ℕ × ℕ) (x : View) (left : Queue)
    → HasReclaimed p w q told.0 x
    → pool.free ++ option_to_list told.0 ≡ told.1 ∷ left.free → left.blocks ≡ pool.blocks → HasObtained p v q pool w told.0 x told.1 left
obtained t told x left back queue size = record { before = t; back = back; queue = queue; size = size }

module _ {p : BoardLayout} {v : View} {q : ℕ} {pool : Queue} {w : View} {r : Option ℕ} {x : View} {used : ℕ} {left : Queue}
    (t : HasObtained p v q pool w r x used left) where
  refill_back : IsRefilled p q w x
  refill_back = reclaim_refills p q w r x (at_loaded t.before).0 t.back

  pub reclaimed : IsReclaimed p v q r
  reclaimed = by r (is_reclaimed p q w pool (blocks_again t.before) r x t.back)
    where
      by : (o : Option ℕ) → IsReclaimed p w q o → IsReclaimed p v q o
      by None e = sym (cycle_loaded t.before) ∙ e
      by (Some b) e = let is = subst (λ (u : View). IsReclaimed p u q (Some b)) t.before.ends.same e in is

  -- the readers gave its number back
  pub returned : (l : ℕ) → Contains (links_of p q) l → delay_at p l + 1 ≡ busy_cycles p (pool_at p q) → number_given p v l ≡ r
  returned l d late = by r t.back
    where
      now : write_cycle p v l ≡ fill_cycle p v q
      now = cycle_at p v q t.before.board t.before.may l d

      by : (o : Option ℕ) → HasReclaimed p w q o x → number_given p v l ≡ o
      by None h = let e : write_cycle p v l ≡ first p = now ∙ sym (cycle_loaded t.before) ∙ h.0 in
          ap (λ c. cond c None (Some (stored_id (write_of v l) (delay_at p l)))) (eq-eqb (write_cycle p v l) (first p) e)
      by (Some b) h = let later = h.0 in let same = cycle_loaded t.before in
          let o : write_cycle p v l ≢ first p = (λ e. let n = now in absurd (omega arith)) in
          ap (λ c. cond c None (Some (stored_id (write_of v l) (delay_at p l)))) (ne_eqb (write_cycle p v l) (first p) o)
          ∙ ap (λ n. Some n) (ap (λ (e : WriteView). stored_id e (delay_at p l)) (sym (t.before.ends.made l d))
          ∙ h.3 l d late (stored t.before l d ∙ sym same) h.0)

  back : AreBack p x q (fill_cycle p w q)
  back = all_back p q w pool (blocks_again t.before) r x (at_loaded t.before).0 t.back

  pub may_fill : IsAtPool p x q × IsWriting p x q
  may_fill = (
    at_again p w x (refill_kept p q w x refill_back) q (at_loaded t.before),
    subst (λ (u : View). IsWriting p u q) (sym refill_back.same) (turn_loaded t.before),
  )

  cycle_obtained : fill_cycle p x q ≡ fill_cycle p v q
  cycle_obtained = ap (λ (u : View). fill_cycle p u q) refill_back.same ∙ cycle_loaded t.before

  pub is_unfilled : IsUnfilled p x q (fill_cycle p x q)
  is_unfilled = unfilled p q x (fill_cycle p x q) (subst (AreBack p x q) (ap (λ (u : View). fill_cycle p u q) (sym refill_back.same)) back)

  pub others : AreOthers p x q used left.free
  others = taken p q x used left.free (subst (AreListed p x q) t.queue
      (all_listed p q w pool (blocks_again t.before) r x (at_loaded t.before).0 t.back))

-- EMITTED: that block is out since this cycle
pub record HasEmitted (p : BoardLayout) (v : View) (q : ℕ) (pool : Queue) (w : View) (r : Option ℕ) (x : View) (used : ℕ) (left : Queue)
    (y : View) : Type 0 where
  pub before : HasObtained p v q pool w r x used left
  pub knows : y ≡ view_block p x q used (Out (fill_cycle p x q + 1))

pub emitted : {p : BoardLayout} {v : View} {q : ℕ} {pool : Queue} {w : View} {r : Option ℕ} {x : View} {used : ℕ} {left : Queue}
    → HasObtained p v q pool w r x used left
    → (y : View) → y ≡ view_block p x q used (Out (fill_cycle p x q + 1)) → HasEmitted p v q pool w r x used left y
emitted t y e = record { before = t; knows = e }

module _ {p : BoardLayout} {v : View} {q : ℕ} {pool : Queue} {w : View} {r : Option ℕ} {x : View} {used : ℕ} {left : Queue} {y : View}
    (t : HasEmitted p v q pool w r x used left y) where
  abbrev first_step : HasLoaded p v q pool w
  first_step = t.before.before

  emitted_is : y ≡ view_block p x q used (Out (fill_cycle p v q + 1))
  emitted_is = t.knows ∙ ap (λ n. view_block p x q used (Out (n + 1))) (cycle_obtained t.before)

  refill_emitted : IsRefilled p q w y
  refill_emitted = refill_more p q w x y (refill_back t.before)
      (refilled p q x y used (Out (fill_cycle p v q + 1)) (may_fill t.before).0.0 (others t.before).inside emitted_is)

  kept_emitted : IsKept w y
  kept_emitted = refill_kept p q w y refill_emitted

  ends_emitted : (l : ℕ) → write_of y l ≡ write_of w l
  ends_emitted l = ap (λ (u : View). write_of u l) refill_emitted.same

  cycle_emitted : fill_cycle p y q ≡ fill_cycle p v q
  cycle_emitted = ap (λ (u : View). fill_cycle p u q) refill_emitted.same ∙ cycle_loaded first_step

  used_emitted : block_of p y q used ≡ Out (fill_cycle p v q + 1)
  used_emitted = ap (λ (u : View). block_of p u q used) emitted_is
      ∙ here p x q used (Out (fill_cycle p v q + 1)) (may_fill t.before).0.0 (others t.before).inside

  others_emitted : (b : ℕ) → b ≢ used → block_of p y q b ≡ block_of p x q b
  others_emitted b o = ap (λ (u : View). block_of p u q b) emitted_is ∙ else p x q used (Out (fill_cycle p v q + 1)) b o

  turn_emitted : (l : ℕ) → Contains (links_of p q) l → write_cycle p y l ≡ fill_cycle p v q
  turn_emitted l d = same_cycle p w y kept_emitted l ∙ same_cycle p v w (kept_loaded first_step) l
      ∙ cycle_at p v q first_step.board first_step.may l d

  pub may_publish_all : All (λ l. StoresHave p y l used) (links_of p q)
  may_publish_all k e h = let l : ℕ = get_or (links_of p q) k e in let d = Contains-get_or (links_of p q) k e h in let s = first_step in
      let here = sym (of_pool p s.board q s.may.has.0 l d).2 in
      let block = subst (λ n. (used < (pool_at p n).blocks) × (block_of p y n used ≡ Out (write_cycle p y l + 1))) here
      ((others t.before).inside, used_emitted ∙ ap (λ n. Out (n + 1)) (sym (turn_emitted l d))) in (
        writer_again p w y kept_emitted l (writer_again p v w (kept_loaded s) l (writes p v q s.board s.may l d)),
        ap (λ (u : WriteView). u.loaded) (ends_emitted l) ∙ loaded s l d ∙ ap (λ n. n + 1) (sym (turn_emitted l d)),
        ap (λ (u : WriteView). u.stored) (ends_emitted l) ∙ stored s l d ∙ sym (turn_emitted l d),
        block.0,
        block.1,
      )

  -- the turn is over
  module _ (z : View) (ends : AreMade (IsPublishedNow p y used) y (links_of p q) z) where
    kept_published : IsKept y z
    kept_published = kept (IsPublishedNow p y used) y (links_of p q) z ends

    same_published : (b : ℕ) → block_of p z q b ≡ block_of p y q b
    same_published b = ap (λ (u : View). block_of p u q b) ends.same

    pub is_used : (used < (pool_at p q).blocks) × (block_of p z q used ≡ Out (fill_cycle p v q + 1))
    is_used = ((others t.before).inside, same_published used ∙ used_emitted)

    kept_back : (b : ℕ) → b ≢ used → block_of p z q b ≡ block_of p x q b
    kept_back b o = same_published b ∙ others_emitted b o

    pub is_freed : (b : ℕ) → r ≡ Some b → b ≢ used → block_of p z q b ≡ Free
    is_freed b e o = kept_back b o ∙ freed_by r b e t.before.back
      where
        freed_by : (a : Option ℕ) (b : ℕ) → a ≡ Some b → HasReclaimed p w q a x → block_of p x q b ≡ Free
        freed_by None b e h = absurd (cc)
        freed_by (Some a) b e h = let i : a ≡ b = cc in ap (block_of p x q) (sym i)
            ∙ ap (λ (u : View). block_of p u q a) h.2 ∙ here p w q a Free (at_loaded first_step).0 h.1.inside

    pub are_kept : (b : ℕ) → b < (pool_at p q).blocks → b ≢ used → r ≢ Some b → block_of p z q b ≡ block_of p v q b
    are_kept b low o n = kept_back b o ∙ kept_by r n t.before.back ∙ ap (λ (u : View). block_of p u q b) first_step.ends.same
      where
        kept_by : (a : Option ℕ) → a ≢ Some b → HasReclaimed p w q a x → block_of p x q b ≡ block_of p w q b
        kept_by None m h = ap (λ (u : View). block_of p u q b) h.1
        kept_by (Some a) m h = ap (λ (u : View). block_of p u q b) h.2 ∙ else p w q a Free b (λ i. m (ap (λ k. Some k) (sym i)))

    unreclaimed : IsUnreclaimed p z q (fill_cycle p v q + 1)
    unreclaimed = subst (λ (u : View). IsUnreclaimed p u q (fill_cycle p v q + 1))
        (sym (ends.same ∙ ap (λ (u : View). record u { writes = z.writes }) emitted_is))
        (subst (λ n. IsUnreclaimed p x q (n + 1)) (cycle_loaded first_step)
        (reclaimed_by p q w r x (blocks_again first_step).unreclaimed t.before.back))

    pub new_blocks : FreeBlocks p z q (fill_cycle p v q + 1) left
    new_blocks = refreed p q x z (fill_cycle p v q) used left first_step.may.has.1.1.0 unreclaimed first_step.blocks.enough
        (subst (AreBack p x q) (cycle_loaded first_step) (back t.before)) (others t.before) (t.before.size ∙ first_step.blocks.size)
        is_used.1 kept_back

    published : (l : ℕ) → Contains (links_of p q) l → IsWrittenUpTo z l (fill_cycle p v q + 1)
    published l d = let is = ends.made l d in record {
      there = (let o = (first_step.may.even l d).there in let a = first_step.ends.long in let b = kept_emitted.ends in let e = ends.long in
          omega arith);
      loaded = ap (λ (u : WriteView). u.loaded) is ∙ ap (λ (u : WriteView). u.loaded) (ends_emitted l) ∙ loaded first_step l d;
      stored = ap (λ (u : WriteView). u.stored) is ∙ ap (λ n. n + 1) (turn_emitted l d);
    }

    pub has_written : HasWrittenOutput p v q z
    has_written = let a = kept_loaded first_step in let b = kept_emitted in let e = kept_published in record {
      same = e.same ∙ ap (λ (u : View). record u { writes = z.writes; blocks = z.blocks; reclaimed = z.reclaimed })
          (b.same ∙ ap (λ (u : View). record u { writes = y.writes; blocks = y.blocks; reclaimed = y.reclaimed }) a.same);
      ends = e.ends ∙ b.ends ∙ a.ends;
      room = e.room ∙ b.room ∙ a.room;
      even = published;
      other_links = λ l o. ends.left l o ∙ ends_emitted l ∙ first_step.ends.left l o;
      other_pools = λ n b h low o. ap (λ (u : View). block_of p u n b) ends.same ∙ refill_emitted.others n b h low o
          ∙ ap (λ (u : View). block_of p u n b) first_step.ends.same;
      other_reclaims = λ n o. ap (λ (u : View). reclaimed_of u n) ends.same ∙ refill_emitted.rest n o
          ∙ ap (λ (u : View). reclaimed_of u n) first_step.ends.same;
    }
