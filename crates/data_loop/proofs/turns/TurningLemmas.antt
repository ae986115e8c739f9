-- From step to step of a follower's turn.
use Rattle.std.proofs.Common.{◌≡◌, ◌≢◌, ℕ, ◌+◌, ◌<◌, ◌≤◌, false, List, length, refl, sym, ap, ◌∙◌, subst, arith}
use Rattle.std.proofs.Common.{get_or-set_other}
use Rattle.std.proofs.lemmas.List.{get_or_default}
use Rattle.std.specs.Prelude.{slice_index, slice_index_or}
use Rattle.pw_graph.specs.Pools.{pools_of}
use Rattle.board_rule.specs.declared.view.Phase.TheVariants.{Idle, Running}
use Rattle.board_rule.specs.declared.view.BlockView.{BlockView}
use Rattle.board_rule.specs.declared.view.BlockView.TheVariants.{Free}
use Rattle.board_rule.specs.declared.view.NodeView.{NodeView}
use Rattle.board_rule.specs.declared.view.WriteView.{WriteView}
use Rattle.board_rule.specs.declared.view.ReadView.{ReadView}
use Rattle.board_rule.specs.declared.view.Trail.{Trail}
use Rattle.board_rule.specs.declared.view.View.{View}
use Rattle.board_rule.specs.Layout.{BoardLayout, nodes, first, last}
use Rattle.board_rule.specs.View.{node_of, view_node, idle, unread, unwritten}
use Rattle.board_rule.specs.buffers.Spans.{block_at}
use Rattle.board_rule.specs.buffers.EndViews.{pool_at, reader_of, filler_of, pool_of, read_of}
use Rattle.board_rule.specs.Steps.{cycle_of, IsCycle, HasNode, IsMember, IsRunning, IsReadyToFinish}
use Rattle.board_rule.specs.buffers.ReaderSteps.{read_cycle}
use Rattle.board_rule.specs.buffers.BlockSteps.{fill_cycle}
use Rattle.activation_words.specs.Calls.{started, HasRested}
use Rattle.activation_words.specs.Members.{IsResting}
use Rattle.activation_words.proofs.ViewLemmas.{again, has_again}
use Rattle.activation_words.proofs.MemberLemmas.{else_rests, rested_rests}
use Rattle.io_areas.specs.PooledBoard.{IsPooledBoard}
use Rattle.io_areas.specs.Ends.{IsWrittenUpTo, IsReadUpTo}
use Rattle.io_areas.specs.FreeBlocks.{FreeBlocks}
use Rattle.data_loop.specs.turns.Ends.{reads_of, fills_of}
use Rattle.data_loop.specs.working.ReadingInputs.{MayReadAll, AreRead}
use Rattle.data_loop.specs.declared.own_pools.OwnPools.{OwnPools}
use Rattle.data_loop.specs.OwnPools.{queue_of}
use Rattle.data_loop.specs.working.Writing.{MayFillAll, AreWritten}
use Rattle.data_loop.specs.turns.Turning.{AreEven, HasTurned}
use Rattle.data_loop.proofs.turns.EndsLemmas.{of_pool, pool_writer, pool_link, read_by, reads_it, reads_once, filled_by, fills_it, fills_once}
use Rattle.data_loop.proofs.turns.ReadingInputsLemmas.{read_moves}
use Rattle.data_loop.proofs.turns.WritingLemmas.{write_moves, stock_moves}

-- a view with the same ends and blocks
pub even_moves : (p : BoardLayout) (v w : View) (free : OwnPools) (m c d : ℕ) → w.reads ≡ v.reads → w.writes ≡ v.writes → w.blocks ≡ v.blocks
    → w.words_read ≡ v.words_read → w.reclaimed ≡ v.reclaimed → d ≡ c
    → AreEven p v free m c → AreEven p w free m d
even_moves p v w free m c d rs ws bs hs rc e h = subst (AreEven p w free m) (sym e) record {
  reads = λ l low is. read_moves v w l c (ap (λ (x : List ReadView). length x) rs) (ap (λ (x : List ℕ). length x) hs)
      (ap (λ (x : List ReadView). slice_index_or x l (unread 0)) rs)
      (h.reads l low is);
  writes = λ l low is. write_moves v w l c (ap (λ (x : List WriteView). length x) ws)
      (ap (λ (x : List WriteView). slice_index_or x l (unwritten 0)) ws)
      (h.writes l low is);
  stocks = λ q low is. stock_moves p v w q c (queue_of free q)
      (λ b lt. ap (λ (x : List BlockView). slice_index_or x (block_at p q b) Free) bs) (ap (λ (x : List ℕ). slice_index x q) rc)
      (h.stocks q low is);
}

module _ (p : BoardLayout) (v x : View) (same : x ≡ record v
    { reads = x.reads; words_read = x.words_read; writes = x.writes; blocks = x.blocks; reclaimed = x.reclaimed }) where
  -- other ends and blocks leave the nodes
  node_left : (m : ℕ) → node_of x m ≡ node_of v m
  node_left m = ap (λ (y : View). node_of y m) same

  has_left : (m : ℕ) → HasNode false p v m → HasNode false p x m
  has_left m h = let o = h.0 in subst (λ (y : View). HasNode false p y m) (sym same)
      (record { inside = o.inside; follows = o.follows; loops = o.loops; owned = o.owned; there = o.there; knows = o.knows; owners = o.owners }, h.1, h.2)

  rests_left : (m : ℕ) → IsResting p v m → IsResting p x m
  rests_left m r = let o = r.member.0 in subst (λ (y : View). IsResting p y m) (sym same) record {
    member = (
      record { inside = o.inside; follows = o.follows; loops = o.loops; owned = o.owned; there = o.there; knows = o.knows; owners = o.owners },
      r.member.1,
      r.member.2,
    );
    idle = r.idle;
  }

module _ (p : BoardLayout) (plain : IsPooledBoard p) (n : ℕ) where
  abbrev m : ℕ
  m = p.index n

  -- the node m works in the view v, and is even
  module _ (v : View) (old : OwnPools) (has : HasNode false p v m) (runs : IsRunning false v m)
      (even : AreEven p v old m (node_of v m).next) where
    abbrev cycle : ℕ
    cycle = (node_of v m).next

    inside : m < nodes p
    inside = has.2

    reader_cycle : (l : ℕ) → reader_of p l ≡ m → read_cycle false p v l ≡ cycle
    reader_cycle l e = ap (λ k. (node_of v k).next) e

    pub may_read_all : MayReadAll false p v (reads_of p.shape n)
    may_read_all = (
      (λ k d low. let l : ℕ = slice_index_or (reads_of p.shape n) k d in
          let h = read_by p plain n inside l (k, low, get_or_default (reads_of p.shape n) k l d low) in record {
            inside = h.0;
            has = subst (HasNode false p v) (sym h.1) has;
            runs = subst (IsRunning false v) (sym h.1) runs;
            even = subst (IsReadUpTo v l) (sym (reader_cycle l h.1)) (even.reads l h.0 h.1);
          }),
      reads_once p plain n inside,
    )

    -- it has read all
    module _ (w : View) (read : AreRead false p v (reads_of p.shape n) w) where
      filler_cycle : (q : ℕ) → filler_of p q ≡ m → fill_cycle p w q ≡ cycle
      filler_cycle q e = ap (λ k. (node_of w k).next) e ∙ ap (λ (y : View). (node_of y m).next) read.same

      w_same : w ≡ record v { reads = w.reads; words_read = w.words_read; writes = w.writes; blocks = w.blocks; reclaimed = w.reclaimed }
      w_same = read.same ∙ ap (λ (y : View). record v
          { reads = w.reads; words_read = w.words_read; writes = y.writes; blocks = y.blocks; reclaimed = y.reclaimed }) (sym read.same)

      w_has : HasNode false p w m
      w_has = has_left p v w w_same m has

      w_bounds : (first p ≤ cycle_of false w m) × (cycle_of false w m ≤ last p)
      w_bounds = let c = has.1 in let low = c.0 in let high = c.1 in let same = ap (λ (y : View). (node_of y m).next) read.same in
          (omega arith, omega arith)

      ws : w.writes ≡ v.writes
      ws = ap (λ (y : View). y.writes) read.same

      bs : w.blocks ≡ v.blocks
      bs = ap (λ (y : View). y.blocks) read.same

      rc : w.reclaimed ≡ v.reclaimed
      rc = ap (λ (y : View). y.reclaimed) read.same

      pub may_fill_all : ((q : ℕ) → q < length (pools_of p.shape) → block_at p q (pool_at p q).blocks ≤ length v.blocks)
          → MayFillAll p w old (fills_of p.shape n)
      may_fill_all room = (
        (λ k d low. let q : ℕ = slice_index_or (fills_of p.shape n) k d in
            let h = filled_by p plain n inside q (k, low, get_or_default (fills_of p.shape n) k q d low) in let now = filler_cycle q h.1 in (
              record {
                has = (
                  h.0,
                  subst (IsMember false p w) (sym h.1) (w_has.0, w_bounds, w_has.2),
                  subst (λ (y : List BlockView). block_at p q (pool_at p q).blocks ≤ length y) (sym bs) (room q h.0),
                );
                runs = subst (IsRunning false w) (sym h.1) (ap (λ (y : View). (node_of y m).phase) read.same ∙ runs);
                cycle = subst (IsCycle p) (sym now) has.1;
                even = λ l c. subst (IsWrittenUpTo w l) (sym now) (write_moves v w l cycle (ap (λ (y : List WriteView). length y) ws)
                    (ap (λ (y : List WriteView). slice_index_or y l (unwritten 0)) ws)
                    (even.writes l (pool_link p plain q l h.0 c) (pool_writer p plain q l h.0 c ∙ h.1)));
              },
              subst (λ c. FreeBlocks p w q c (queue_of old q)) (sym now)
                  (stock_moves p v w q cycle (queue_of old q)
                  (λ b lt. ap (λ (y : List BlockView). slice_index_or y (block_at p q b) Free) bs) (ap (λ (y : List ℕ). slice_index y q) rc)
                  (even.stocks q h.0 h.1)),
            )),
        fills_once p plain n inside,
      )

      -- it has filled all
      module _ (x : View) (new : OwnPools) (written : AreWritten p w old (fills_of p.shape n) x new) where
        same : x ≡ record v { reads = x.reads; words_read = x.words_read; writes = x.writes; blocks = x.blocks; reclaimed = x.reclaimed }
        same = written.same ∙ ap (λ (y : View). record y { writes = x.writes; blocks = x.blocks; reclaimed = x.reclaimed }) w_same
            ∙ ap (λ (y : View). record v { reads = y.reads; words_read = y.words_read; writes = x.writes; blocks = x.blocks; reclaimed = x.reclaimed })
            (sym written.same)

        rs : x.reads ≡ w.reads
        rs = ap (λ (y : View). y.reads) written.same

        hs : x.words_read ≡ w.words_read
        hs = ap (λ (y : View). y.words_read) written.same

        read_same : (l : ℕ) → read_of x l ≡ read_of w l
        read_same l = ap (λ (y : List ReadView). slice_index_or y l (unread 0)) rs

        own_even : AreEven p x new m (cycle + 1)
        own_even = record {
          reads = λ l low e. read_moves w x l (cycle + 1) (ap (λ (y : List ReadView). length y) rs) (ap (λ (y : List ℕ). length y) hs)
              (read_same l)
              (subst (λ c. IsReadUpTo w l (c + 1)) (reader_cycle l e) (read.read l (reads_it p plain n inside l low e)));
          writes = λ l low e. let q = of_pool p plain l low in let f = q.2 ∙ e in
              subst (λ c. IsWrittenUpTo x l (c + 1)) (filler_cycle (pool_of p l) f)
              (written.even (pool_of p l) l (fills_it p plain n inside (pool_of p l) q.0 f) q.1);
          stocks = λ q low e. subst (λ c. FreeBlocks p x q (c + 1) (queue_of new q)) (filler_cycle q e)
              (written.stocks q (fills_it p plain n inside q low e));
        }

        other_even : (k c : ℕ) → k ≢ m → AreEven p v old k c → AreEven p x new k c
        other_even k c o h = record {
          reads = λ l low e. read_moves v x l c (ap (λ (y : List ReadView). length y) rs ∙ read.ends) (ap (λ (y : List ℕ). length y) hs ∙ read.words)
              (read_same l ∙ read.others l (λ i. o (sym e ∙ (read_by p plain n inside l i).1))) (h.reads l low e);
          writes = λ l low e. write_moves v x l c (written.ends ∙ ap (λ (y : List WriteView). length y) ws)
              (written.other_links l (λ q i of_q. let f = filled_by p plain n inside q i in
              o (sym e ∙ pool_writer p plain q l f.0 of_q ∙ f.1))
              ∙ ap (λ (y : List WriteView). slice_index_or y l (unwritten 0)) ws) (h.writes l low e);
          stocks = λ q low e. let left = written.other_pools q low (λ i. o (sym e ∙ (filled_by p plain n inside q i).1)) in
              subst (FreeBlocks p x q c) (sym left.0) (stock_moves p v x q c (queue_of old q)
              (λ b lt. left.1 b lt ∙ ap (λ (y : List BlockView). slice_index_or y (block_at p q b) Free) bs)
              (left.2 ∙ ap (λ (y : List ℕ). slice_index y q) rc) (h.stocks q low e));
        }

        x_has : HasNode false p x m
        x_has = has_left p v x same m has

        x_next : (node_of x m).next ≡ cycle
        x_next = ap (λ (y : NodeView). y.next) (node_left p v x same m)

        pub ready : IsReadyToFinish false p x m
        ready = let e = x_next in (
          x_has,
          ap (λ (y : NodeView). y.phase) (node_left p v x same m) ∙ runs,
          (
            (λ l low i. (own_even.writes l low i).stored ∙ ap (λ c. c + 1) (sym e)),
            (λ l low i. (own_even.reads l low i).stored ∙ ap (λ c. c + 1) (sym e)),
          ),
        )

        pub turned : (y : View) → HasRested p x m y → HasTurned p v old m y new
        turned y r = record {
          rests = (rested_rests p x m y x_has r, moved m (cycle + 1) next own_even);
          later = next;
          others = λ k o h. (
            (
              subst (λ (u : View). IsResting p u k) (sym r.is) (else_rests p x m k slept told o (rests_left p v x same k h.0)),
              moved k (node_of v k).next (ap (λ (u : NodeView). u.next) (other k o)) (other_even k (node_of v k).next o h.1),
            ),
            other k o,
          );
          expect = ap (λ (u : View). u.expect) r.is ∙ ap (λ (u : View). u.expect) same;
          room = ap (λ (u : View). length u.blocks) r.is ∙ written.room ∙ ap (λ (u : List BlockView). length u) bs;
          kept = written.kept;
        }
          where
            slept : NodeView
            slept = record (node_of x m) { next = (node_of x m).next + 1; phase = Idle; finish = r.ticket }

            told : Trail
            told = record x.trail { told = y.trail.told }

            next : (node_of y m).next ≡ cycle + 1
            next = ap (λ (u : View). (node_of u m).next) r.is ∙ ap (λ (u : NodeView). u.next) (again p x m slept told x_has.0.there)
                ∙ ap (λ c. c + 1) x_next

            moved : (k c : ℕ) → (node_of y k).next ≡ c → AreEven p x new k c → AreEven p y new k (node_of y k).next
            moved k c e h = even_moves p x y new k c (node_of y k).next (ap (λ (u : View). u.reads) r.is) (ap (λ (u : View). u.writes) r.is)
                (ap (λ (u : View). u.blocks) r.is) (ap (λ (u : View). u.words_read) r.is) (ap (λ (u : View). u.reclaimed) r.is) e h

            other : (k : ℕ) → k ≢ m → node_of y k ≡ node_of v k
            other k o = ap (λ (u : View). node_of u k) r.is ∙ get_or-set_other x.nodes m k slept (idle 0) o ∙ node_left p v x same k

-- from its waking to its start
module _ (p : BoardLayout) (v : View) (m t : ℕ) (has : HasNode false p v m) where
  abbrev begun : NodeView
  begun = record (node_of v m) { phase = Running; start = t }

  abbrev at_work : View
  at_work = started false v m t

  begun_is : node_of at_work m ≡ begun
  begun_is = again p v m begun v.trail has.0.there

  pub begun_has : HasNode false p at_work m
  begun_has = has_again p v m begun v.trail has refl

  pub begun_runs : IsRunning false at_work m
  begun_runs = ap (λ (x : NodeView). x.phase) begun_is

  pub begun_next : (node_of at_work m).next ≡ (node_of v m).next
  begun_next = ap (λ (x : NodeView). x.next) begun_is

  pub begun_even : (free : OwnPools) → AreEven p v free m (node_of v m).next → AreEven p at_work free m (node_of at_work m).next
  begun_even free even = even_moves p v at_work free m (node_of v m).next (node_of at_work m).next refl refl refl refl refl begun_next even

-- what is so of a turn after a step of its node is so before it
pub turned_whole : (p : BoardLayout) (v : View) (m : ℕ) (y : NodeView) (t : Trail) → m < length v.nodes → y.next ≡ (node_of v m).next
    → (old : OwnPools) (w : View) (new : OwnPools) → HasTurned p (view_node v m y t) old m w new → HasTurned p v old m w new
turned_whole p v m y t there next old w new h = record {
  rests = h.rests;
  later = h.later ∙ ap (λ (x : NodeView). x.next + 1) (again p v m y t there) ∙ ap (λ c. c + 1) next;
  others = λ n o r. let same : node_of (view_node v m y t) n ≡ node_of v n = get_or-set_other v.nodes m n y (idle 0) o in
      let k = h.others n o (
        else_rests p v m n y t o r.0,
        even_moves p v (view_node v m y t) old n (node_of v n).next
            (node_of (view_node v m y t) n).next refl refl refl refl refl (ap (λ (x : NodeView). x.next) same) r.1,
      ) in (k.0, k.1 ∙ same);
  expect = h.expect;
  room = h.room;
  kept = h.kept;
}
