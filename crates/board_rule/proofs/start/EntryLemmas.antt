-- Laws of `specs/Known.antt`: what a loop's seat keeps of an entry is at its slot, and follows the
-- view.
use Rattle.std.proofs.Common.{◌≡◌, ℕ, false, ◌+◌, ◌^◌, ◌<◌, List, map, length, set, get_or, sym, ap, ◌∙◌, subst, arith}
use Rattle.std.proofs.lemmas.List.{length-map, get_or-map, get_or_default}
use Rattle.board_rule.specs.declared.view.BlockView.{BlockView}
use Rattle.board_rule.specs.declared.view.BlockView.TheVariants.{Free}
use Rattle.board_rule.specs.declared.view.WriteView.{WriteView}
use Rattle.board_rule.specs.declared.view.ReadView.{ReadView}
use Rattle.board_rule.specs.declared.view.View.{View}
use Rattle.board_rule.specs.declared.progress.NodeProgress.{NodeProgress}
use Rattle.board_rule.specs.declared.lead.DriverProgress.{DriverProgress}
use Rattle.pw_graph.specs.Pools.{pools_of}
use Rattle.board_rule.specs.Layout.{BoardLayout, IsSound, last}
use Rattle.board_rule.specs.start.Owners.{own, slot_in, owners_of}
use Rattle.board_rule.specs.working.Slots.{HasWriter, HasReader}
use Rattle.board_rule.specs.activation.SeatNodes.{Has}
use Rattle.board_rule.specs.buffers.Spans.{block_at}
use Rattle.board_rule.specs.View.{node_of, idle, unread, unwritten}
use Rattle.board_rule.specs.buffers.EndViews.{write_of, read_of, pool_at, filler_of}
use Rattle.board_rule.specs.working.Progress.{progress_of}
use Rattle.board_rule.specs.Known.{IsLoopSeat, IsDriverSeat}
use Rattle.board_rule.proofs.start.OwnerLemmas.{SitsAt, sits_at, sits_inside, sits_set}
use Rattle.board_rule.proofs.start.SlotLemmas.{node_sits, write_sits, read_sits, block_sits}

-- the reader's ends that are kept by either kind of seat
module _ (v : View) (rs : List ReadView) (are : own v.number v.owners.reads v.reads ≡ rs) (i at : ℕ)
    (t : SitsAt v.number v.owners.reads i at) (low : i < length v.reads) where
  pub end_there : at < length rs
  end_there = subst (λ (xs : List ReadView). at < length xs) are (sits_inside v.number v.owners.reads v.reads i at t low)

  pub end_kept : (d : ReadView) → get_or rs at d ≡ read_of v i
  end_kept d = ap (λ (xs : List ReadView). get_or xs at d) (sym are)
      ∙ sits_at v.number v.owners.reads v.reads i at d t low ∙ get_or_default v.reads i d (unread 0) low

  pub end_set : (y z : ReadView) → y ≡ z → own v.number v.owners.reads (set v.reads i y) ≡ set rs at z
  end_set y z same = sits_set v.number v.owners.reads v.reads i at y t low ∙ (λ j. set (are j) at (same j))

module _ (v : View) (ns : List NodeProgress) (ws : List WriteView) (rs : List ReadView) (bs : List BlockView) (o : ℕ)
    (s : IsLoopSeat v ns ws rs bs o) (i at : ℕ) where
  module _ (t : SitsAt v.number v.owners.nodes i at) (low : i < length v.nodes) where
    pub node_there : at < length ns
    node_there = let l = length-map v.nodes progress_of in
        subst (λ (xs : List NodeProgress). at < length xs) s.nodes_are
        (sits_inside v.number v.owners.nodes (map progress_of v.nodes) i at t (omega arith))

    pub node_kept : (d : NodeProgress) → get_or ns at d ≡ progress_of (node_of v i)
    node_kept d = let l = length-map v.nodes progress_of in
        ap (λ (xs : List NodeProgress). get_or xs at d) (sym s.nodes_are)
        ∙ sits_at v.number v.owners.nodes (map progress_of v.nodes) i at d t (omega arith)
        ∙ get_or-map progress_of v.nodes i (idle 0) d low

  module _ (t : SitsAt v.number v.owners.writes i at) (low : i < length v.writes) where
    pub write_there : at < length ws
    write_there = subst (λ (xs : List WriteView). at < length xs) s.writes_are (sits_inside v.number v.owners.writes v.writes i at t low)

    pub write_kept : (d : WriteView) → get_or ws at d ≡ write_of v i
    write_kept d = ap (λ (xs : List WriteView). get_or xs at d) (sym s.writes_are)
        ∙ sits_at v.number v.owners.writes v.writes i at d t low ∙ get_or_default v.writes i d (unwritten 0) low

    -- the writer's end is another
    pub write_set : (w : View) (y z : WriteView) → w ≡ record v { writes = set v.writes i y } → y ≡ z
        → IsLoopSeat w ns (set ws at z) rs bs o
    write_set w y z is same = subst (λ (u : View). IsLoopSeat u ns (set ws at z) rs bs o) (sym is) record {
      nodes_are = s.nodes_are;
      writes_are = sits_set v.number v.owners.writes v.writes i at y t low ∙ (λ j. set (s.writes_are j) at (same j));
      reads_are = s.reads_are;
      blocks_are = s.blocks_are;
      woke_is = s.woke_is;
    }

  module _ (t : SitsAt v.number v.owners.reads i at) (low : i < length v.reads) where
    pub read_there : at < length rs
    read_there = end_there v rs s.reads_are i at t low

    pub read_kept : (d : ReadView) → get_or rs at d ≡ read_of v i
    read_kept = end_kept v rs s.reads_are i at t low

    -- the reader's end is another
    pub read_set : (w : View) (words_read : List ℕ) (y z : ReadView) → w ≡ record v { reads = set v.reads i y; words_read = words_read } → y ≡ z
        → IsLoopSeat w ns ws (set rs at z) bs o
    read_set w words_read y z is same = subst (λ (u : View). IsLoopSeat u ns ws (set rs at z) bs o) (sym is) record {
      nodes_are = s.nodes_are;
      writes_are = s.writes_are;
      reads_are = end_set v rs s.reads_are i at t low y z same;
      blocks_are = s.blocks_are;
      woke_is = s.woke_is;
    }

  module _ (t : SitsAt v.number v.owners.blocks i at) (low : i < length v.blocks) where
    pub block_there : at < length bs
    block_there = subst (λ (xs : List BlockView). at < length xs) s.blocks_are (sits_inside v.number v.owners.blocks v.blocks i at t low)

    pub block_kept : (d : BlockView) → get_or bs at d ≡ get_or v.blocks i Free
    block_kept d = ap (λ (xs : List BlockView). get_or xs at d) (sym s.blocks_are)
        ∙ sits_at v.number v.owners.blocks v.blocks i at d t low ∙ get_or_default v.blocks i d Free low

    -- a block is another
    pub block_set : (w : View) (reclaimed : List ℕ) (y z : BlockView) → w ≡ record v { blocks = set v.blocks i y; reclaimed = reclaimed } → y ≡ z
        → IsLoopSeat w ns ws rs (set bs at z) o
    block_set w reclaimed y z is same = subst (λ (u : View). IsLoopSeat u ns ws rs (set bs at z) o) (sym is) record {
      nodes_are = s.nodes_are;
      writes_are = s.writes_are;
      reads_are = s.reads_are;
      blocks_are = sits_set v.number v.owners.blocks v.blocks i at y t low ∙ (λ j. set (s.blocks_are j) at (same j));
      woke_is = s.woke_is;
    }

-- the same of the driver's seat
module _ (v : View) (l : DriverProgress) (rs : List ReadView) (o : ℕ) (s : IsDriverSeat v l rs o) (i at : ℕ)
    (t : SitsAt v.number v.owners.reads i at) (low : i < length v.reads) where
  pub lead_read_set : (w : View) (words_read : List ℕ) (y z : ReadView) → w ≡ record v { reads = set v.reads i y; words_read = words_read } → y ≡ z
      → IsDriverSeat w l (set rs at z) o
  lead_read_set w words_read y z is same = subst (λ (u : View). IsDriverSeat u l (set rs at z) o) (sym is) record {
    lead_is = s.lead_is;
    reads_are = end_set v rs s.reads_are i at t low y z same;
    woke_is = s.woke_is;
  }

-- the same of what is the seat's own
module _ (p : BoardLayout) (v : View) (ns : List NodeProgress) (ws : List WriteView) (rs : List ReadView) (bs : List BlockView) (o : ℕ)
    (s : IsLoopSeat v ns ws rs bs o) where
  pub next_here : (sound : IsSound p) (m at : ℕ) (d : NodeProgress) → Has p v m → at ≡ slot_in (owners_of p).nodes m → d ≡ get_or ns at d
      → (node_of v m).next < last p → d.next < 2 ^ 63
  next_here sound m at d has slot is less = let early = sound.early in
      let e : d.next ≡ (node_of v m).next = ap (λ (x : NodeProgress). x.next)
      (is ∙ node_kept v ns ws rs bs o s m at (node_sits p v m at sound has slot) has.there d) in omega arith

  pub node_in : (sound : IsSound p) (m at : ℕ) → Has p v m → at ≡ slot_in (owners_of p).nodes m → at < length ns
  node_in sound m at has slot = node_there v ns ws rs bs o s m at (node_sits p v m at sound has slot) has.there

  pub write_in : (l at : ℕ) → HasWriter p v l → at ≡ slot_in (owners_of p).writes l → at < length ws
  write_in l at h slot = write_there v ns ws rs bs o s l at (write_sits p v l at h.0 h.2 slot) h.1

  pub read_in : (l at : ℕ) → HasReader p v l → at ≡ slot_in (owners_of p).reads l → at < length rs
  read_in l at h slot = read_there v ns ws rs bs o s l at (read_sits p v false l at h.0 h.2 slot) h.1

  pub block_in : (q b at : ℕ) → q < length (pools_of p.shape) → b < (pool_at p q).blocks → Has p v (filler_of p q)
      → block_at p q b < length v.blocks → at ≡ slot_in (owners_of p).blocks (block_at p q 0) + b → at < length bs
  block_in q b at low few has room slot = block_there v ns ws rs bs o s (block_at p q b) at (block_sits p v q b at low few has slot) room
