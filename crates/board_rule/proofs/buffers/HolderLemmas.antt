-- What a seat knows of the ends of links and of blocks, and the step that changes one of them.
use Rattle.std.proofs.Common.{◌≡◌, ◌≢◌, ℕ, zero, suc, ◌+◌, ◌<◌, ◌≤◌, Bool, true, false, true≢false, not, cond, List, []}
use Rattle.std.proofs.Common.{◌∷◌, length, set, get_or, refl, sym, ap, ◌∙◌, subst, arith, eq-eqb, ne_eqb}
use Rattle.std.specs.Prelude.{slice_get, Some, Contains, sum_by, take}
use Rattle.std.specs.List.{position_or_len}
use Rattle.std.proofs.lemmas.List.Sums.{sum_by-cons}
use Rattle.std.proofs.lemmas.Option.{slice_get_within, get_or_from_slice_get, slice_get-get_or}
use mathlib.Core.Logic.{dite}
use mathlib.Core.Option.{some, some-injective, some-ne-none}
use native.Mathlib.Decide.{ℕ_discrete, dec_le}
use lib.ListN.{get_elem?}
use Rattle.atomic_table.specs.Table.{State}
use Rattle.atomic_table.proofs.Lists.{set_else}
use Rattle.pw_graph.specs.declared.shape.ShapeLink.{ShapeLink}
use Rattle.pw_graph.specs.declared.pools.PoolShape.{PoolShape}
use Rattle.pw_graph.specs.declared.ids.PortId.{PortId}
use Rattle.pw_graph.specs.Pools.{is_same_port, pools_of}
use Rattle.board_rule.specs.declared.view.DriverPhase.TheVariants as drives
use Rattle.board_rule.specs.declared.view.NodeView.{NodeView}
use Rattle.board_rule.specs.declared.view.DriverView.{DriverView}
use Rattle.board_rule.specs.declared.view.WriteView.{WriteView}
use Rattle.board_rule.specs.declared.view.ReadView.{ReadView}
use Rattle.board_rule.specs.declared.view.BlockView.{BlockView}
use Rattle.board_rule.specs.declared.view.View.{View}
use Rattle.std.proofs.lemmas.Nat.{mul-le}
use Rattle.std.proofs.lemmas.List.{length-map}
use Rattle.pw_graph.specs.Pools.{IsPooledShape, channels_of, sources_of, words_of}
use Rattle.pw_graph.specs.Pools as pools
use Rattle.board_rule.proofs.buffers.PoolWordLemmas.{pools_have_words}
use Rattle.pw_graph.proofs.PoolLemmas.{channels_le, same_port, port_same}
use Rattle.pw_graph.proofs.LayoutLemmas.{length-start_words, pools_have_blocks}
use Rattle.board_rule.specs.declared.board_shape.BoardShape.{BoardShape}
use Rattle.board_rule.specs.Layout.{BoardLayout, layout_of, HasSeats}
use Rattle.board_rule.specs.working.Rows.{HasIndexes}
use Rattle.board_rule.proofs.events.SoundLemmas.{sound_layout}
use Rattle.board_rule.proofs.LayoutLemmas.{count_is, long_enough}
use Rattle.board_rule.specs.View.{Whole, put, node_of, unwritten, unread}
use Rattle.board_rule.specs.buffers.BlockReadings.{Ends}
use Rattle.board_rule.specs.buffers.Spans.{spans, phase_over, phase_begun, drive_over, drive_begun, holder, block_at}
use Rattle.board_rule.specs.buffers.KnownEnds.{KnowsEnds, AreStill}
use Rattle.board_rule.specs.BoardRule.{Knows, Seated, Holds}
use Rattle.board_rule.specs.buffers.EndViews.{no_link, no_pool, link_at, pool_at, pool_of, view_write, view_read, view_block}
use Rattle.board_rule.specs.activation.SeatNodes.{cycle_of, HasNode}
use Rattle.board_rule.specs.activation.WorkSteps.{IsRunning, IsGivenOn}
use Rattle.board_rule.proofs.start.SeatLemmas.{put_here, put_else, set_there, seat_step}
use Rattle.board_rule.proofs.buffers.SpanLemmas.{over_at, begun_at, over_lead, begun_lead}
use Rattle.board_rule.proofs.activation.FollowerLemmas.{same_node}
use Rattle.board_rule.proofs.DriverLemmas.{lead_is}
use Rattle.board_rule.proofs.buffers.PortLemmas.{has_id, few_ports}
use Rattle.board_rule.proofs.buffers.WiredLemmas.{LinkAt, PoolAt, Wired, wired, pool_source}
use Rattle.board_rule.proofs.events.FinishLemmas.{Ready}

pub got : {A : Type 0} (l : List A) (i : ℕ) (a d : A) → get_elem? l i ≡ some a → get_or l i d ≡ a
got [] i a d e = absurd (some-ne-none a (sym e))
got (x ∷ xs) zero a d e = some-injective x a e
got (x ∷ xs) (suc i) a d e = got xs i a d e

-- a sum over the first j includes the one before
pub take_less : {A : Type 0} (f : A → ℕ) (xs : List A) (i j : ℕ) (x : A) → i < j → slice_get xs i ≡ Some x
    → sum_by f (take i xs) + f x ≤ sum_by f (take j xs)
take_less f [] i j x h at = absurd (let z = slice_get_within [] i x at in omega arith)
take_less f (y ∷ ys) zero zero x h at = absurd (omega arith)
take_less f (y ∷ ys) zero (suc j) x h at = let is : y ≡ x = get_or_from_slice_get (y ∷ ys) 0 x y at in let fx : f y ≡ f x = ap f is in
    let s = sum_by-cons f y (take j ys) in let z : sum_by f [] ≡ 0 = refl in omega arith
take_less f (y ∷ ys) (suc i) zero x h at = absurd (omega arith)
take_less f (y ∷ ys) (suc i) (suc j) x h at = let r = take_less f ys i j x (omega arith) at in let s = sum_by-cons f y (take j ys) in
    let t = sum_by-cons f y (take i ys) in omega arith

-- the first that passes
pub first_pass : {A : Type 0} (f : A → Bool) (xs : List A) (i : ℕ) (d : A) → i < length xs → f (get_or xs i d) ≡ true
    → (position_or_len f xs ≤ i) × (f (get_or xs (position_or_len f xs) d) ≡ true)
first_pass f [] i d h t = absurd (omega arith)
first_pass f (x ∷ xs) zero d h t = let z : position_or_len f (x ∷ xs) ≡ 0 = ap (λ b. cond (not b) (1 + position_or_len f xs) 0) t in
    (omega arith, ap (λ k. f (get_or (x ∷ xs) k d)) z ∙ t)
first_pass f (x ∷ xs) (suc i) d h t = by (f x) refl (first_pass f xs i d (omega arith) t)
  where
    by : (b : Bool) → f x ≡ b → (position_or_len f xs ≤ i) × (f (get_or xs (position_or_len f xs) d) ≡ true)
        → (position_or_len f (x ∷ xs) ≤ suc i) × (f (get_or (x ∷ xs) (position_or_len f (x ∷ xs)) d) ≡ true)
    by true e r = let z : position_or_len f (x ∷ xs) ≡ 0 = ap (λ b. cond (not b) (1 + position_or_len f xs) 0) e in
        (omega arith, ap (λ k. f (get_or (x ∷ xs) k d)) z ∙ e)
    by false e r = let a = r.0 in let z : position_or_len f (x ∷ xs) ≡ suc (position_or_len f xs) =
        ap (λ b. cond (not b) (1 + position_or_len f xs) 0) e ∙ (omega arith) in (omega arith, ap (λ k. f (get_or (x ∷ xs) k d)) z ∙ r.1)

module _ (p : BoardLayout) where
  pub link_is : (l : ℕ) (k : ShapeLink) → LinkAt p l k → link_at p l ≡ k
  link_is l k at = get_or_from_slice_get p.shape.links l k no_link at

  pub link_there : (l : ℕ) → l < length p.shape.links → LinkAt p l (link_at p l)
  link_there l h = slice_get-get_or p.shape.links l no_link h

  pub pool_is : (q : ℕ) (x : PoolShape) → PoolAt p q x → pool_at p q ≡ x
  pool_is q x at = get_or_from_slice_get (pools_of p.shape) q x no_pool at

  pub pool_there : (q : ℕ) → q < length (pools_of p.shape) → PoolAt p q (pool_at p q)
  pool_there q h = slice_get-get_or (pools_of p.shape) q no_pool h

  -- the pool that a link reads
  pub pool_here : Wired p → (l : ℕ) (k : ShapeLink) → LinkAt p l k → PoolAt p (pool_of p l) (pool_at p (pool_of p l))
      × Contains (pool_at p (pool_of p l)).links l × (p.index (pool_at p (pool_of p l)).port.node ≡ p.index k.from.node)
  pool_here w l k at =
      let c = w.pool l k at in let q : ℕ = c.0 in let x : PoolShape = c.1 in let f : PoolShape
      → Bool = λ z. is_same_port z.port (link_at p l).from in
      let from : (link_at p l).from ≡ k.from = ap (λ (z : ShapeLink). z.from) (link_is l k at) in
      let made = w.there q l x c.2 c.3 in let same : made.0 ≡ k = cc in let port : x.port ≡ k.from = sym made.2
      ∙ ap (λ (z : ShapeLink). z.from) same in
      let lt = slice_get_within (pools_of p.shape) q x c.2 in
      let first = first_pass f (pools_of p.shape) q no_pool lt
      (ap f (get_or_from_slice_get (pools_of p.shape) q x no_pool c.2) ∙ port_same x.port (link_at p l).from (port ∙ sym from)) in
      let low = first.0 in
      let y : PoolShape = pool_at p (pool_of p l) in
      let there = pool_there (pool_of p l) (omega arith) in
      let mine : y.port ≡ k.from = same_port y.port (link_at p l).from first.1 ∙ from in
      let source = pool_source p.shape (pool_of p l) y there in
      let named : source.0 ≡ k.from = sym (ap (λ (z : PoolShape). z.port) source.2) ∙ mine in (
        there,
        subst (λ (z : PoolShape). Contains z.links l) (sym source.2)
            (has_id p.shape.links source.0 l k (slice_get_within p.shape.links l k at)
            (ap (λ (z : ShapeLink). z.from) (get_or_from_slice_get p.shape.links l k k at) ∙ sym named)),
        ap (λ (z : PortId). p.index z.node) mine,
      )

  pub holder_follows : (n : ℕ) → n ≢ p.driver → holder p n ≡ p.seat_of n
  holder_follows n o = ap (λ k. cond k p.seats (p.seat_of n)) (ne_eqb n p.driver o)

  pub holder_leads : (n : ℕ) → n ≡ p.driver → holder p n ≡ p.seats
  holder_leads n e = ap (λ k. cond k p.seats (p.seat_of n)) (eq-eqb n p.driver e)

  -- what the view says of the links of a node that ends is so
  pub is_ready : (g : Whole) (ws : List ℕ) (views : List View) (id : ℕ) (v : View) (m c : ℕ) → Seated p g ws views
      → get_elem? views id ≡ some v → holder p m ≡ v.number → (spans p g m).begun ≡ c + 1 → IsGivenOn p v m c → Ready p (spans p g) g.ends m
  is_ready g ws views id v m c s at mine begun given = let k = (s.knows id v at).ends in record {
    wrote = λ l x there q. ap (λ (y : WriteView). y.stored)
        (sym (got v.writes l (g.ends.writes l) (unwritten 0) (k.of_write l x there (ap (holder p) q ∙ mine))))
        ∙ given.0 l (slice_get_within p.shape.links l x there) (ap (λ (y : ShapeLink). p.index y.from.node) (link_is l x there) ∙ q)
        ∙ sym begun;
    gave = λ l x there q. ap (λ (y : ReadView). y.stored)
        (sym (got v.reads l (g.ends.reads l) (unread 0) (k.of_read l x there (ap (holder p) q ∙ mine))))
        ∙ given.1 l (slice_get_within p.shape.links l x there) (ap (λ (y : ShapeLink). p.index y.to.node) (link_is l x there) ∙ q)
        ∙ sym begun;
  }

  -- the ends after a step, and the whole with them
  abbrev pub new_write : Ends → ℕ → WriteView → Ends
  new_write ends l y = record ends { writes = put ends.writes l y }

  abbrev pub new_read : Ends → ℕ → ReadView → Ends
  new_read ends l y = record ends { reads = put ends.reads l y }

  abbrev pub new_block : Ends → ℕ → ℕ → BlockView → Ends
  new_block ends q b y = record ends { blocks = put ends.blocks q (put (ends.blocks q) b y) }

  abbrev pub with_ends : Whole → Ends → Whole
  with_ends g ends = record g { ends = ends }

  -- one end or one block of the seat id changes
  ends_step : (g : Whole) (ends : Ends) (words after : List ℕ) (views : List View) (id : ℕ) (v w : View) → get_elem? views id ≡ some v
      → length after ≡ length words → v.number ≤ p.seats → Knows p (with_ends g ends) id w
      → ((number : ℕ) (writes : List WriteView) (reads : List ReadView) (blocks : List BlockView) (reclaimed : List ℕ)
      → (number ≡ v.number → ⊥) → KnowsEnds p g.ends number writes reads blocks reclaimed
      → KnowsEnds p ends number writes reads blocks reclaimed)
      → AreStill p ends g.split → w.number ≡ v.number → Seated p g words views
      → Seated p (with_ends g ends) after (set views id w)
  ends_step g ends words after views id v w at same low mine others still number s = let k = s.knows id v at in
      seat_step p g (with_ends g ends) words after views id v w at same mine
      (λ j u other r. record {
        kept = r.kept;
        here = r.here;
        is_driver = r.is_driver;
        expects = r.expects;
        is_split = r.is_split;
        owns = r.owns;
        ends = others u.number u.writes u.reads u.blocks u.reclaimed (λ e. other (sym (r.here (omega arith)) ∙ ap g.seat_at e ∙ k.here low)) r.ends;
        owners = r.owners;
        reads = r.reads;
        looks = r.looks;
      }) s.unsplit still s.table (λ _. refl) refl number s

  pub write_step : (g : Whole) (words after : List ℕ) (views : List View) (id l : ℕ) (x : ShapeLink) (v : View) (y : WriteView)
      → get_elem? views id ≡ some v → length after ≡ length words → LinkAt p l x → holder p (p.index x.from.node) ≡ v.number
      → v.number < p.seats
      → Seated p g words views → Seated p (with_ends g (new_write g.ends l y)) after (set views id (view_write v l y))
  write_step g words after views id l x v y at same there mine loops s = let k = s.knows id v at in let split = k.is_split loops in
      ends_step g (new_write g.ends l y) words after views id v (view_write v l y) at same (omega arith)
      record {
        kept = k.kept;
        here = k.here;
        is_driver = k.is_driver;
        expects = k.expects;
        is_split = k.is_split;
        owns = k.owns;
        ends = record {
          of_write = λ i z h e. dite (ℕ_discrete i l)
              (λ q. subst (λ j. get_elem? (set v.writes l y) j ≡ some (put g.ends.writes l y j)) (sym q)
              (set_there v.writes l y (g.ends.writes l) (k.ends.of_write l x there mine) ∙ ap some (sym (put_here g.ends.writes l y))))
              (λ q. set_else v.writes l i y q ∙ k.ends.of_write i z h e ∙ ap some (sym (put_else g.ends.writes l i y q)));
          of_read = k.ends.of_read;
          of_block = k.ends.of_block;
          of_pool = k.ends.of_pool;
        };
        owners = k.owners;
        reads = k.reads;
        looks = k.looks;
      }
      (λ number writes reads blocks reclaimed other r. record {
        of_write = λ i z h e. r.of_write i z h e ∙ ap some (sym (put_else g.ends.writes l i y (λ q. other (sym e ∙ seat_from i z h q))));
        of_read = r.of_read;
        of_block = r.of_block;
        of_pool = r.of_pool;
      })
      record {
        writes = λ i z h low e. put_else g.ends.writes l i y (λ q. let a = seat_from i z h q in omega arith) ∙ s.still.writes i z h low e;
        reads = s.still.reads;
        blocks = s.still.blocks;
        pools = s.still.pools;
      } refl s
    where
      seat_from : (i : ℕ) (z : ShapeLink) → LinkAt p i z → i ≡ l → holder p (p.index z.from.node) ≡ v.number
      seat_from i z h q = ap (λ (j : ShapeLink). holder p (p.index j.from.node))
          (sym (link_is i z h) ∙ ap (link_at p) q ∙ link_is l x there) ∙ mine

  pub read_step : (g : Whole) (words after : List ℕ) (views : List View) (id l : ℕ) (x : ShapeLink) (v : View) (y : ReadView)
      → get_elem? views id ≡ some v → length after ≡ length words → LinkAt p l x → holder p (p.index x.to.node) ≡ v.number
      → v.number ≤ p.seats
      → Seated p g words views → Seated p (with_ends g (new_read g.ends l y)) after (set views id (view_read v l y))
  read_step g words after views id l x v y at same there mine low s = let k = s.knows id v at in
      ends_step g (new_read g.ends l y) words after views id v (view_read v l y) at same low
      record {
        kept = k.kept;
        here = k.here;
        is_driver = k.is_driver;
        expects = k.expects;
        is_split = k.is_split;
        owns = k.owns;
        ends = record {
          of_write = k.ends.of_write;
          of_read = λ i z h e. dite (ℕ_discrete i l)
              (λ q. subst (λ j. get_elem? (set v.reads l y) j ≡ some (put g.ends.reads l y j)) (sym q)
              (set_there v.reads l y (g.ends.reads l) (k.ends.of_read l x there mine) ∙ ap some (sym (put_here g.ends.reads l y))))
              (λ q. set_else v.reads l i y q ∙ k.ends.of_read i z h e ∙ ap some (sym (put_else g.ends.reads l i y q)));
          of_block = k.ends.of_block;
          of_pool = k.ends.of_pool;
        };
        owners = k.owners;
        reads = k.reads;
        looks = k.looks;
      }
      (λ number writes reads blocks reclaimed other r. record {
        of_write = r.of_write;
        of_read = λ i z h e. r.of_read i z h e ∙ ap some (sym (put_else g.ends.reads l i y (λ q. other (sym e ∙ seat_to i z h q))));
        of_block = r.of_block;
        of_pool = r.of_pool;
      })
      record {
        writes = s.still.writes;
        reads = λ i z h far e. put_else g.ends.reads l i y
            (λ q. let a = seat_to i z h q in let split = k.is_split (omega arith) in omega arith) ∙ s.still.reads i z h far e;
        blocks = s.still.blocks;
        pools = s.still.pools;
      } refl s
    where
      seat_to : (i : ℕ) (z : ShapeLink) → LinkAt p i z → i ≡ l → holder p (p.index z.to.node) ≡ v.number
      seat_to i z h q = ap (λ (j : ShapeLink). holder p (p.index j.to.node)) (sym (link_is i z h) ∙ ap (link_at p) q ∙ link_is l x there)
          ∙ mine

  -- a block is put at its index; no other block is there
  pub block_step : (g : Whole) (words after : List ℕ) (views : List View) (id q b : ℕ) (x : PoolShape) (v : View) (y : BlockView)
      → get_elem? views id ≡ some v → length after ≡ length words → PoolAt p q x → b < x.blocks → holder p (p.index x.port.node) ≡ v.number
      → v.number < p.seats
      → Seated p g words views → Seated p (with_ends g (new_block g.ends q b y)) after (set views id (view_block p v q b y))
  block_step g words after views id q b x v y at same there low mine loops s = let k = s.knows id v at in let split = k.is_split loops in
      ends_step g (new_block g.ends q b y) words after views id v (view_block p v q b y) at same (omega arith)
      record {
        kept = k.kept;
        here = k.here;
        is_driver = k.is_driver;
        expects = k.expects;
        is_split = k.is_split;
        owns = k.owns;
        ends = record {
          of_write = k.ends.of_write;
          of_read = k.ends.of_read;
          of_block = λ r c z h l e. same_or_else r c (λ i. i)
              (λ t. subst (λ (j : ℕ × ℕ). get_elem? (set v.blocks (block_at p q b) y) (block_at p j.0 j.1)
              ≡ some (put g.ends.blocks q (put (g.ends.blocks q) b y) j.0 j.1)) (λ i. (sym t.0 i, sym t.1 i))
              (set_there v.blocks (block_at p q b) y (g.ends.blocks q b) (k.ends.of_block q b x there low mine) ∙ ap some (sym block_now)))
              (λ o. set_else v.blocks (block_at p q b) (block_at p r c) y (blocks_apart r c z h l o) ∙ k.ends.of_block r c z h l e
              ∙ ap some (sym (block_else r c o)));
          of_pool = k.ends.of_pool;
        };
        owners = k.owners;
        reads = k.reads;
        looks = k.looks;
      }
      (λ number writes reads blocks reclaimed other r. record {
        of_write = r.of_write;
        of_read = r.of_read;
        of_block = λ i c z h l e. r.of_block i c z h l e ∙ ap some (sym (block_else i c (λ t. other (sym e ∙ seat_of_pool i z h t.0))));
        of_pool = r.of_pool;
      })
      record {
        writes = s.still.writes;
        reads = s.still.reads;
        blocks = λ i c z h l far e. block_else i c (λ t. let a = seat_of_pool i z h t.0 in omega arith) ∙ s.still.blocks i c z h l far e;
        pools = s.still.pools;
      } refl s
    where
      seat_of_pool : (i : ℕ) (z : PoolShape) → PoolAt p i z → i ≡ q → holder p (p.index z.port.node) ≡ v.number
      seat_of_pool i z h t = ap (λ (j : PoolShape). holder p (p.index j.port.node))
          (sym (pool_is i z h) ∙ ap (pool_at p) t ∙ pool_is q x there) ∙ mine

      block_now : put g.ends.blocks q (put (g.ends.blocks q) b y) q b ≡ y
      block_now = ap (λ (f : ℕ → BlockView). f b) (put_here g.ends.blocks q (put (g.ends.blocks q) b y)) ∙ put_here (g.ends.blocks q) b y

      block_else : (i c : ℕ) → ((i ≡ q) × (c ≡ b) → ⊥) → put g.ends.blocks q (put (g.ends.blocks q) b y) i c ≡ g.ends.blocks i c
      block_else i c o = dite (ℕ_discrete i q)
          (λ t. ap (λ j. put g.ends.blocks q (put (g.ends.blocks q) b y) j c) t
          ∙ ap (λ (f : ℕ → BlockView). f c) (put_here g.ends.blocks q (put (g.ends.blocks q) b y))
          ∙ put_else (g.ends.blocks q) b c y (λ e. o (t, e)) ∙ ap (λ j. g.ends.blocks j c) (sym t))
          (λ t. ap (λ (f : ℕ → BlockView). f c) (put_else g.ends.blocks q i (put (g.ends.blocks q) b y) t))

      same_or_else : {A : Type 0} (i c : ℕ) → (A → A) → ((i ≡ q) × (c ≡ b) → A) → (((i ≡ q) × (c ≡ b) → ⊥) → A) → A
      same_or_else i c f both either = dite (ℕ_discrete i q) (λ t. dite (ℕ_discrete c b) (λ e. both (t, e)) (λ e. either (λ z. e z.1)))
          (λ t. either (λ z. t z.0))

      blocks_apart : (i c : ℕ) (z : PoolShape) → PoolAt p i z → c < z.blocks → ((i ≡ q) × (c ≡ b) → ⊥) → block_at p i c ≢ block_at p q b
      blocks_apart i c z h l o e = dite (ℕ_discrete i q)
          (λ t. let d : sum_by (λ (k : PoolShape). k.blocks) (take i (pools_of p.shape))
          ≡ sum_by (λ (k : PoolShape). k.blocks) (take q (pools_of p.shape)) =
          ap (λ j. sum_by (λ (k : PoolShape). k.blocks) (take j (pools_of p.shape))) t in o (t, (omega arith)))
          (λ t. dite (dec_le i q)
          (λ le. let a = take_less (λ (k : PoolShape). k.blocks) (pools_of p.shape) i q z (omega arith) h in omega arith)
          (λ gt. let a = take_less (λ (k : PoolShape). k.blocks) (pools_of p.shape) q i x (omega arith) there in omega arith))

  -- a pool is reclaimed in the cycle before r
  abbrev pub new_reclaim : Ends → ℕ → ℕ → Ends
  new_reclaim ends q r = record ends { reclaimed = put ends.reclaimed q r }

  abbrev pub view_reclaim : View → ℕ → ℕ → View
  view_reclaim v q r = record v { reclaimed = set v.reclaimed q r }

  pub reclaim_step : (g : Whole) (words : List ℕ) (views : List View) (id q r : ℕ) (x : PoolShape) (v : View)
      → get_elem? views id ≡ some v → PoolAt p q x → holder p (p.index x.port.node) ≡ v.number → v.number < p.seats
      → Seated p g words views → Seated p (with_ends g (new_reclaim g.ends q r)) words (set views id (view_reclaim v q r))
  reclaim_step g words views id q n x v at there mine loops s = let k = s.knows id v at in let split = k.is_split loops in
      ends_step g (new_reclaim g.ends q n) words words views id v (view_reclaim v q n) at refl (omega arith)
      record {
        kept = k.kept;
        here = k.here;
        is_driver = k.is_driver;
        expects = k.expects;
        is_split = k.is_split;
        owns = k.owns;
        ends = record {
          of_write = k.ends.of_write;
          of_read = k.ends.of_read;
          of_block = k.ends.of_block;
          of_pool = λ i z h e. dite (ℕ_discrete i q)
              (λ t. subst (λ j. get_elem? (set v.reclaimed q n) j ≡ some (put g.ends.reclaimed q n j)) (sym t)
              (set_there v.reclaimed q n (g.ends.reclaimed q) (k.ends.of_pool q x there mine) ∙ ap some (sym (put_here g.ends.reclaimed q n))))
              (λ t. set_else v.reclaimed q i n t ∙ k.ends.of_pool i z h e ∙ ap some (sym (put_else g.ends.reclaimed q i n t)));
        };
        owners = k.owners;
        reads = k.reads;
        looks = k.looks;
      }
      (λ number writes reads blocks reclaimed other r. record {
        of_write = r.of_write;
        of_read = r.of_read;
        of_block = r.of_block;
        of_pool = λ i z h e. r.of_pool i z h e ∙ ap some (sym (put_else g.ends.reclaimed q i n (λ t. other (sym e ∙ seat_of_pool i z h t))));
      })
      record {
        writes = s.still.writes;
        reads = s.still.reads;
        blocks = s.still.blocks;
        pools = λ i z h far e. put_else g.ends.reclaimed q i n (λ t. let a = seat_of_pool i z h t in omega arith) ∙ s.still.pools i z h far e;
      } refl s
    where
      seat_of_pool : (i : ℕ) (z : PoolShape) → PoolAt p i z → i ≡ q → holder p (p.index z.port.node) ≡ v.number
      seat_of_pool i z h t = ap (λ (j : PoolShape). holder p (p.index j.port.node))
          (sym (pool_is i z h) ∙ ap (pool_at p) t ∙ pool_is q x there) ∙ mine

  module _ {S : Type 0} where
    -- a node of the seat that works has begun the cycle that the seat is in with it, and not ended it
    pub now_running : (s : State S View) (r : Holds p s) (id : ℕ) (b : Bool) (v : View) (m : ℕ) → get_elem? s.views id ≡ some v
        → HasNode b p v m → IsRunning b v m
        → ((spans p r.whole m).ended ≡ cycle_of b v m) × ((spans p r.whole m).begun ≡ (spans p r.whole m).ended + 1) × (holder p m ≡ v.number)
        × (v.number ≤ p.seats) × (b ≡ false → v.number < p.seats)
    now_running s r id true v m at h run = let g = r.whole in let is = lead_is p s r id v at h.0.1 in
        let d : g.lead.drive ≡ drives.Running = ap (λ (l : DriverView). l.drive) (sym is) ∙ run in
        let c : g.lead.cycle ≡ v.lead.cycle = ap (λ (l : DriverView). l.cycle) (sym is) in
        let o : (spans p g m).ended ≡ g.lead.cycle + 0 = over_lead p g m h.0.0 ∙ ap (λ k. g.lead.cycle + drive_over k) d in
        let n : (spans p g m).begun ≡ g.lead.cycle + 1 = begun_lead p g m h.0.0 ∙ ap (λ k. g.lead.cycle + drive_begun k) d in
        let e = h.0.1 in
        (omega arith, omega arith, holder_leads m h.0.0 ∙ sym h.0.1, omega arith, λ z. absurd (true≢false z))
    now_running s r id false v m at h run = let g = r.whole in let has = h.0 in let x : NodeView = node_of v m in
        let same = same_node p s r id m v at has in
        let o : (spans p g m).ended ≡ x.next + 0 = over_at p g m has.follows ∙ ap (λ (y : NodeView). y.next + phase_over y.phase) same
        ∙ ap (λ f. x.next + phase_over f) run in
        let n : (spans p g m).begun ≡ x.next + 1 = begun_at p g m has.follows ∙ ap (λ (y : NodeView). y.next + phase_begun y.phase) same
        ∙ ap (λ f. x.next + phase_begun f) run in
        (omega arith, omega arith, holder_follows m has.follows ∙ has.owned, omega arith, λ z. has.loops)

-- where a board has the words of areas and blocks
pub placed : (board_shape : BoardShape) → IsPooledShape board_shape.shape → HasSeats board_shape → HasIndexes board_shape.shape
placed board_shape pooled seats = let p = layout_of board_shape in let w = wired p (sound_layout board_shape pooled.sound seats) pooled in
    let long = length-start_words board_shape.shape pooled in let count = count_is board_shape.shape in record {
      pools = λ l h. slice_get_within (pools_of board_shape.shape) (pool_of p l) (pool_at p (pool_of p l))
          (pool_here p w l (link_at p l) (link_there p l h)).0;
      areas = λ l a h late. let b = (w.io_in l a (link_at p l) (link_there p l h) late).1 in let e = long_enough board_shape.shape in omega arith;
      blocks = λ q b h low. let r = (w.readers_in q b (pool_at p q) (pool_there p q h) low).1 in omega arith;
      some = λ q h. (
        pools_have_words p (sound_layout board_shape pooled.sound seats) pooled q (pool_at p q) (pool_there p q h),
        pools_have_blocks board_shape.shape pooled.sound.links.each q no_pool h,
      );
      count = let a = few_ports [] board_shape.shape.links in let b = length-map (sources_of board_shape.shape) (pools.pool_of board_shape.shape) in
          let few = pooled.sound.links.few in omega arith;
      few = λ q h. let s = pool_source board_shape.shape q (pool_at p q) (pool_there p q h) in
          let words : (pool_at p q).words ≡ words_of board_shape.shape s.0 = ap (λ (z : PoolShape). z.words) s.2 in
          let most = mul-le board_shape.shape.quantum (channels_of board_shape.shape s.0) 8192 8 pooled.sound.cycles.quantum.1
          (channels_le board_shape.shape s.0 pooled) in omega arith;
    }
