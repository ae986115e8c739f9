-- The start of a board, and the seats that are split off.
use Rattle.std.proofs.Common.{◌≡◌, ◌≢◌, ℕ, zero, suc, ◌+◌, ◌-◌, ◌*◌, ◌<◌, ◌⊎◌, inl, inr, ⊎_elim, ◌≤◌, ◌&&◌, Bool, true}
use Rattle.std.proofs.Common.{false, true≢false, cond, eqb, List, [], ◌∷◌, ◌++◌, length, set, get_or, replicate, refl, sym, ap, ◌∙◌, subst}
use Rattle.std.proofs.Common.{arith, eq-eqb, ne_eqb, length-set}
use mathlib.Core.Logic.{dite}
use mathlib.Core.Option.{some, some-injective, some-ne-none}
use native.Mathlib.Decide.{ℕ_discrete, dec_le}
use lib.ListN.{get_elem?}
use Rattle.atomic_table.specs.Table.{opening, Splits}
use Rattle.atomic_table.proofs.Lists.{at_set, set_else}
use Rattle.board_rule.proofs.start.SeatLemmas.{set_there}
use Rattle.board_rule.specs.declared.view.View.{View}
use Rattle.std.specs.Prelude.{All, slice_get, slice_index, Some, sum_by, take, map}
use Rattle.std.specs.List.{flat_map}
use Rattle.std.proofs.lemmas.Option.{slice_get_within, get_or_from_slice_get}
use Rattle.std.proofs.lemmas.List.Concat.{flat_map-cons}
use Rattle.std.proofs.lemmas.List.Sums.{sum_by-cons}
use Rattle.pw_graph.specs.declared.event.Event.{Event}
use Rattle.pw_graph.specs.declared.event.Event.TheVariants.{Tick}
use Rattle.pw_graph.specs.History.{AreJoined, epoch_cycles}
use Rattle.board_rule.proofs.events.LateLemmas.{late_bits}
use Rattle.board_rule.proofs.events.DrawLemmas.{none_in}
use Rattle.pw_graph.specs.Layout.{pending_place, status_place, late_place, event_place, event_count, start_words}
use Rattle.pw_graph.specs.Pools.{IsPooledShape, pools_of}
use Rattle.pw_graph.specs.declared.pools.PoolShape.{PoolShape}
use Rattle.board_rule.specs.declared.view.BlockView.{BlockView}
use Rattle.board_rule.specs.declared.view.BlockView.TheVariants.{Free, Out}
use Rattle.pw_graph.specs.Words.{finished_word, not_triggered_word}
use Rattle.board_rule.specs.Layout.{BoardLayout, IsSound, nodes, first, word_count}
use Rattle.board_rule.specs.View.{Whole, Samples, idle, resting, unread, first_write, first_block, blocks_at_first, is_delayed, first_view, loop_view, split_off}
use Rattle.board_rule.specs.buffers.SampleWords.{IsTable}
use Rattle.board_rule.specs.buffers.BufferRule.{Buffers}
use Rattle.board_rule.specs.buffers.BlockReadings.{Ends}
use Rattle.board_rule.specs.buffers.Spans.{spans, holder}
use Rattle.board_rule.specs.buffers.KnownEnds.{KnowsEnds, AreRead, AreStill}
use Rattle.board_rule.specs.events.EventRule.{drawn_before}
use Rattle.board_rule.specs.events.Closing.{HasEndedAll, last_view, kept_view}
use Rattle.board_rule.specs.activation.Phases.{PhaseOk}
use Rattle.board_rule.specs.declared.view.Phase.{Phase}
use Rattle.board_rule.specs.declared.view.Phase.TheVariants.{Idle, Awake, StartDrawn, Running, Done, FinishDrawn, Telling}
use Rattle.board_rule.specs.declared.view.NodeView.{NodeView}
use Rattle.board_rule.specs.declared.view.DriverView.{DriverView}
use Rattle.pw_graph.proofs.LayoutLemmas.{pools_have_blocks}
use Rattle.pw_graph.specs.declared.shape.Shape.{Shape}
use Rattle.std.proofs.lemmas.List.Elements.{All-head, All-tail, All-nil}
use Rattle.std.proofs.lemmas.List.{get_or-replicate, length-replicate}
use Rattle.board_rule.specs.BoardRule.{Knows, Holds}
use Rattle.board_rule.proofs.SumLemmas.{total_same}
use Rattle.board_rule.proofs.buffers.WiredLemmas.{Wired, wired, made}
use Rattle.board_rule.proofs.start.BufferStartLemmas.{start_ends, buffers_start, buffers_named}
use Rattle.board_rule.proofs.start.StartWordLemmas.{some_blocks, io_at_start, samples_start, readers_start, readers_first}
use Rattle.board_rule.specs.buffers.EndViews.{no_link, no_pool}
use Rattle.board_rule.proofs.buffers.SpanLemmas.{wired_in}

at_end : {A : Type 0} (l : List A) (a b : A) (j : ℕ) → get_elem? (l ++ a ∷ []) j ≡ some b → (get_elem? l j ≡ some b)
    ⊎ ((j ≡ length l) × (a ≡ b))
at_end [] a b zero e = inr (refl, some-injective a b e)
at_end [] a b (suc j) e = absurd (some-ne-none b (sym e))
at_end (x ∷ xs) a b zero e = inl e
at_end (x ∷ xs) a b (suc j) e = ⊎_elim inl (λ (t : (j ≡ length xs) × (a ≡ b)). inr (ap suc t.0, t.1)) (at_end xs a b j e)

pub all_same : {A : Type 0} (n i : ℕ) (a : A) → i < n → get_elem? (replicate n a) i ≡ some a
all_same zero i a h = absurd (omega arith)
all_same (suc n) zero a h = refl
all_same (suc n) (suc i) a h = all_same n i a (omega arith)

last_at : {A : Type 0} (xs : List A) (a : A) → get_elem? (xs ++ a ∷ []) (length xs) ≡ some a
last_at [] a = refl
last_at (x ∷ xs) a = last_at xs a

front_at : {A : Type 0} (xs ys : List A) (i : ℕ) (a : A) → get_elem? xs i ≡ some a → get_elem? (xs ++ ys) i ≡ some a
front_at [] ys i a e = absurd (some-ne-none a (sym e))
front_at (x ∷ xs) ys zero a e = e
front_at (x ∷ xs) ys (suc i) a e = front_at xs ys i a e

behind : {A : Type 0} (k : ℕ) (a : A) (ys : List A) (i : ℕ) → get_elem? (replicate k a ++ ys) (k + i) ≡ get_elem? ys i
behind zero a ys i = let e : 0 + i ≡ i = omega arith in ap (get_elem? ys) e
behind (suc k) a ys i = let e : suc k + i ≡ suc (k + i) = omega arith in ap (get_elem? (a ∷ (replicate k a ++ ys))) e ∙ behind k a ys i

map_there : {A B : Type 0} (f : A → B) (xs : List A) (l : ℕ) (k : A) → slice_get xs l ≡ Some k → get_elem? (map f xs) l ≡ some (f k)
map_there f [] l k at = absurd (let z = slice_get_within [] l k at in omega arith)
map_there f (x ∷ xs) zero k at = ap (λ y. some (f y)) (get_or_from_slice_get (x ∷ xs) 0 k x at)
map_there f (x ∷ xs) (suc l) k at = map_there f xs l k at

-- a follower is in the driver's cycle, or later
started : (c : ℕ) (x : NodeView) (n : ℕ) → PhaseOk n c x.next x.phase → c ≤ x.next
started c x n ok = by x.phase ok
  where
    by : (f : Phase) → PhaseOk n c x.next f → c ≤ x.next
    by Idle o = o.0
    by Awake o = omega arith
    by StartDrawn o = omega arith
    by Running o = omega arith
    by Done o = omega arith
    by FinishDrawn o = omega arith
    by (Telling i owes) o = let a = o.0 in omega arith

-- how many blocks a pool has at the start, and one of them
module _ (shape : Shape) where
  front : (x : PoolShape) (ys : List BlockView) (b : ℕ) → b < x.blocks
      → get_elem? (blocks_at_first shape x ++ ys) b ≡ some (first_block shape x b)
  front x ys b low = by (is_delayed shape x) b low
    where
      by : (c : Bool) (b : ℕ) → b < x.blocks
          → get_elem? ((cond c (Out shape.first ∷ replicate (x.blocks - 1) Free) (replicate x.blocks Free)) ++ ys) b
          ≡ some (let z : BlockView = cond (c && eqb b 0) (Out shape.first) Free in z)
      by true zero h = refl
      by true (suc b) h = front_at (replicate (x.blocks - 1) Free) ys b Free (all_same (x.blocks - 1) b Free (omega arith))
          ∙ ap (λ d. some (let z : BlockView = cond d (Out shape.first) Free in z)) (sym (ne_eqb (suc b) 0 (λ z. omega arith)))
      by false b h = front_at (replicate x.blocks Free) ys b Free (all_same x.blocks b Free h)

  past : (x : PoolShape) (ys : List BlockView) (i : ℕ) → 0 < x.blocks → get_elem? (blocks_at_first shape x ++ ys) (x.blocks + i) ≡ get_elem? ys i
  past x ys i filled = by (is_delayed shape x)
    where
      by : (c : Bool) → get_elem? ((cond c (Out shape.first ∷ replicate (x.blocks - 1) Free) (replicate x.blocks Free)) ++ ys) (x.blocks + i)
          ≡ get_elem? ys i
      by true = let e : x.blocks + i ≡ suc (x.blocks - 1 + i) = omega arith in
          ap (get_elem? (Out shape.first ∷ (replicate (x.blocks - 1) Free ++ ys))) e ∙ behind (x.blocks - 1) Free ys i
      by false = behind x.blocks Free ys i

  -- the block b of the pool q among the blocks of all pools
  first_there : (pools : List PoolShape) (q b : ℕ) (x : PoolShape) → All (λ y. 1 ≤ y.blocks) pools → slice_get pools q ≡ Some x → b < x.blocks
      → get_elem? (flat_map (blocks_at_first shape) pools) (sum_by (λ y. y.blocks) (take q pools) + b) ≡ some (first_block shape x b)
  first_there [] q b x have at low = absurd (let z = slice_get_within [] q x at in omega arith)
  first_there (y ∷ ys) zero b x have at low = let is : y ≡ x = get_or_from_slice_get (y ∷ ys) 0 x y at in
      let e : sum_by (λ (z : PoolShape). z.blocks) [] + b ≡ b = omega arith in
      let count : y.blocks ≡ x.blocks = ap (λ (z : PoolShape). z.blocks) is in
      (λ i. get_elem? (flat_map-cons (blocks_at_first shape) y ys i) (e i)) ∙ front y (flat_map (blocks_at_first shape) ys) b (omega arith)
      ∙ ap (λ z. some (first_block shape z b)) is
  first_there (y ∷ ys) (suc q) b x have at low = let rest : ℕ = sum_by (λ (z : PoolShape). z.blocks) (take q ys) + b in
      let e : sum_by (λ (z : PoolShape). z.blocks) (y ∷ take q ys) + b ≡ y.blocks + rest = let s =
      sum_by-cons (λ (z : PoolShape). z.blocks) y (take q ys) in omega arith in
      (λ i. get_elem? (flat_map-cons (blocks_at_first shape) y ys i) (e i))
      ∙ past y (flat_map (blocks_at_first shape) ys) rest (All-head (λ z. 1 ≤ z.blocks) y ys have)
      ∙ first_there ys q b x (All-tail (λ z. 1 ≤ z.blocks) y ys have) at low

abbrev move : (ℕ → ℕ) → ℕ → ℕ → ℕ → ℕ
move f m x i = cond (eqb i m) x (f i)

module _ (p : BoardLayout) where
  abbrev start : Whole
  start = record {
    lead = resting (first p);
    split = 0;
    nodes = λ _. idle (first p);
    seat_at = λ _. 0;
    expect = [];
    ends = start_ends p;
    past = [];
    inside = [];
    late = 0;
    looks = [];
  }

module _ (p : BoardLayout) where
  -- the number of a follower's seat
  holder_at : IsSound p → (n : ℕ) → n < nodes p → n ≢ p.driver → holder p n < p.seats
  holder_at sound n inside follows = let a = sound.seats_in n inside follows in
      let b : holder p n ≡ p.seat_of n = ap (λ k. cond k p.seats (p.seat_of n)) (ne_eqb n p.driver follows) in omega arith

  holder_low : IsSound p → (n : ℕ) → n < nodes p → holder p n ≤ p.seats
  holder_low sound n inside = dite (ℕ_discrete n p.driver)
      (λ e. let b : holder p n ≡ p.seats = ap (λ k. cond k p.seats (p.seat_of n)) (eq-eqb n p.driver e) in omega arith)
      (λ o. let a = holder_at sound n inside o in omega arith)

  -- what the views know of links and blocks: the driver's before any split, one that is split off, and the one that is kept of a board
  first_knows : IsSound p → IsPooledShape p.shape
      → KnowsEnds p (start_ends p) p.seats [] (replicate (length p.shape.links) (unread (first p))) [] []
  first_knows sound pooled = let w = wired p sound pooled in record {
    of_write = λ l k at h. absurd (let z = holder_at sound (p.index k.from.node) (w.from_in l k at) (w.from_follows l k at) in omega arith);
    of_read = λ l k at h. all_same (length p.shape.links) l (unread (first p)) (slice_get_within p.shape.links l k at);
    of_block = λ q b x at low h. absurd (let m = made p w q x at in let z = holder_at sound (p.index x.port.node) m.0 m.1 in omega arith);
    of_pool = λ q x at h. absurd (let m = made p w q x at in let z = holder_at sound (p.index x.port.node) m.0 m.1 in omega arith);
  }

  kept_knows : IsSound p → Wired p → (ends : Ends) → KnowsEnds p ends (suc p.seats) [] [] [] []
  kept_knows sound w ends = record {
    of_write = λ l k at h. absurd (let z = holder_low sound (p.index k.from.node) (w.from_in l k at) in omega arith);
    of_read = λ l k at h. absurd (let z = holder_low sound (p.index k.to.node) (w.to_in l k at) in omega arith);
    of_block = λ q b x at low h. absurd (let m = made p w q x at in let z = holder_low sound (p.index x.port.node) m.0 in omega arith);
    of_pool = λ q x at h. absurd (let m = made p w q x at in let z = holder_low sound (p.index x.port.node) m.0 in omega arith);
  }

  loop_knows : (e : Samples) (j : ℕ) (ends : Ends) → IsPooledShape p.shape → AreStill p ends j → j < p.seats
      → KnowsEnds p ends j (loop_view p e j).writes (loop_view p e j).reads (loop_view p e j).blocks (loop_view p e j).reclaimed
  loop_knows e j ends pooled s room = record {
    of_write = λ l k at h. map_there (first_write (first p)) p.shape.links l k at ∙ ap some (sym (s.writes l k at (omega arith) (omega arith)));
    of_read = λ l k at h. all_same (length p.shape.links) l (unread (first p)) (slice_get_within p.shape.links l k at)
        ∙ ap some (sym (s.reads l k at (omega arith) (omega arith)));
    of_block = λ q b x at low h. first_there p.shape (pools_of p.shape) q b x (pools_have_blocks p.shape pooled.sound.links.each) at low
        ∙ ap some (sym (s.blocks q b x at low (omega arith) (omega arith)));
    of_pool = λ q x at h. all_same (length (pools_of p.shape)) q (first p + 1) (slice_get_within (pools_of p.shape) q x at)
        ∙ ap some (sym (s.pools q x at (omega arith) (omega arith)));
  }

  none_read : AreRead p (replicate (length p.shape.links) 0)
  none_read = record {
    links = length-replicate (length p.shape.links) 0;
    few = λ l h. let z : slice_index (replicate (length p.shape.links) 0) l ≡ 0 = get_or-replicate (length p.shape.links) l 0 0 h in omega arith;
  }

  still_later : (ends : Ends) (j : ℕ) → AreStill p ends j → AreStill p ends (suc j)
  still_later ends j s = record {
    writes = λ l k at a b. s.writes l k at (omega arith) b;
    reads = λ l k at a b. s.reads l k at (omega arith) b;
    blocks = λ q b x at low a c. s.blocks q b x at low (omega arith) c;
    pools = λ q x at a c. s.pools q x at (omega arith) c;
  }

  unsplit_free : IsSound p → Wired p → (ends : Ends) → AreStill p ends 0 → (q b : ℕ) (x : PoolShape)
      → slice_get (pools_of p.shape) q ≡ Some x → b < x.blocks → ends.blocks q b ≡ first_block p.shape x b
  unsplit_free sound w ends s q b x at low = let m = made p w q x at in
      s.blocks q b x at low (omega arith) (holder_at sound (p.index x.port.node) m.0 m.1)

module _ (p : BoardLayout) {S : Type 0} where
  pub opens : (words : List ℕ) (slots : List S) → IsSound p → IsPooledShape p.shape → words ≡ start_words p.shape
      → word_count p.shape ≡ length words → nodes p + nodes p < length words → event_place p.shape (event_count p.shape) ≤ length words
      → get_or words 0 0 ≡ 0
      → ((k : ℕ) → k < p.shape.cycles → get_or words (late_place p.shape k) 0 ≡ 0)
      → ((t : ℕ) → t < event_count p.shape → get_or words (event_place p.shape t) 0 ≡ 0)
      → ((n : ℕ) → n < nodes p → get_or words (pending_place p.shape n) 0 ≡ 0)
      → ((n : ℕ) → n < nodes p → get_or words (status_place p.shape n) 0 ≡ not_triggered_word (first p))
      → Holds p (opening words slots (first_view p))
  opens words slots sound pooled is room wide long ticket lates unused pending status = record {
    whole = start p;
    seated = record {
      sound = sound;
      pooled = pooled;
      room = room;
      wide = wide;
      long = long;
      knows = only;
      most = omega arith;
      present = λ _ i low inside. (first_view p, refl, dite (dec_le p.seats i) (λ h. omega arith) (λ h. absurd (let z = inside (omega arith) in omega arith)));
      unsplit = λ _ _ _ _. refl;
      still = record {
        writes = λ l k at _ _. ap (first_write (first p)) (get_or_from_slice_get p.shape.links l k no_link at);
        reads = λ _ _ _ _ _. refl;
        blocks = λ q b x at _ _ _. ap (λ y. first_block p.shape y b) (get_or_from_slice_get (pools_of p.shape) q x no_pool at);
        pools = λ _ _ _ _ _. refl;
      };
      table = λ n h o l. absurd (omega arith);
    };
    activations = record {
      later = omega arith;
      early = omega arith;
      within = λ t. absurd (true≢false t);
      drive = tt;
      followers = λ _ _ _. (omega arith, omega arith);
      resting = λ _ _ _ _. (refl, refl);
      laid = record {
        pending_new = λ n h l. absurd (omega arith);
        pending_old = λ n h l. pending n h;
        status_new = λ n h l. absurd (omega arith);
        status_old = λ n h l. status n h ∙ sym (ap (λ b. cond b (not_triggered_word (first p)) (finished_word (first p - 1)))
            (eq-eqb (first p) (first p) refl));
      };
    };
    events = record {
      count = let none : 2 * first p + 0 ≡ 2 * first p = omega arith in
          let same = total_same (drawn_before p) (λ n. cond (eqb n p.driver) 0 (2 * first p + 0)) (nodes p)
          (λ n l. ap (λ k. cond (eqb n p.driver) 0 k) none) in omega arith;
      checks = refl;
      lates = refl;
      checking = λ z. absurd (true≢false (sym z));
      fresh = λ _. refl;
      tickets = record {
        drawn = ticket;
        stored = λ t e h. absurd (nothing t e h);
        unused = λ t _ l. unused t l;
        starts_kept = λ n h one. absurd (let z = zero_at n in omega arith);
        finishes_kept = λ n h one. absurd (let z = zero_at n in omega arith);
        told_kept = λ t e h. absurd (none_in (t, e) h);
      };
      earlier = record {
        legal = subst (λ k. AreJoined (epoch_cycles p.shape k) []) (let z : 0 ≡ first p - first p = omega arith in z) record
            { parts = []; joined = refl; legal = tt };
        before = λ i d h. absurd (omega arith);
        lates = λ k set h. absurd (none_in (Tick k set) h);
        late_now = λ h. lates (first p - first p) (omega arith);
        late_later = λ k h l. lates (k - first p) (omega arith);
      };
      inside = record {
        only = λ i d h. absurd (omega arith);
        starts = λ n h. sym (zero_at n);
        finishes = λ n h. sym (zero_at n);
        ticks = refl;
        order = λ n h one. absurd (let z = zero_at n in omega arith);
        waits = λ m n hm hn before one. absurd (let z = zero_at n in omega arith);
        tick = λ one. absurd (true≢false (sym one));
        late_ones = λ n h b. absurd (late_bits 0 (λ _. ⊥) [] (λ i d h. absurd (omega arith)) n b);
        seen = λ i d h. absurd (omega arith);
      };
    };
    buffers = subst (Buffers p (spans p (start p)) (start_ends p) []) (sym is)
        (buffers_start p (spans p (start p)) [] (start_words p.shape) (wired p sound pooled)
        (λ n h. (first_by (eqb n p.driver), first_by (eqb n p.driver))) (some_blocks p.shape pooled)
        (λ l a k at h. io_at_start p.shape l a k at h)
        (λ q b x at h. readers_start p.shape pooled q b x at h ∙ readers_first p q b x at)
        (samples_start p.shape pooled));
  }
    where
      first_by : (b : Bool) → cond b (first p + 0) (first p + 0) ≡ first p
      first_by true = omega arith
      first_by false = omega arith

      nothing : (t : ℕ) (e : Event) → slice_get [] t ≡ Some e → ⊥
      nothing t e h = let l = slice_get_within [] t e h in absurd (omega arith)

      zero_at : (n : ℕ) → cond {A = ℕ} (eqb n p.driver) 0 (cond (eqb (first p) (first p)) 0 1) ≡ 0
      zero_at n = by (eqb n p.driver) (eqb (first p) (first p)) (eq-eqb (first p) (first p) refl)
        where
          by : (b c : Bool) → c ≡ true → cond {A = ℕ} b 0 (cond c 0 1) ≡ 0
          by true c h = refl
          by false c h = ap (λ z. cond {A = ℕ} z 0 1) h

      only : (j : ℕ) (v : View) → get_elem? (first_view p ∷ []) j ≡ some v → Knows p (start p) j v
      only zero v e = subst (λ (w : View). Knows p (start p) 0 w) (some-injective _ _ e) record {
        kept = λ h. absurd (omega arith);
        here = λ _. refl;
        is_driver = λ _. (refl, refl, refl);
        expects = refl;
        is_split = λ h. absurd (omega arith);
        owns = λ n h o e'. absurd (let z = sound.seats_in n h o in omega arith);
        ends = first_knows p sound pooled;
        owners = λ _. refl;
        reads = λ _. none_read p;
        looks = λ _. All-nil _;
      }
      only (suc j) v e = absurd (some-ne-none v (sym e))

  pub splits : (id : ℕ) (v : View) (e : Samples) → v.number ≡ p.seats → v.split < p.seats → (0 < v.split → e ≡ v.expect) → IsTable p e
      → Splits {S = S} (Holds p) id v (split_off e v) (loop_view p e v.split)
  splits id v e is_driver room keeps table s r at =
      let w = wired_in p r.whole s.words s.views r.seated in let g = r.whole in let k = r.seated.knows id v at in let is = k.is_driver is_driver in
      let count = is.1 in
      let h : Whole = record {
        lead = g.lead;
        split = suc g.split;
        nodes = g.nodes;
        seat_at = move g.seat_at g.split (length s.views);
        expect = e;
        ends = g.ends;
        past = g.past;
        inside = g.inside;
        late = g.late;
        looks = g.looks;
      } in
      let here : h.seat_at g.split ≡ length s.views = ap (λ b. cond b (length s.views) (g.seat_at g.split)) (eq-eqb g.split g.split refl) in
      let else : (i : ℕ) → i ≢ g.split → h.seat_at i ≡ g.seat_at i =
      λ i o. ap (λ b. cond b (length s.views) (g.seat_at i)) (ne_eqb i g.split o) in record {
        whole = h;
        seated = record {
          sound = r.seated.sound;
          pooled = r.seated.pooled;
          room = r.seated.room;
          wide = r.seated.wide;
          long = r.seated.long;
          knows = λ j u q₀. ⊎_elim
              (λ (old : get_elem? (set s.views id (split_off e v)) j ≡ some u). ⊎_elim
              (λ (t : (j ≡ id) × (split_off e v ≡ u)). subst (λ (x : ℕ × View). Knows p h x.0 x.1) (λ i. (sym t.0 i, t.1 i)) record {
                kept = λ z. absurd (omega arith);
                here = λ h. else v.number (λ z. omega arith) ∙ k.here h;
                is_driver = λ _. (is.0, ap suc count, is.2);
                expects = refl;
                is_split = λ z. absurd (omega arith);
                owns = k.owns;
                ends = k.ends;
                owners = k.owners;
                reads = k.reads;
                looks = k.looks;
              })
              (λ (t : (j ≢ id) × (get_elem? s.views j ≡ some u)). let q = r.seated.knows j u t.1 in
              let small : u.number < g.split = q.is_split (dite (ℕ_discrete u.number p.seats)
              (λ z. absurd (t.0 (sym (q.here (omega arith)) ∙ ap g.seat_at (z ∙ sym is_driver) ∙ k.here (omega arith))))
              (λ z. dite (dec_le (suc p.seats) u.number) (λ y. absurd (let l = q.kept y in omega arith)) (λ y. omega arith))) in
              record {
                kept = λ z. absurd (omega arith);
                here = λ h. else u.number (λ z. omega arith) ∙ q.here h;
                is_driver = λ z. absurd (omega arith);
                expects = q.expects ∙ sym (keeps (omega arith) ∙ k.expects);
                is_split = λ _. omega arith;
                owns = q.owns;
                ends = q.ends;
                owners = q.owners;
                reads = q.reads;
                looks = q.looks;
              })
              (at_set s.views id j (split_off e v) u old))
              (λ (t : (j ≡ length (set s.views id (split_off e v))) × (loop_view p e v.split ≡ u)). subst
              (λ (x : ℕ × View). Knows p h x.0 x.1) (λ i. (sym (t.0 ∙ length-set s.views id (split_off e v)) i, t.1 i)) record {
                kept = λ z. absurd (omega arith);
                here = λ _. ap h.seat_at count ∙ here;
                is_driver = λ z. absurd (omega arith);
                expects = refl;
                is_split = λ _. omega arith;
                owns = λ n l o q₀. all_same (nodes p) n (idle (first p)) l ∙ ap some (sym (r.seated.unsplit n l o (omega arith)));
                ends = loop_knows p e v.split g.ends r.seated.pooled (subst (AreStill p g.ends) (sym count) r.seated.still) room;
                owners = λ _. refl;
                reads = λ _. none_read p;
                looks = λ z. absurd (omega arith);
              })
              (at_end (set s.views id (split_off e v)) (loop_view p e v.split) u j q₀);
          most = omega arith;
          present = λ open_ i low inside. dite (ℕ_discrete i g.split)
              (λ z. (
                loop_view p e v.split,
                ap (get_elem? (set s.views id (split_off e v) ++ loop_view p e v.split ∷ [])) (ap h.seat_at z ∙ here ∙ sym (length-set s.views id (split_off e v)))
                    ∙ last_at (set s.views id (split_off e v)) (loop_view p e v.split),
                count ∙ sym z,
              ))
              (λ o. let was = r.seated.present (omega arith) i low (λ l. let z = inside l in omega arith) in dite (ℕ_discrete (g.seat_at i) id)
              (λ q. let mine : was.0 ≡ v = some-injective _ _ (sym was.1 ∙ ap (get_elem? s.views) q ∙ at) in (
                split_off e v,
                front_at (set s.views id (split_off e v)) (loop_view p e v.split ∷ []) (h.seat_at i) (split_off e v)
                    (ap (get_elem? (set s.views id (split_off e v))) (else i o ∙ q) ∙ set_there s.views id (split_off e v) v at),
                ap (λ (x : View). x.number) (sym mine) ∙ was.2,
              ))
              (λ q. (
                was.0,
                front_at (set s.views id (split_off e v)) (loop_view p e v.split ∷ []) (h.seat_at i) was.0
                    (ap (get_elem? (set s.views id (split_off e v))) (else i o) ∙ set_else s.views id (g.seat_at i) (split_off e v) q ∙ was.1),
                was.2,
              )));
          unsplit = λ n l o q₀. r.seated.unsplit n l o (omega arith);
          still = still_later p g.ends g.split r.seated.still;
          table = λ _ _ _ _. table;
        };
        activations = record {
          later = r.activations.later;
          early = r.activations.early;
          within = r.activations.within;
          drive = r.activations.drive;
          followers = r.activations.followers;
          resting = r.activations.resting;
          laid = r.activations.laid;
        };
        events = let v = r.events in let t = v.tickets in record {
          count = v.count;
          checks = v.checks;
          lates = v.lates;
          checking = v.checking;
          fresh = v.fresh;
          tickets = record {
            drawn = t.drawn;
            stored = t.stored;
            unused = t.unused;
            starts_kept = t.starts_kept;
            finishes_kept = t.finishes_kept;
            told_kept = t.told_kept;
          };
          earlier = v.earlier;
          inside = v.inside;
        };
        buffers = dite (ℕ_discrete v.split 0)
            (λ z. buffers_named p (spans p g) g.ends g.expect e s.words
            (unsplit_free p r.seated.sound w g.ends (subst (AreStill p g.ends) (sym count ∙ z) r.seated.still)) r.buffers)
            (λ o. subst (λ x. Buffers p (spans p g) g.ends x s.words) (sym (keeps (omega arith) ∙ k.expects)) r.buffers);
      }

  -- the view that is kept of a board is split off
  pub keeps_view : (id : ℕ) (v : View) → v.number ≡ p.seats → HasEndedAll p v → Splits {S = S} (Holds p) id v (last_view p v) (kept_view p v)
  keeps_view id v is_driver ended s r at =
      let g = r.whole in let k = r.seated.knows id v at in let is = k.is_driver is_driver in
      let h : Whole = record g { split = suc p.seats } in record {
        whole = h;
        seated = record {
          sound = r.seated.sound;
          pooled = r.seated.pooled;
          room = r.seated.room;
          wide = r.seated.wide;
          long = r.seated.long;
          knows = λ j u q₀. ⊎_elim
              (λ (old : get_elem? (set s.views id (last_view p v)) j ≡ some u). ⊎_elim
              (λ (t : (j ≡ id) × (last_view p v ≡ u)). subst (λ (x : ℕ × View). Knows p h x.0 x.1) (λ i. (sym t.0 i, t.1 i)) record {
                kept = λ z. omega arith;
                here = k.here;
                is_driver = λ _. (is.0, refl, is.2);
                expects = k.expects;
                is_split = λ z. absurd (omega arith);
                owns = k.owns;
                ends = k.ends;
                owners = k.owners;
                reads = k.reads;
                looks = k.looks;
              })
              (λ (t : (j ≢ id) × (get_elem? s.views j ≡ some u)). let q = r.seated.knows j u t.1 in record {
                kept = λ z. omega arith;
                here = q.here;
                is_driver = λ z. absurd (t.0 (sym (q.here (omega arith)) ∙ ap g.seat_at (z ∙ sym is_driver) ∙ k.here (omega arith)));
                expects = q.expects;
                is_split = λ z. omega arith;
                owns = q.owns;
                ends = q.ends;
                owners = q.owners;
                reads = q.reads;
                looks = q.looks;
              })
              (at_set s.views id j (last_view p v) u old))
              (λ (t : (j ≡ length (set s.views id (last_view p v))) × (kept_view p v ≡ u)). subst (λ (x : ℕ × View). Knows p h x.0 x.1)
              (λ i. (sym t.0 i, t.1 i)) record {
                kept = λ z. omega arith;
                here = λ z. absurd (omega arith);
                is_driver = λ z. absurd (omega arith);
                expects = k.expects;
                is_split = λ z. absurd (omega arith);
                owns = λ n l o q₀. absurd (let z = r.seated.sound.seats_in n l o in omega arith);
                ends = kept_knows p r.seated.sound (wired_in p r.whole s.words s.views r.seated) g.ends;
                owners = λ z. absurd (omega arith);
                reads = λ z. absurd (omega arith);
                looks = λ z. absurd (omega arith);
              })
              (at_end (set s.views id (last_view p v)) (kept_view p v) u j q₀);
          most = omega arith;
          present = λ open_. absurd (omega arith);
          unsplit = λ n l o q₀. absurd (let z = r.seated.sound.seats_in n l o in omega arith);
          still = record {
            writes = λ l k at a b. absurd (omega arith);
            reads = λ l k at a b. absurd (omega arith);
            blocks = λ q n x at low a b. absurd (omega arith);
            pools = λ q x at a b. absurd (omega arith);
          };
          table = λ n h o _. dite (dec_le (p.seat_of n + 1) g.split) (λ z. r.seated.table n h o (omega arith))
              (λ z. absurd (let i = r.seated.unsplit n h o (omega arith) in let f : (g.nodes n).next ≡ first p = ap (λ (y : NodeView). y.next) i in
              let low = started (g.lead.cycle) (g.nodes n) (length (p.targets n)) (r.activations.followers n h o) in
              let c : g.lead.cycle ≡ v.lead.cycle = ap (λ (y : DriverView). y.cycle) (sym is.0) in let d = ended.1 in
              let some = r.seated.sound.some_cycles in omega arith));
        };
        activations = record {
          later = r.activations.later;
          early = r.activations.early;
          within = r.activations.within;
          drive = r.activations.drive;
          followers = r.activations.followers;
          resting = r.activations.resting;
          laid = r.activations.laid;
        };
        events = let v = r.events in let t = v.tickets in record {
          count = v.count;
          checks = v.checks;
          lates = v.lates;
          checking = v.checking;
          fresh = v.fresh;
          tickets = record {
            drawn = t.drawn;
            stored = t.stored;
            unused = t.unused;
            starts_kept = t.starts_kept;
            finishes_kept = t.finishes_kept;
            told_kept = t.told_kept;
          };
          earlier = v.earlier;
          inside = v.inside;
        };
        buffers = r.buffers;
      }
