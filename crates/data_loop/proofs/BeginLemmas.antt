-- A loop begins an epoch: on the epoch's board all its followers rest.
use Rattle.std.proofs.Common.{◌≡◌, ◌≢◌, ℕ, ◌+◌, ◌<◌, ◌≤◌, ◌==◌, Bool, true, false, true≢false, not, cond, List, length, map, get_or, refl, sym, ap, ◌∙◌, subst, arith}
use Rattle.std.proofs.Common.{option_map, unwrap_or}
use Rattle.std.specs.Prelude.{All, Contains}
use Rattle.std.proofs.lemmas.Bool.{and_parts, and_from, eq-eqb, or_left}
use Rattle.std.proofs.lemmas.List.{get_or-replicate, get_or-map, get_or_default, length-replicate, length-map}
use Rattle.atomic_table.specs.Seated.{TableId}
use Rattle.pw_graph.specs.declared.plan.Epoch.{Epoch}
use Rattle.pw_graph.specs.declared.plan.Plan.{Plan}
use Rattle.pw_graph.specs.declared.shape.Shape.{Shape}
use Rattle.pw_graph.specs.Dependencies.{nodes_of}
use Rattle.pw_graph.specs.PlanFresh.{IsEpoch}
use Rattle.pw_graph.specs.Pools.{pools_of}
use Rattle.cycle_model.specs.Epochs.{all_cycles}
use Rattle.cycle_model.specs.Expected.{expected_samples}
use Rattle.cycle_model.specs.Mixing.{takes_part}
use Rattle.cycle_model.proofs.SoundFormLemmas.{takes_in}
use Rattle.board_rule.specs.declared.view.NodeView.{NodeView}
use Rattle.board_rule.specs.declared.view.WriteView.{WriteView}
use Rattle.board_rule.specs.declared.view.ReadView.{ReadView}
use Rattle.board_rule.specs.declared.view.View.{View}
use Rattle.board_rule.specs.Known.{Known}
use Rattle.board_rule.specs.Layout.{BoardLayout, nodes, first}
use Rattle.board_rule.specs.View.{Samples, idle, node_of, unwritten, unread, first_write, loop_view}
use Rattle.board_rule.specs.buffers.Spans.{block_at}
use Rattle.board_rule.specs.buffers.EndViews.{no_link, pool_at, filler_of, read_of, write_of}
use Rattle.io_areas.specs.Queue.{Queue}
use Rattle.activation_words.proofs.MemberLemmas.{new_rests}
use Rattle.io_areas.specs.FreeBlocks.{FreeBlocks, free_at_start}
use Rattle.io_areas.proofs.StartLemmas.{room_there, begins_free}
use Rattle.node_progress.specs.Standing.{works_in}
use Rattle.node_progress.specs.NodeStates.{IsNodeState, first_of}
use Rattle.data_loop.specs.declared.own_pools.OwnPools.{OwnPools}
use Rattle.data_loop.specs.OwnPools.{is_among, own_pools, own_places, queue_of}
use Rattle.data_loop.specs.declared.loop_state.LoopState.{LoopState}
use Rattle.data_loop.specs.declared.member.Member.{Member}
use Rattle.data_loop.specs.declared.epoch_state.EpochState.{EpochState}
use Rattle.data_loop.specs.turns.Turning.{IsEquipped, AreEven, IsAtRest}
use Rattle.data_loop.specs.Progress.{IsProgressOf}
use Rattle.data_loop.specs.Members.{follows, leads}
use Rattle.data_loop.specs.EpochStateParts.{IsEpochStateOf}
use Rattle.data_loop.specs.EpochStates.{StandsAt, AreApart}
use Rattle.data_loop.specs.Loops.{plan_of, HasEpochState, IsBetweenEpochs, node_at}
use Rattle.data_loop.specs.LoopsOnBoards.{IsFirstSeat, IsOnBoard}
use Rattle.data_loop.proofs.ProgressLemmas.{progress_first}
use Rattle.data_loop.proofs.MemberLemmas.{ComesFrom, comes_from, all_apart}
use Rattle.data_loop.proofs.OwnPoolsLemmas.{has_places, shape_at, one_place, queue_at}
use Rattle.data_loop.proofs.PlayLemmas.{any_from}
use Rattle.data_loop.proofs.PoolCountLemmas.{pools_fit}
use Rattle.data_loop.proofs.turns.EndsLemmas.{of_node}
use Rattle.data_loop.proofs.LoopDriverLemmas.{expected_is}

-- a seat of a loop at the start
module _ (p : BoardLayout) (fit : All (λ x. (1 ≤ x.blocks) × (x.blocks ≤ 8)) (pools_of p.shape)) (e : Samples) (k : ℕ) where
  abbrev v : View
  v = loop_view p e k

  have : All (λ x. 1 ≤ x.blocks) (pools_of p.shape)
  have i d lt = (fit i d lt).0

  pub has_room : (q : ℕ) → q < length (pools_of p.shape) → block_at p q (pool_at p q).blocks ≤ length v.blocks
  has_room q low = room_there p have e k q low

  pub next_is : (m : ℕ) → m < nodes p → (node_of v m).next ≡ first p
  next_is m low = ap (λ (x : NodeView). x.next) (get_or-replicate (nodes p) m (idle (first p)) (idle 0) low)

  pub begins_even : (own : OwnPools) (m : ℕ) → m < nodes p
      → ((q : ℕ) → q < length (pools_of p.shape) → filler_of p q ≡ m → queue_of own q ≡ free_at_start p.shape (pool_at p q))
      → AreEven p v own m (node_of v m).next
  begins_even own m inside free = subst (AreEven p v own m) (sym (next_is m inside)) record {
    reads = λ l low _. let at : read_of v l ≡ unread (first p) =
        get_or-replicate (length p.shape.links) l (unread (first p)) (unread 0) low in
        let long = length-replicate (length p.shape.links) (unread (first p)) in
        let words : length v.words_read ≡ length p.shape.links = length-replicate (length p.shape.links) 0 in record {
          there = omega arith;
          words = omega arith;
          loaded = ap (λ (r : ReadView). r.loaded) at;
          lowered = ap (λ (r : ReadView). r.lowered) at;
          stored = ap (λ (r : ReadView). r.stored) at;
        };
    writes = λ l low _. let at : write_of v l ≡ first_write (first p) (get_or p.shape.links l no_link) =
        get_or-map (first_write (first p)) p.shape.links l no_link (unwritten 0) low in
        let long = length-map p.shape.links (first_write (first p)) in
        record { there = omega arith; loaded = ap (λ (w : WriteView). w.loaded) at; stored = ap (λ (w : WriteView). w.stored) at };
    stocks = λ q low is. subst (FreeBlocks p v q (first p)) (sym (free q low is)) (begins_free p have e k q low);
  }

-- a follower works
follower_works : (e : Epoch) (n : ℕ) → follows e n ≡ true → works_in e n ≡ true
follower_works e n role = let parts = and_parts (not (e.shape.driver == n)) (takes_part e n) role in
    and_from (takes_part e n) _ parts.1 (or_left (not (e.shape.driver == n)) _ parts.0)

module _ (s : LoopState) (bt : IsBetweenEpochs s) (p : BoardLayout) (t : TableId) (e : Epoch) (at : IsEpoch (plan_of s) s.epoch e)
    (shape : p.shape ≡ e.shape) (g : EpochState) (here : HasEpochState s s.epoch g)
    (seat : IsFirstSeat (plan_of s) s.run_model.waves.value s.epoch s.nodes p t g.seat) where
  abbrev plan : Plan
  plan = plan_of s

  abbrev expect : Samples
  expect = expected_samples plan s.run_model.waves.value s.epoch

  abbrev u : View
  u = loop_view p expect seat.number

  parts : IsEpochStateOf plan s.nodes s.epoch e g
  parts = bt.loop.parts s.epoch e g at here

  knows_is : g.seat.knows ≡ u
  knows_is = ap (λ (k : Known). k.knows) seat.is

  places_are : g.own.places ≡ own_places s.nodes (pools_of p.shape)
  places_are = parts.places ∙ ap (λ (x : Shape). own_places s.nodes (pools_of x)) (sym shape)

  shapes_are : g.own.shapes ≡ own_pools s.nodes (pools_of p.shape)
  shapes_are = parts.shapes ∙ ap (λ (x : Shape). own_pools s.nodes (pools_of x)) (sym shape)

  free_is : g.own.free.items ≡ map (free_at_start p.shape) g.own.shapes
  free_is = (bt.unbegun s.epoch e g (omega arith) at here).0 ∙ ap (λ (x : Shape). map (free_at_start x) g.own.shapes) (sym shape)

  fits : All (λ x. (1 ≤ x.blocks) × (x.blocks ≤ 8)) (pools_of p.shape)
  fits = pools_fit p.shape seat.plain.pooled

  first_is : first_of plan s.epoch ≡ e.shape.first
  first_is = ap (λ o. unwrap_or (option_map (λ (x : Epoch). x.shape.first) o) (all_cycles plan)) at

  from : (m : Member) → Contains g.members m → ComesFrom plan s.nodes e false m
  from m c = comes_from plan s.nodes e false m (subst (λ (ms : List Member). Contains ms m) parts.members c)

  -- the index of a member, which the seat has
  there : (m : Member) → ComesFrom plan s.nodes e false m → p.index m.node < nodes p
  there m f = seat.plain.sound.named m.node (subst (λ (x : Shape). Contains (nodes_of x) m.node) (sym shape)
      (takes_in e m.node (and_parts (not (e.shape.driver == m.node)) (takes_part e m.node) f.role).1))

  not_driver : (m : Member) → ComesFrom plan s.nodes e false m → p.index m.node ≢ p.driver
  not_driver m f is = let sound = seat.plain.sound in
      let same : e.shape.driver ≡ m.node = ap (λ (x : Shape). x.driver) (sym shape) ∙ sym sound.names_driver ∙ ap p.number (sym is)
      ∙ sound.known m.node (there m f) in
      true≢false (sym (and_parts (not (e.shape.driver == m.node)) (takes_part e m.node) f.role).0 ∙ ap not (eq-eqb e.shape.driver m.node same))

  -- the pools that a member fills are the loop's own
  own_free : (m : Member) → ComesFrom plan s.nodes e false m → (q : ℕ) → q < length (pools_of p.shape) → filler_of p q ≡ p.index m.node
      → queue_of g.own q ≡ free_at_start p.shape (pool_at p q)
  own_free m f q low is = queue_at s.nodes (pools_of p.shape) g.own places_are shapes_are p.shape free_is q low
      (ap (is_among s.nodes) (of_node p seat.plain m.node (there m f) q low is)
      ∙ any_from (λ n. n == m.node) s.nodes m.node (m.at, f.low, get_or_default s.nodes m.at m.node 0 f.low ∙ f.node) (eq-eqb m.node m.node refl))

  rests : (m : Member) → Contains g.members m → IsAtRest p g.seat.knows g.own (p.index m.node)
  rests m c = let f = from m c in let inside = there m f in let apart = not_driver m f in
      let own = seat.owned m.node (m.at, f.low, get_or_default s.nodes m.at m.node 0 f.low ∙ f.node) inside apart in
      subst (λ (x : View). IsAtRest p x g.own (p.index m.node)) (sym knows_is) (
        new_rests p expect seat.number (p.index m.node) inside apart own seat.one,
        begins_even p fits expect seat.number g.own (p.index m.node) inside (own_free m f),
      )

  stands : (m : Member) → Contains g.members m → StandsAt s.run_model s.epoch p g.seat.knows s.states.items m
  stands m c = let f = from m c in let inside = there m f in let low = f.low in let long = bt.loop.states in
      let next : (node_of g.seat.knows (p.index m.node)).next ≡ first p = ap (λ (x : View). (node_of x (p.index m.node)).next) knows_is
      ∙ next_is p fits expect seat.number (p.index m.node) inside in
      let cycle : first_of plan s.epoch ≡ (node_of g.seat.knows (p.index m.node)).next = first_is ∙ ap (λ (x : Shape). x.first) (sym shape) ∙ sym next in (
        omega (arith, low, long),
        λ d. subst (λ (x : ℕ × ℕ). IsNodeState s.run_model s.epoch x.0 x.1 (get_or s.states.items m.at d)) (λ i. (cycle i, f.node i)) (bt.states m.at low d),
      )

  -- THE BEGINNING of an epoch
  pub begins : IsOnBoard p t s
  begins = record {
    loop = bt.loop;
    epoch_state = g;
    here = here;
    stands = record {
      sound = bt.loop.sound;
      waves = bt.loop.waves;
      epoch = e;
      at = at;
      shape = shape;
      table = ap (λ (k : Known). k.table) seat.is;
      expect = ap (λ (x : View). x.expect) knows_is ∙ expected_is plan s.run_model.waves.value s.epoch e at;
      equipped = subst (λ (x : View). IsEquipped p x g.own) (sym knows_is) record {
        plain = seat.plain;
        places = has_places s.nodes (pools_of p.shape) g.own places_are shapes_are;
        lists = ap (λ (l : List Queue). length l) free_is ∙ length-map g.own.shapes (free_at_start p.shape);
        once = one_place s.nodes (pools_of p.shape) g.own places_are shapes_are;
        shapes_are = shape_at s.nodes (pools_of p.shape) g.own places_are shapes_are;
        blocks = has_room p fits expect seat.number;
      };
      members = λ k d low. let m : Member = get_or g.members k d in let f = from m (k, low, get_or_default g.members k m d low) in record {
        place = subst (λ n. n < length plan.nodes) f.node (bt.loop.places m.at 0 f.low);
        works = follower_works e m.node f.role;
        is = f.is;
      };
      apart = subst (λ (ms : List Member). (a b : ℕ) (d : Member) → a < b → b < length ms → AreApart (get_or ms a d) (get_or ms b d)) (sym parts.members)
          (all_apart plan s.nodes e false bt.loop.ascend);
      rests = λ k d low. rests (get_or g.members k d) (k, low, get_or_default g.members k (get_or g.members k d) d low);
      each = λ k d low. stands (get_or g.members k d) (k, low, get_or_default g.members k (get_or g.members k d) d low);
      room = (bt.loop.room s.epoch g here).0;
      progress = subst (IsProgressOf p g.seat.knows g.members) (sym (bt.unbegun s.epoch e g (omega arith) at here).1)
          (progress_first p g.seat.knows g.members (λ k d low. let m : Member = get_or g.members k d in
          ap (λ (x : View). (node_of x (p.index m.node)).next) knows_is
          ∙ next_is p fits expect seat.number (p.index m.node) (there m (from m (k, low, get_or_default g.members k m d low)))));
    };
    later = λ i x y past at here. bt.unbegun i x y (omega (arith, past)) at here;
    led = let none = bt.none_led in omega (arith, none);
    others = λ j less none d.
        let still : e.shape.first + cond (leads e (node_at s j)) s.led 0 ≡ first_of plan s.epoch = ap (λ n. e.shape.first + cond (leads e (node_at s j)) n 0) bt.none_led
        ∙ zero_both (leads e (node_at s j)) e.shape.first ∙ sym first_is in
        subst (λ c. IsNodeState s.run_model s.epoch c (node_at s j) (get_or s.states.items j d)) (sym still) (bt.states j less d);
  }
    where
      zero_both : (b : Bool) (n : ℕ) → n + cond b 0 0 ≡ n
      zero_both true n = omega arith
      zero_both false n = omega arith
