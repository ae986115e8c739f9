-- What the boards and the loops of a plan are before the run: each loop has seats of all boards, and one of them has the drivers.
use Rattle.std.proofs.Common.{◌≡◌, ◌≢◌, ℕ, zero, suc, ◌+◌, ◌<◌, ◌≤◌, ◌==◌, Bool, true, false, cond, List, [], ◌∷◌, length, map, filter, get_or, refl, sym, ap, ◌∙◌, subst, arith, ⊎_elim}
use Rattle.std.proofs.Common.{Some, slice_get, inl, inr, length-append, ◌++◌}
use Rattle.std.specs.Prelude.{All, Contains}
use Rattle.std.specs.List.{enumerate_from, range_with_len}
use Rattle.std.proofs.lemmas.Bool.{eq-eqb, ne_eqb, eqb-true, cases_eq}
use Rattle.std.proofs.lemmas.List.{get_or-map, get_or-replicate, get_or_append_left, get_or_push, length-map, length-replicate}
use Rattle.std.proofs.lemmas.List.Elements.{filter_passes}
use Rattle.std.proofs.lemmas.List.Folds.{list_any_at}
use Rattle.std.proofs.lemmas.List.FromFn.{length-range_with_len, get_or-range_with_len, length-enumerate_from, get_or-enumerate_from}
use Rattle.std.proofs.lemmas.Option.{slice_get_within, get_or_from_slice_get}
use Rattle.pw_lists.specs.Listed.{Listed}
use Rattle.pw_graph.specs.declared.shape.ShapeNode.{ShapeNode}
use Rattle.pw_graph.specs.declared.plan.Epoch.{Epoch}
use Rattle.pw_graph.specs.declared.plan.Plan.{Plan}
use Rattle.pw_lists.specs.Limits.{dummy_node}
use Rattle.pw_graph.specs.PlanFresh.{IsEpoch}
use Rattle.pw_graph.specs.Pools.{IsPooledShape}
use Rattle.pw_graph.specs.SoundPlan.{IsSoundPlan, IsSoundEpoch}
use Rattle.pw_graph.specs.SoundShape.{IsSoundShape}
use Rattle.wav_files.specs.declared.wav.WavIn.{WavIn}
use Rattle.cycle_model.specs.Expected.{expected_samples, epoch_rows}
use Rattle.board_rule.specs.declared.board.Board.{Board}
use Rattle.board_rule.specs.declared.board_shape.BoardShape.{BoardShape}
use Rattle.board_rule.specs.declared.view.ReadView.{ReadView}
use Rattle.board_rule.specs.Known.{Known}
use Rattle.board_rule.specs.Layout.{BoardLayout, nodes, first, HasSeats}
use Rattle.board_rule.specs.OnBoard.{layout, table_of}
use Rattle.board_rule.specs.buffers.EndViews.{read_of}
use Rattle.board_rule.specs.View.{unread, driver_view}
use Rattle.board_rule.proofs.events.SoundLemmas.{sound_layout}
use Rattle.activation_words.proofs.MemberLemmas.{new_between}
use Rattle.io_areas.specs.PooledBoard.{IsPooledBoard}
use Rattle.node_progress.specs.declared.run_model.RunModel.{RunModel}
use Rattle.data_loop.specs.declared.loop_state.LoopState.{LoopState}
use Rattle.data_loop.specs.declared.epoch_state.EpochState.{EpochState}
use Rattle.data_loop.specs.Loops.{plan_of, IsBetweenEpochs}
use Rattle.data_loop.specs.LoopStart.{IsLoopOf}
use Rattle.data_loop.specs.LoopsOnBoards.{IsFirstSeat}
use Rattle.data_loop.proofs.LoopDriverLemmas.{expected_is}
use Rattle.graph_run.specs.Assignment.{drives_somewhere}
use Rattle.graph_run.specs.Boards.{driver_of, seat_of, seats_of, all_seats}
use Rattle.graph_run.specs.Loops.{AreLoopsOf}
use Rattle.graph_run.specs.LoopsOnPlan.{IsReady, HasDrivers, HasNoDriver, IsFirstLead, AreFirstLeads, AreReady}
use Rattle.graph_run.specs.Seating.{IsSeating, nodes_of_loop, seat_row, epoch_board}
use Rattle.graph_run.proofs.AssignmentLemmas.{has_seats}
use Rattle.graph_run.proofs.EpochLemmas.{there}

-- an element that passes is among those that do
zero_add : (n : ℕ) → 0 + n ≡ n
zero_add n = omega arith

later : (b : Bool) (y x : ℕ) (zs : List ℕ) → Contains zs x → Contains (cond b (y ∷ zs) zs) x
later true y x zs w = let l = w.1 in (suc w.0, omega (arith, l), w.2)
later false y x zs w = w

kept_at : (p : ℕ → Bool) (xs : List ℕ) (k x : ℕ) → k < length xs → get_or xs k x ≡ x → p x ≡ true → Contains (filter p xs) x
kept_at p [] k x l e t = absurd (omega (arith, l))
kept_at p (y ∷ ys) zero x l e t = subst (λ (b : Bool). Contains (cond b (y ∷ filter p ys) (filter p ys)) x) (sym (ap p e ∙ t)) (0, omega arith, e)
kept_at p (y ∷ ys) (suc k) x l e t = later (p y) y x (filter p ys) (kept_at p ys k x (omega (arith, l)) e t)

-- a loop by its nodes
module _ (f : ℕ → ℕ) (plan : Plan) (which n : ℕ) where
  pub has_loop : Contains (nodes_of_loop f plan which) n → f n ≡ which
  has_loop c = let p = λ (m : ℕ). f m == which in
      let xs : List ℕ = range_with_len 0 (length plan.nodes) in
      eqb-true (f n) which (ap p (sym c.2) ∙ filter_passes p xs c.0 n c.1)

  pub is_in : n < length plan.nodes → f n ≡ which → Contains (nodes_of_loop f plan which) n
  is_in low is = let all : ℕ = length plan.nodes in let at = get_or-range_with_len 0 all n n low in
      kept_at (λ m. f m == which) (range_with_len 0 all) n n (let long = length-range_with_len 0 all in omega (arith, low, long))
      (omega (arith, at)) (eq-eqb (f n) which is)

-- a driver drives somewhere
pub driver_drives : (plan : Plan) (k : ℕ) (e : Epoch) → IsEpoch plan k e → drives_somewhere plan e.shape.driver ≡ true
driver_drives plan k e at = let n : ℕ = e.shape.driver in
    list_any_at (λ (x : Epoch). x.shape.driver == n) plan.epochs k e (slice_get_within plan.epochs k e at)
    (ap (λ (x : Epoch). x.shape.driver == n) (get_or_from_slice_get plan.epochs k e e at) ∙ eq-eqb n n refl)

-- the lists of seats by board
module _ (plan : Plan) (waves : List WavIn) (loops : ℕ) (boards : List Board) where
  -- the list of a loop's seats has that of each board
  seat_at : (i k : ℕ) (b : Board) (d : Known) → slice_get boards k ≡ Some b
      → get_or (seats_of plan waves loops boards i) k d ≡ seat_of plan waves loops i (k, b)
  seat_at i k b d here = let low = slice_get_within boards k b here in let long = length-enumerate_from 0 boards in
      get_or-map (seat_of plan waves loops i) (enumerate_from 0 boards) k (k, b) d (omega (arith, low, long))
      ∙ (ap (seat_of plan waves loops i) (get_or-enumerate_from 0 boards k (k, b) low)
      ∙ (λ j. seat_of plan waves loops i (zero_add k j, get_or_from_slice_get boards k b b here j)))

  pub driver_at : (k : ℕ) (b : Board) (d : Known) → slice_get boards k ≡ Some b
      → get_or (map (driver_of plan waves loops) (enumerate_from 0 boards)) k d ≡ driver_of plan waves loops (k, b)
  driver_at k b d here = let low = slice_get_within boards k b here in let long = length-enumerate_from 0 boards in
      get_or-map (driver_of plan waves loops) (enumerate_from 0 boards) k (k, b) d (omega (arith, low, long))
      ∙ (ap (driver_of plan waves loops) (get_or-enumerate_from 0 boards k (k, b) low)
      ∙ (λ j. driver_of plan waves loops (zero_add k j, get_or_from_slice_get boards k b b here j)))

-- there is a board an epoch
pub as_many : (plan : Plan) (f : ℕ → ℕ) (loops : ℕ) (boards : List Board)
    → map (λ (b : Board). b.board_shape) boards ≡ map (epoch_board f loops) plan.epochs → length boards ≡ length plan.epochs
as_many plan f loops boards shapes = sym (length-map boards (λ (b : Board). b.board_shape)) ∙ (ap (λ (l : List BoardShape). length l) shapes
    ∙ length-map plan.epochs (epoch_board f loops))

module _ (plan : Plan) (waves : List WavIn) (f : ℕ → ℕ) (loops : ℕ) (sound : IsSoundPlan plan) (seating : IsSeating plan f loops) (boards : List Board)
    (shapes : map (λ (b : Board). b.board_shape) boards ≡ map (epoch_board f loops) plan.epochs) where
  boards_long : length boards ≡ length plan.epochs
  boards_long = as_many plan f loops boards shapes

  module _ (k : ℕ) (b : Board) (e : Epoch) (here : slice_get boards k ≡ Some b) (at : IsEpoch plan k e) where
    abbrev p : BoardLayout
    p = layout b

    pub board_is : b.board_shape ≡ epoch_board f loops e
    board_is = ap (λ (x : Board). x.board_shape) (sym (get_or_from_slice_get boards k b b here))
        ∙ (sym (get_or-map (λ (x : Board). x.board_shape) boards k b b.board_shape (slice_get_within boards k b here))
        ∙ (ap (λ (l : List BoardShape). get_or l k b.board_shape) shapes
        ∙ (get_or-map (epoch_board f loops) plan.epochs k e b.board_shape (slice_get_within plan.epochs k e at)
        ∙ ap (epoch_board f loops) (get_or_from_slice_get plan.epochs k e e at))))

    sound_epoch : IsSoundEpoch plan e
    sound_epoch = subst (IsSoundEpoch plan) (get_or_from_slice_get plan.epochs k e e at) (sound.epochs k e (slice_get_within plan.epochs k e at))

    pub pooled : IsPooledBoard p
    pooled = record {
      sound = sound_layout b.board_shape (subst (λ (x : BoardShape). IsSoundShape x.shape) (sym board_is) sound_epoch.shape.sound)
          (subst HasSeats (sym board_is) (has_seats f loops seating.most e));
      pooled = subst (λ (x : BoardShape). IsPooledShape x.shape) (sym board_is) sound_epoch.shape;
    }

    -- the seat of a node is that of its loop
    pub seat_is : (n : ℕ) → p.index n < nodes p → p.seat_of (p.index n) ≡ f n
    seat_is n low = let none : ShapeNode = record { node = 0; required = 0; targets = [] } in
        ap (λ (x : BoardShape). get_or x.seat_of (p.index n) 0) board_is
        ∙ (ap (λ (x : BoardShape). get_or (seat_row f x.shape) (p.index n) 0) (sym board_is)
        ∙ (get_or-map (λ (x : ShapeNode). f x.node) b.board_shape.shape.nodes (p.index n) none 0 low
        ∙ ap f (sym (get_or-map (λ (x : ShapeNode). x.node) b.board_shape.shape.nodes (p.index n) none 0 low)
        ∙ pooled.sound.known n low)))

    -- the driver's seat as the board gave it
    pub leads_first : (run_model : RunModel) → run_model.plan.value ≡ plan → run_model.waves.value ≡ waves
        → IsFirstLead run_model k b (driver_of plan waves loops (k, b))
    leads_first run_model plan_is waves_are = record {
      leads = record {
        epoch = e;
        at = subst (λ (x : Plan). IsEpoch x k e) (sym plan_is) at;
        shape = ap (λ (x : BoardShape). x.shape) board_is;
        pooled = pooled;
        table = refl;
        expect = ap (λ (z : Bool). cond z [] (expected_samples plan waves k)) (ne_eqb (loops + 1) 0 (λ (is : loops + 1 ≡ 0). omega (arith, is)))
            ∙ expected_is plan waves k e at ∙ (λ i. epoch_rows (sym plan_is i) (sym waves_are i) e);
        even = λ l low is. let r : ReadView = unread (first p) in
            let one : read_of (driver_view p (expected_samples plan waves k) (loops + 1)) l ≡ r =
            get_or-replicate (length p.shape.links) l r (unread 0) low in
            let long = length-replicate (length p.shape.links) r in
            let none : ℕ = 0 in let words = length-replicate (length p.shape.links) none in record {
              there = omega (arith, low, long);
              words = omega (arith, low, words);
              loaded = ap (λ (x : ReadView). x.loaded) one;
              lowered = ap (λ (x : ReadView). x.lowered) one;
              stored = ap (λ (x : ReadView). x.stored) one;
            };
      };
      between = new_between p (expected_samples plan waves k) (loops + 1) pooled.sound;
      none_led = refl;
    }

  -- all drivers' seats
  pub first_leads : (drivers : List Known) → drivers ≡ map (driver_of plan waves loops) (enumerate_from 0 boards)
      → (run_model : RunModel) → run_model.plan.value ≡ plan → run_model.waves.value ≡ waves → AreFirstLeads run_model boards drivers
  first_leads drivers are run_model plan_is waves_are = record {
    count = ap (λ (l : List Known). length l) are ∙ (length-map (enumerate_from 0 boards) (driver_of plan waves loops) ∙ length-enumerate_from 0 boards);
    each = λ k b d here. let low = slice_get_within boards k b here in let e = there plan.epochs k (omega (arith, low, boards_long)) in
        subst (IsFirstLead run_model k b) (sym (ap (λ (l : List Known). get_or l k d) are ∙ driver_at plan waves loops boards k b d here))
        (leads_first k b e.0 here e.1 run_model plan_is waves_are);
  }

  -- one of the loops
  module _ (i : ℕ) (s : LoopState) (is : IsLoopOf plan waves (nodes_of_loop f plan i) (seats_of plan waves loops boards i) s)
      (bt : IsBetweenEpochs s) where
    epochs_are : (k : ℕ) (e : Epoch) → IsEpoch (plan_of s) k e → IsEpoch plan k e
    epochs_are k e at = subst (λ (x : Plan). IsEpoch x k e) is.plan_is at

    pub loop_ready : i ≤ loops → IsReady boards s
    loop_ready most = record {
      between = bt;
      none_done = is.first;
      boards_are = record {
        count = boards_long ∙ ap (λ (x : Plan). length x.epochs) (sym is.plan_is);
        shape = λ k e b at here. ap (λ (x : BoardShape). x.shape) (board_is k b e here (epochs_are k e at));
        seat = λ k b g here epoch_state. let low = slice_get_within boards k b here in let e = there plan.epochs k (omega (arith, low, boards_long)) in
            subst (λ (x : Plan × List WavIn × List ℕ). IsFirstSeat x.0 x.1 k x.2 (layout b) (table_of b) g.seat)
            (λ j. (sym is.plan_is j, sym is.waves_are j, sym is.nodes_are j)) record {
              plain = pooled k b e.0 here e.1;
              number = i;
              one = let seats = ap (λ (x : BoardShape). x.seats) (board_is k b e.0 here e.1) in omega (arith, most, seats);
              is = ap (λ (x : EpochState). x.seat) (sym (get_or_from_slice_get s.epoch_states.items k g g epoch_state))
                  ∙ (sym (get_or-map (λ (x : EpochState). x.seat) s.epoch_states.items k g g.seat (slice_get_within s.epoch_states.items k g epoch_state))
                  ∙ (ap (λ (l : List Known). get_or l k g.seat) is.seats_are ∙ seat_at plan waves loops boards i k b g.seat here));
              owned = λ n own inside apart. seat_is k b e.0 here e.1 n inside ∙ has_loop f plan i n own;
            };
      };
    }

    pub no_driver : i < loops → HasNoDriver s
    no_driver less k e at own = let one = has_loop f plan i e.shape.driver (subst (λ (l : List ℕ). Contains l e.shape.driver) is.nodes_are own) in
        let drives = seating.drivers e.shape.driver (driver_drives plan k e (epochs_are k e at)) in absurd (omega (arith, one, drives, less))

    pub has_drivers : i ≡ loops → HasDrivers s
    has_drivers last k e at = ⊎_elim
        (λ (dummy : e.shape.driver ≡ dummy_node). inl dummy)
        (λ (node : e.shape.driver ≢ dummy_node).
        let plan_at = epochs_are k e at in
        let ok : IsSoundEpoch plan e = subst (IsSoundEpoch plan) (get_or_from_slice_get plan.epochs k e e plan_at)
        (sound.epochs k e (slice_get_within plan.epochs k e plan_at)) in
        inr (subst (λ (l : List ℕ). Contains l e.shape.driver) (sym is.nodes_are)
        (is_in f plan i e.shape.driver (ok.places.places e.shape.driver ok.shape.sound.nodes.driver node)
        (seating.drivers e.shape.driver (driver_drives plan k e plan_at) ∙ sym last))))
        (cases_eq e.shape.driver dummy_node)

-- all loops of a plan
module _ (plan : Plan) (waves : List WavIn) (f : ℕ → ℕ) (loops : ℕ) (sound : IsSoundPlan plan) (seating : IsSeating plan f loops) (boards : List Board)
    (shapes : map (λ (b : Board). b.board_shape) boards ≡ map (epoch_board f loops) plan.epochs) (rows : List (List Known))
    (seats : rows ≡ all_seats plan waves loops boards) (states : List LoopState) (are : AreLoopsOf plan waves f rows states)
    (between : All IsBetweenEpochs states) where
  pub how_many : length states ≡ loops + 1
  how_many = are.count ∙ (ap (λ (l : List (List Known)). length l) seats
      ∙ (length-map (range_with_len 0 (loops + 1)) (seats_of plan waves loops boards) ∙ length-range_with_len 0 (loops + 1)))

  one_is : (i : ℕ) (d : LoopState) → i ≤ loops
      → IsLoopOf plan waves (nodes_of_loop f plan i) (seats_of plan waves loops boards i) (get_or states i d)
  one_is i d most = let n = how_many in let m = are.count in let in_range : i < loops + 1 = omega (arith, most) in
      let long = length-range_with_len 0 (loops + 1) in
      let row : get_or rows i [] ≡ seats_of plan waves loops boards i = ap (λ (l : List (List Known)). get_or l i []) seats
      ∙ (get_or-map (seats_of plan waves loops boards) (range_with_len 0 (loops + 1)) i 0 [] (omega (arith, in_range, long))
      ∙ ap (seats_of plan waves loops boards) (get_or-range_with_len 0 (loops + 1) i 0 in_range ∙ zero_add i)) in
      subst (λ (l : List Known). IsLoopOf plan waves (nodes_of_loop f plan i) l (get_or states i d)) row
      (are.each i d (omega (arith, n, m, most)))

  pub each_ready : (i : ℕ) (d : LoopState) → i ≤ loops → IsReady boards (get_or states i d)
  each_ready i d most = let n = how_many in
      loop_ready plan waves f loops sound seating boards shapes i (get_or states i d) (one_is i d most) (between i d (omega (arith, n, most))) most

  pub each_without : (i : ℕ) (d : LoopState) → i < loops → HasNoDriver (get_or states i d)
  each_without i d less = let n = how_many in
      no_driver plan waves f loops sound seating boards shapes i (get_or states i d) (one_is i d (omega (arith, less))) (between i d (omega (arith, n, less))) less

  pub last_has : (d : LoopState) → HasDrivers (get_or states loops d)
  last_has d = let n = how_many in
      has_drivers plan waves f loops sound seating boards shapes loops (get_or states loops d) (one_is loops d (omega arith)) (between loops d (omega (arith, n))) refl

  -- what the made loops are
  pub all_ready : AreReady boards loops states
  all_ready = record {
    count = how_many;
    each = λ i d low. let n = how_many in each_ready i d (omega (arith, low, n));
    without = each_without;
    own = last_has;
  }

-- the seats by loop: a list a loop, with a seat an epoch
module _ (plan : Plan) (waves : List WavIn) (loops : ℕ) (boards : List Board) (rows : List (Listed Known))
    (seats : map (λ r. r.list) rows ≡ all_seats plan waves loops boards) where
  pub rows_count : length rows ≡ loops + 1
  rows_count = sym (length-map rows (λ (r : Listed Known). r.list)) ∙ (ap (λ (l : List (List Known)). length l) seats
      ∙ (length-map (range_with_len 0 (loops + 1)) (seats_of plan waves loops boards) ∙ length-range_with_len 0 (loops + 1)))

  pub rows_long : length boards ≡ length plan.epochs → All (λ r. length r.list ≡ length plan.epochs) rows
  rows_long same i d low = let many = rows_count in let long = length-range_with_len 0 (loops + 1) in
      ap (λ (l : List Known). length l) (sym (get_or-map (λ (r : Listed Known). r.list) rows i d [] low)
      ∙ (ap (λ (l : List (List Known)). get_or l i []) seats
      ∙ get_or-map (seats_of plan waves loops boards) (range_with_len 0 (loops + 1)) i 0 [] (omega (arith, low, many, long))))
      ∙ (length-map (enumerate_from 0 boards) (seat_of plan waves loops (get_or (range_with_len 0 (loops + 1)) i 0))
      ∙ (length-enumerate_from 0 boards ∙ same))

-- the driver's own loop taken off the others
module _ (boards : List Board) (loops : ℕ) (xs : List LoopState) (s : LoopState) (ready : AreReady boards loops (xs ++ s ∷ [])) where
  pub short : length xs ≡ loops
  short = let n = ready.count in let long = length-append xs (s ∷ []) in omega (arith, n, long)

  last_is : get_or (xs ++ s ∷ []) loops s ≡ s
  last_is = get_or_push xs s s loops short

  low : loops < length (xs ++ s ∷ [])
  low = let n = ready.count in omega (arith, n)

  pub own_ready : IsReady boards s
  own_ready = subst (IsReady boards) last_is (ready.each loops s low)

  pub own_has : HasDrivers s
  own_has = subst HasDrivers last_is (ready.own s)

  pub others_ready : All (IsReady boards) xs
  others_ready i d inside = let long = length-append xs (s ∷ []) in
      subst (IsReady boards) (get_or_append_left xs (s ∷ []) d i inside) (ready.each i d (omega (arith, inside, long)))

  pub others_none : All HasNoDriver xs
  others_none i d inside = let n = short in
      subst HasNoDriver (get_or_append_left xs (s ∷ []) d i inside) (ready.without i d (omega (arith, inside, n)))

  pub own_is : (plan : Plan) (waves : List WavIn) (f : ℕ → ℕ) (rows : List (List Known)) → AreLoopsOf plan waves f rows (xs ++ s ∷ [])
      → IsLoopOf plan waves (nodes_of_loop f plan loops) (get_or rows loops []) s
  own_is plan waves f rows are = let m = are.count in
      subst (IsLoopOf plan waves (nodes_of_loop f plan loops) (get_or rows loops [])) last_is (are.each loops s (omega (arith, m, low)))
