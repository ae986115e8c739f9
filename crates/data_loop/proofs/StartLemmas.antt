-- A loop before the first epoch.
use Rattle.std.proofs.Common.{◌≡◌, ℕ, zero, suc, ◌+◌, ◌-◌, ◌<◌, ◌≤◌, List, [], ◌∷◌, ◌++◌, length, map, get_or, refl, sym, ◌∙◌, subst, arith, ⊎_elim, length-append}
use Rattle.std.proofs.Common.{Some, slice_get, option_map, unwrap_or, sum_by}
use Rattle.std.specs.Prelude.{All, AllPairs, Vec}
use Rattle.std.specs.Vec.{vec_capacity}
use Rattle.std.proofs.lemmas.Option.{get_or_from_slice_get, slice_get_within}
use Rattle.pw_graph.specs.declared.plan.Epoch.{Epoch}
use Rattle.pw_graph.specs.PlanFresh.{IsEpoch}
use Rattle.pw_graph.specs.SoundPlan.{IsSoundPlan, FollowFrom}
use Rattle.cycle_model.specs.WavesFit.{WavesFit}
use Rattle.std.proofs.lemmas.Bool.{cases_lt}
use Rattle.std.proofs.lemmas.List.{get_or_append_left, get_or_push, get_or-map, length-map, same_lists, nil_from_length}
use Rattle.pw_graph.specs.declared.plan.Plan.{Plan}
use Rattle.board_rule.specs.Known.{Known}
use Rattle.node_state.specs.declared.node_state.NodeState.{NodeState}
use Rattle.node_progress.specs.declared.run_model.RunModel.{RunModel}
use Rattle.node_progress.specs.NodeStates.{IsNodeState, first_of}
use Rattle.data_loop.specs.LoopStart.{AreFirstStates}
use Rattle.data_loop.specs.declared.epoch_state.EpochState.{EpochState}
use Rattle.data_loop.specs.declared.rows.Rows.{Rows}
use Rattle.data_loop.specs.Rooms.{AreAsLong}
use Rattle.data_loop.specs.EpochStateParts.{IsFirstEpochState, AreFirstEpochStates, IsEpochStateOf, IsUnbegun, IsEpochStateWithin}
use Rattle.data_loop.specs.Tables.{AreTables}
use Rattle.data_loop.specs.Loops.{IsBetweenEpochs}
use Rattle.data_loop.proofs.RoomLemmas.{epoch_state_fits}

-- one epoch state more
pub one_epoch_state : (plan : Plan) (nodes : List ℕ) (seats : List Known) (epoch_states : List EpochState) (seat : Known) (epoch_state : EpochState)
    → AreFirstEpochStates plan nodes seats epoch_states → IsFirstEpochState plan nodes (length seats) seat epoch_state
    → AreFirstEpochStates plan nodes (seats ++ seat ∷ []) (epoch_states ++ epoch_state ∷ [])
one_epoch_state plan nodes seats epoch_states seat epoch_state are is =
    let a = length-append seats (seat ∷ []) in let b = length-append epoch_states (epoch_state ∷ []) in let n = are.count in record {
      count = omega (arith, a, b, n);
      each = λ k d e low. ⊎_elim
          (λ (early : k < length seats).
          subst (λ (x : Known × EpochState). IsFirstEpochState plan nodes k x.0 x.1)
          (λ i. (sym (get_or_append_left seats (seat ∷ []) d k early) i, sym (get_or_append_left epoch_states (epoch_state ∷ []) e k (omega (arith, early, n))) i))
          (are.each k d e early))
          (λ (last : length seats ≤ k). let at : k ≡ length seats = omega (arith, last, low, a) in
          subst (λ (x : Known × EpochState). IsFirstEpochState plan nodes k x.0 x.1)
          (λ i. (
            sym (get_or_push seats seat d k (sym at)) i,
            sym (get_or_push epoch_states epoch_state e k (n ∙ sym at)) i,
          ))
          (subst (λ j. IsFirstEpochState plan nodes j seat epoch_state) (sym at) is))
          (cases_lt k (length seats));
    }

-- one state more
pub one_state : (run_model : RunModel) (nodes : List ℕ) (states : List NodeState) (node : ℕ) (state : NodeState)
    → AreFirstStates run_model nodes states → IsNodeState run_model 0 0 node state
    → AreFirstStates run_model (nodes ++ node ∷ []) (states ++ state ∷ [])
one_state run_model nodes states node state are is =
    let a = length-append nodes (node ∷ []) in let b = length-append states (state ∷ []) in let n = are.count in record {
      count = omega (arith, a, b, n);
      each = λ j d low. ⊎_elim
          (λ (early : j < length nodes).
          subst (λ (x : ℕ × NodeState). IsNodeState run_model 0 0 x.0 x.1)
          (λ i. (sym (get_or_append_left nodes (node ∷ []) 0 j early) i, sym (get_or_append_left states (state ∷ []) d j (omega (arith, early, n))) i))
          (are.each j d early))
          (λ (last : length nodes ≤ j). let at : j ≡ length nodes = omega (arith, last, low, a) in
          subst (λ (x : ℕ × NodeState). IsNodeState run_model 0 0 x.0 x.1)
          (λ i. (sym (get_or_push nodes node 0 j (sym at)) i, sym (get_or_push states state d j (n ∙ sym at)) i))
          is)
          (cases_lt j (length nodes));
    }

some_at : {X : Type 0} (xs : List X) (k : ℕ) → k < length xs → X
some_at [] k low = absurd (omega (arith, low))
some_at (x ∷ xs) zero low = x
some_at (x ∷ xs) (suc k) low = some_at xs k (omega (arith, low))

-- the seats are those of the epoch states
pub seats_are : (plan : Plan) (nodes : List ℕ) (seats : List Known) (epoch_states : List EpochState) → AreFirstEpochStates plan nodes seats epoch_states
    → map (λ (g : EpochState). g.seat) epoch_states ≡ seats
seats_are plan nodes seats epoch_states are = let long = length-map epoch_states (λ (g : EpochState). g.seat) in let n = are.count in
    same_lists (map (λ (g : EpochState). g.seat) epoch_states) seats (long ∙ n)
    (λ k d low. let inside : k < length epoch_states = omega (arith, low, long) in let g : EpochState = some_at epoch_states k inside in
    get_or-map (λ (x : EpochState). x.seat) epoch_states k g d inside ∙ (are.each k d g (omega (arith, inside, n))).seat_is)

-- numbers that ascend below n are no more than n
at_least : (xs : List ℕ) → AllPairs (λ a b. a < b) xs → (i : ℕ) → i < length xs → i ≤ get_or xs i 0
at_least xs ascend zero low = omega arith
at_least xs ascend (suc i) low = let before = at_least xs ascend i (omega (arith, low)) in
    let less = ascend i (suc i) 0 (omega arith) low in omega (arith, before, less)

pub few_numbers : (xs : List ℕ) (n : ℕ) → AllPairs (λ a b. a < b) xs → All (λ x. x < n) xs → length xs ≤ n
few_numbers xs n ascend below = ⊎_elim
    (λ (none : length xs < 1). omega (arith, none))
    (λ (some : 1 ≤ length xs). let i : ℕ = length xs - 1 in let low : i < length xs = omega (arith, some) in
    let least = at_least xs ascend i low in let most = below i 0 low in omega (arith, least, most, some))
    (cases_lt (length xs) 1)

-- the run begins with cycle 0
first_zero : (plan : Plan) → IsSoundPlan plan → first_of plan 0 ≡ 0
first_zero plan sound = by plan.epochs sound.follow
  where
    by : (es : List Epoch) → FollowFrom 0 es
        → unwrap_or (option_map (λ (e : Epoch). e.shape.first) (slice_get es 0)) (sum_by (λ (e : Epoch). e.shape.cycles) es) ≡ 0
    by [] h = refl
    by (e ∷ es) h = h.0

module _ (run_model : RunModel) (nodes : List ℕ) (states : Vec NodeState _) (epoch_states : Vec EpochState _) (rows : Rows) (found : Vec (ℕ × ℕ) _)
    (tables : List (List (ℕ × ℕ))) (seats : List Known) (width : ℕ) where
  pub starts : IsSoundPlan run_model.plan.value → WavesFit run_model.plan.value run_model.waves.value → AllPairs (λ a b. a < b) nodes
      → All (λ n. n < length run_model.plan.value.nodes) nodes → AreFirstEpochStates run_model.plan.value nodes seats epoch_states.items
      → length seats ≡ length run_model.plan.value.epochs → AreFirstStates run_model nodes states.items
      → AreAsLong width rows → All (IsEpochStateWithin width) epoch_states.items → found.items ≡ [] → length nodes ≤ vec_capacity found
      → AreTables tables → length tables ≡ length nodes + 1
      → IsBetweenEpochs (record { run_model = run_model; nodes = nodes; states = states; epoch_states = epoch_states; rows = rows; found = found; tables = tables; epoch = 0; led = 0; woke = 0 })
  starts sound waves ascend places are count first long within none room tables_are many = record {
    loop = record {
      sound = sound;
      waves = waves;
      ascend = ascend;
      places = places;
      states = first.count;
      epoch_states = are.count ∙ count;
      parts = λ k e g at here. (one k g here e at).0;
      room = λ k g here. epoch_state_fits width rows g long (subst (IsEpochStateWithin width) (get_or_from_slice_get epoch_states.items k g g here)
          (within k g (slice_get_within epoch_states.items k g here)));
      found_room = room;
      tables = (tables_are, many);
      few_found = subst (λ (l : List (ℕ × ℕ)). length l ≤ length nodes) (sym none) (omega arith);
      told = subst (λ (l : List (ℕ × ℕ)). get_or tables (length l) [] ≡ l) (sym none)
          (nil_from_length (get_or tables 0 []) (tables_are 0 [] (omega (arith, many))));
    };
    some = omega arith;
    none_led = refl;
    unbegun = λ k e g past at here. (one k g here e at).1;
    states = λ j low d. subst (λ c. IsNodeState run_model 0 c (get_or nodes j 0) (get_or states.items j d)) (sym (first_zero run_model.plan.value sound))
        (first.each j d low);
  }
    where
      one : (k : ℕ) (g : EpochState) → slice_get epoch_states.items k ≡ Some g → (e : Epoch) → IsEpoch run_model.plan.value k e
          → IsEpochStateOf run_model.plan.value nodes k e g × IsUnbegun e g
      one k g here e at = let low = slice_get_within epoch_states.items k g here in let n = are.count in
          let seat : Known = g.seat in
          let f = are.each k seat g (omega (arith, low, n)) in
          subst (λ (x : EpochState). IsEpochStateOf run_model.plan.value nodes k e x × IsUnbegun e x) (get_or_from_slice_get epoch_states.items k g g here) (f.parts e at)
