-- What a run of a plan begins with, from its boards, loops and ways.
use Rattle.std.proofs.Common.{◌≡◌, ℕ, ◌+◌, ◌<◌, ◌≤◌, List, [], ◌∷◌, ◌++◌, length, map, get_or, refl, sym, ap, ◌∙◌, subst, arith, ⊎_elim, slice_get, Some, length-append, inl, inr}
use Rattle.std.specs.Prelude.{All, Contains}
use Rattle.std.specs.List.{range_with_len}
use Rattle.std.proofs.lemmas.Bool.{cases_lt}
use Rattle.std.proofs.lemmas.List.{get_or-map, get_or_append_left, length-map}
use Rattle.std.proofs.lemmas.List.FromFn.{length-range_with_len, get_or-range_with_len}
use Rattle.std.proofs.lemmas.Option.{slice_get_within, slice_get-get_or, get_or_from_slice_get}
use Rattle.pw_graph.specs.declared.plan.Plan.{Plan}
use Rattle.wav_files.specs.declared.wav.WavIn.{WavIn}
use Rattle.board_rule.specs.Known.{Known}
use Rattle.ready_queues.specs.declared.way.Way.{Way}
use Rattle.ready_queues.specs.declared.start_view.StartView.{StartView}
use Rattle.ready_queues.specs.Opening.{IsNewWay}
use Rattle.ready_queues.specs.QueueRule.{IsNodeOf}
use Rattle.data_loop.specs.declared.loop_state.LoopState.{LoopState}
use Rattle.data_loop.specs.LoopStart.{IsLoopOf}
use Rattle.data_loop.specs.LoopWay.{IsWayFor}
use Rattle.graph_run.specs.declared.shared.LoopWay.{LoopWay}
use Rattle.graph_run.specs.declared.shared.Shared.{Shared}
use Rattle.graph_run.specs.Assignment.{loop_of, owner_row}
use Rattle.graph_run.specs.Loops.{AreLoopsOf}
use Rattle.graph_run.specs.LoopsOnPlan.{AreReady, AreFirstLeads}
use Rattle.graph_run.specs.Seating.{nodes_of_loop}
use Rattle.graph_run.specs.Threads.{CanRun, CanStart, CanDrive, HasNode}
use Rattle.graph_run.proofs.AssignmentLemmas.{most_loop}
use Rattle.graph_run.proofs.LoopLemmas.{nodes_places}
use Rattle.graph_run.proofs.ReadyLemmas.{short, own_ready, own_has, own_is, others_ready, others_none, has_loop, is_in}

-- the loops of all nodes
module _ (plan : Plan) (loops : ℕ) where
  pub owner_count : length (owner_row plan loops) ≡ length plan.nodes
  owner_count = length-map (range_with_len 0 (length plan.nodes)) (loop_of plan loops) ∙ length-range_with_len 0 (length plan.nodes)

  pub owners_most : All (λ l. l ≤ loops) (owner_row plan loops)
  owners_most k d low = let a = length-map (range_with_len 0 (length plan.nodes)) (loop_of plan loops) in
      let is = get_or-map (loop_of plan loops) (range_with_len 0 (length plan.nodes)) k 0 d (omega (arith, low, a)) in
      let most = most_loop plan loops (get_or (range_with_len 0 (length plan.nodes)) k 0) in omega (arith, is, most)

-- a node that the queues give to a loop is one of the loop's
module _ (plan : Plan) (loops n k : ℕ) (of : IsNodeOf (owner_row plan loops) k n) where
  owned_low : n < length plan.nodes
  owned_low = let low = slice_get_within (owner_row plan loops) n k of in
      let a = length-map (range_with_len 0 (length plan.nodes)) (loop_of plan loops) in
      let b = length-range_with_len 0 (length plan.nodes) in omega (arith, low, a, b)

  owned_is : loop_of plan loops n ≡ k
  owned_is = let low = owned_low in let b = length-range_with_len 0 (length plan.nodes) in
      let at = get_or-range_with_len 0 (length plan.nodes) n 0 low in
      ap (loop_of plan loops) (sym (at ∙ zero_add n))
      ∙ (sym (get_or-map (loop_of plan loops) (range_with_len 0 (length plan.nodes)) n 0 k (omega (arith, low, b)))
      ∙ get_or_from_slice_get (owner_row plan loops) n k k of)
    where
      zero_add : (m : ℕ) → 0 + m ≡ m
      zero_add m = omega arith

  pub owned_in : Contains (nodes_of_loop (loop_of plan loops) plan k) n
  owned_in = is_in (loop_of plan loops) plan k n owned_low owned_is

-- and a node of a loop is one that the queues give to it
module _ (plan : Plan) (loops n k : ℕ) (own : Contains (nodes_of_loop (loop_of plan loops) plan k) n) where
  own_low : n < length plan.nodes
  own_low = subst (λ m. m < length plan.nodes) own.2 (nodes_places (loop_of plan loops) plan k own.0 n own.1)

  pub given : IsNodeOf (owner_row plan loops) k n
  given = let low = own_low in let all = range_with_len 0 (length plan.nodes) in let long = length-range_with_len 0 (length plan.nodes) in
      let row = owner_count plan loops in let at = get_or-range_with_len 0 (length plan.nodes) n 0 low in
      let here : get_or all n 0 ≡ n = omega (arith, at) in
      slice_get-get_or (owner_row plan loops) n 0 (omega (arith, low, row))
      ∙ ap Some (get_or-map (loop_of plan loops) all n 0 0 (omega (arith, low, long))
      ∙ (ap (loop_of plan loops) here ∙ has_loop (loop_of plan loops) plan k n own))

module _ (plan : Plan) (waves : List WavIn) (loops : ℕ) (shared : Shared) (xs : List LoopState) (own : LoopState) (rows : List (List Known))
    (ready : AreReady shared.boards loops (xs ++ own ∷ [])) (are : AreLoopsOf plan waves (loop_of plan loops) rows (xs ++ own ∷ []))
    (plan_is : shared.run_model.plan.value ≡ plan) (waves_are : shared.run_model.waves.value ≡ waves)
    (owner : shared.ways.owner ≡ owner_row plan loops) (count : shared.ways.loops ≡ loops) where
  other_is : (i : ℕ) (d : LoopState) → i < length xs → IsLoopOf plan waves (nodes_of_loop (loop_of plan loops) plan i) (get_or rows i []) (get_or xs i d)
  other_is i d low = let long = length-append xs (own ∷ []) in let m = are.count in
      subst (IsLoopOf plan waves (nodes_of_loop (loop_of plan loops) plan i) (get_or rows i [])) (get_or_append_left xs (own ∷ []) d i low)
      (are.each i d (omega (arith, low, long, m)))

  way_for : (i : ℕ) (s : LoopState) (w : Way) → i < loops → s.nodes ≡ nodes_of_loop (loop_of plan loops) plan i → IsNewWay shared.ways i w → IsWayFor shared.ways s w
  way_for i s w less nodes new = let number = new.loop_is in record {
    answered = new.answered;
    one = omega (arith, number, less, count);
    nodes = λ n of. subst (λ (l : List ℕ). Contains l n) (sym nodes)
        (owned_in plan loops n i (subst (λ (x : List ℕ × ℕ). IsNodeOf x.0 x.1 n) (λ j. (owner j, number j)) of));
    owned = λ n own. subst (λ (x : List ℕ × ℕ). IsNodeOf x.0 x.1 n) (λ j. (sym owner j, sym number j))
        (given plan loops n i (subst (λ (l : List ℕ). Contains l n) nodes own));
  }

  module _ (others : List Way) (new : (k : ℕ) (w : Way) → slice_get others k ≡ Some w → IsNewWay shared.ways k w)
      (pairs : List LoopWay) (states_are : map (λ (x : LoopWay). x.state) pairs ≡ xs) (ways_are : map (λ (x : LoopWay). x.way) pairs ≡ others) where
    as_many : length pairs ≡ length xs
    as_many = sym (length-map pairs (λ (x : LoopWay). x.state)) ∙ ap (λ (l : List LoopState). length l) states_are

    state_at : (i : ℕ) (d : LoopWay) → i < length pairs → get_or xs i d.state ≡ (get_or pairs i d).state
    state_at i d low = ap (λ (l : List LoopState). get_or l i d.state) (sym states_are)
        ∙ get_or-map (λ (x : LoopWay). x.state) pairs i d d.state low

    way_at : (i : ℕ) (d : LoopWay) → i < length pairs → slice_get others i ≡ Some (get_or pairs i d).way
    way_at i d low = let long = length-map pairs (λ (x : LoopWay). x.way) in
        ap (λ (l : List Way). slice_get l i) (sym ways_are)
        ∙ (slice_get-get_or (map (λ (x : LoopWay). x.way) pairs) i d.way (omega (arith, low, long))
        ∙ ap Some (get_or-map (λ (x : LoopWay). x.way) pairs i d d.way low))

    pub all_start : All (CanStart shared) pairs
    all_start i d low = let many = as_many in let inside : i < length xs = omega (arith, low, many) in
        let n = short shared.boards loops xs own ready in
        let is = other_is i d.state inside in record {
          can_run = subst (CanRun shared) (state_at i d low) record {
            ready = others_ready shared.boards loops xs own ready i d.state inside;
            none = others_none shared.boards loops xs own ready i d.state inside;
            plan_is = is.plan_is ∙ sym plan_is;
            waves_are = is.waves_are ∙ sym waves_are;
          };
          way = way_for i (get_or pairs i d).state (get_or pairs i d).way (omega (arith, inside, n))
              (subst (λ (s : LoopState). s.nodes ≡ nodes_of_loop (loop_of plan loops) plan i) (state_at i d low) is.nodes_are)
              (new i (get_or pairs i d).way (way_at i d low));
          idle = ap (λ (v : StartView). v.runs) (new i (get_or pairs i d).way (way_at i d low)).idle;
        }

    pub pair_count : length pairs ≡ loops
    pair_count = let many = as_many in let n = short shared.boards loops xs own ready in omega (arith, many, n)

    -- each node of the plan is one of some loop
    pub all_nodes : (n : ℕ) → n < length plan.nodes → HasNode own pairs n
    all_nodes n low = let k = loop_of plan loops n in let most = most_loop plan loops n in let many = pair_count in ⊎_elim
        (λ (less : k < loops). let inside : k < length pairs = omega (arith, less, many) in
        inr (
          k,
          inside,
          λ x. let same = as_many in
              subst (λ (l : List ℕ). Contains l n)
              (sym (subst (λ (s : LoopState). s.nodes ≡ nodes_of_loop (loop_of plan loops) plan k) (state_at k x inside)
              (other_is k x.state (omega (arith, inside, same))).nodes_are))
              (is_in (loop_of plan loops) plan k n low refl),
        ))
        (λ (past : loops ≤ k). let last : k ≡ loops = omega (arith, past, most) in
        inl (subst (λ (l : List ℕ). Contains l n) (sym (own_is shared.boards loops xs own ready plan waves (loop_of plan loops) rows are).nodes_are)
        (is_in (loop_of plan loops) plan loops n low last)))
        (cases_lt k loops)

  -- the driver's own loop with its seats and its way
  pub drives : (drivers : List Known) (way : Way) → AreFirstLeads own.run_model shared.boards drivers → IsNewWay shared.ways loops way
      → CanDrive shared (record { own = own; drivers = drivers; way = way })
  drives drivers way leads new = let is = own_is shared.boards loops xs own ready plan waves (loop_of plan loops) rows are in record {
    ready = own_ready shared.boards loops xs own ready;
    has = own_has shared.boards loops xs own ready;
    leads = leads;
    way = (new.answered, new.loop_is ∙ sym count);
    plan_is = is.plan_is ∙ sym plan_is;
    waves_are = is.waves_are ∙ sym waves_are;
  }
