-- The loops of a plan with their ways, before the run.
use Rattle.std.proofs.Common.{◌≡◌, ℕ, ◌<◌, List, [], ◌∷◌, ◌++◌, length, map, get_or, sym, ap, ◌∙◌, subst, arith, slice_get, Some, length-append}
use Rattle.std.specs.Prelude.{All, Contains}
use Rattle.std.proofs.lemmas.List.{get_or-map, get_or_append_left, length-map}
use Rattle.std.proofs.lemmas.Option.{slice_get-get_or}
use Rattle.pw_graph.specs.declared.plan.Plan.{Plan}
use Rattle.wav_files.specs.declared.wav.WavIn.{WavIn}
use Rattle.board_rule.specs.declared.board.Board.{Board}
use Rattle.board_rule.specs.Known.{Known}
use Rattle.ready_queues.specs.declared.way.Way.{Way}
use Rattle.ready_queues.specs.declared.ways.Ways.{Ways}
use Rattle.ready_queues.specs.declared.start_view.StartView.{StartView}
use Rattle.ready_queues.specs.Opening.{IsNewWay}
use Rattle.ready_queues.specs.QueueRule.{IsNodeOf}
use Rattle.data_loop.specs.declared.loop_state.LoopState.{LoopState}
use Rattle.data_loop.specs.LoopWay.{IsWayFor}
use Rattle.graph_run.specs.Assignment.{loop_of, owner_row}
use Rattle.graph_run.specs.Loops.{AreLoopsOf}
use Rattle.graph_run.specs.LoopsOnPlan.{IsReady, HasNoDriver, AreReady}
use Rattle.graph_run.specs.Seating.{nodes_of_loop}
use Rattle.graph_run.proofs.PrepareLemmas.{owned_in, given}
use Rattle.graph_run.proofs.ReadyLemmas.{short, others_ready, others_none}
use Rattle.soak_tests.specs.Threads.{CanStart}

module _ (plan : Plan) (waves : List WavIn) (loops : ℕ) (boards : List Board) (ways : Ways) (xs : List LoopState) (own : LoopState)
    (rows : List (List Known)) (ready : AreReady boards loops (xs ++ own ∷ [])) (are : AreLoopsOf plan waves (loop_of plan loops) rows (xs ++ own ∷ []))
    (owner : ways.owner ≡ owner_row plan loops) (count : ways.loops ≡ loops) where
  other_nodes : (i : ℕ) (d : LoopState) → i < length xs → (get_or xs i d).nodes ≡ nodes_of_loop (loop_of plan loops) plan i
  other_nodes i d low = let long = length-append xs (own ∷ []) in let m = are.count in
      ap (λ (s : LoopState). s.nodes) (sym (get_or_append_left xs (own ∷ []) d i low))
      ∙ (are.each i d (omega (arith, low, long, m))).nodes_are

  way_for : (i : ℕ) (s : LoopState) (w : Way) → i < loops → s.nodes ≡ nodes_of_loop (loop_of plan loops) plan i → IsNewWay ways i w → IsWayFor ways s w
  way_for i s w less nodes new = let number = new.loop_is in record {
    answered = new.answered;
    one = omega (arith, number, less, count);
    nodes = λ n of. subst (λ (l : List ℕ). Contains l n) (sym nodes)
        (owned_in plan loops n i (subst (λ (x : List ℕ × ℕ). IsNodeOf x.0 x.1 n) (λ j. (owner j, number j)) of));
    owned = λ n own. subst (λ (x : List ℕ × ℕ). IsNodeOf x.0 x.1 n) (λ j. (sym owner j, sym number j))
        (given plan loops n i (subst (λ (l : List ℕ). Contains l n) nodes own));
  }

  module _ (others : List Way) (new : (k : ℕ) (w : Way) → slice_get others k ≡ Some w → IsNewWay ways k w) (pairs : List (LoopState × Way))
      (states_are : map (λ (x : LoopState × Way). x.0) pairs ≡ xs) (ways_are : map (λ (x : LoopState × Way). x.1) pairs ≡ others) where
    as_many : length pairs ≡ length xs
    as_many = sym (length-map pairs (λ (x : LoopState × Way). x.0)) ∙ ap (λ (l : List LoopState). length l) states_are

    state_at : (i : ℕ) (d : LoopState × Way) → i < length pairs → get_or xs i d.0 ≡ (get_or pairs i d).0
    state_at i d low = ap (λ (l : List LoopState). get_or l i d.0) (sym states_are)
        ∙ get_or-map (λ (x : LoopState × Way). x.0) pairs i d d.0 low

    way_at : (i : ℕ) (d : LoopState × Way) → i < length pairs → slice_get others i ≡ Some (get_or pairs i d).1
    way_at i d low = let long = length-map pairs (λ (x : LoopState × Way). x.1) in
        ap (λ (l : List Way). slice_get l i) (sym ways_are)
        ∙ (slice_get-get_or (map (λ (x : LoopState × Way). x.1) pairs) i d.1 (omega (arith, low, long))
        ∙ ap Some (get_or-map (λ (x : LoopState × Way). x.1) pairs i d d.1 low))

    pub all_start : All (CanStart boards ways) pairs
    all_start i d low = let many = as_many in let inside : i < length xs = omega (arith, low, many) in
        let n = short boards loops xs own ready in let x = get_or pairs i d in record {
          ready = subst (IsReady boards) (state_at i d low) (others_ready boards loops xs own ready i d.0 inside);
          none = subst HasNoDriver (state_at i d low) (others_none boards loops xs own ready i d.0 inside);
          way = way_for i x.0 x.1 (omega (arith, inside, n))
              (subst (λ (s : LoopState). s.nodes ≡ nodes_of_loop (loop_of plan loops) plan i) (state_at i d low) (other_nodes i d.0 inside))
              (new i x.1 (way_at i d low));
          idle = ap (λ (v : StartView). v.runs) (new i x.1 (way_at i d low)).idle;
        }
