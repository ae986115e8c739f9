-- What a run begins with, from its boards and loops.
use Rattle.std.proofs.Common.{◌≡◌, ℕ, ◌<◌, ◌≤◌, Bool, false, true≢false, List, [], ◌∷◌, ◌++◌, length, get_or, refl, sym, ap, ◌∙◌, subst, arith, ⊎_elim, slice_get, Some, length-append, inl, inr}
use Rattle.std.specs.Prelude.{All, Contains, replicate}
use Rattle.std.proofs.lemmas.Bool.{cases_lt}
use Rattle.std.proofs.lemmas.List.{get_or_append_left, get_or_push, get_or-replicate, length-replicate}
use Rattle.std.proofs.lemmas.Option.{slice_get_within, slice_get-get_or, get_or_from_slice_get}
use Rattle.pw_graph.specs.declared.plan.Plan.{Plan}
use Rattle.pw_lists.specs.Limits.{nodes_limit}
use Rattle.pw_graph.specs.SoundPlan.{IsSoundPlan}
use Rattle.wav_files.specs.declared.wav.WavIn.{WavIn}
use Rattle.board_rule.specs.declared.board.Board.{Board}
use Rattle.board_rule.specs.Known.{Known}
use Rattle.ready_queues.specs.declared.way.Way.{Way}
use Rattle.ready_queues.specs.declared.ways.Ways.{Ways}
use Rattle.ready_queues.specs.AnsweredWith.{IsWayOf}
use Rattle.ready_queues.specs.declared.start_view.StartView.{StartView}
use Rattle.ready_queues.specs.Opening.{IsNewWay}
use Rattle.data_loop.specs.declared.loop_state.LoopState.{LoopState}
use Rattle.data_loop.specs.LoopStart.{IsLoopOf}
use Rattle.graph_run.specs.declared.opening.OpenedRun.{OpenedRun}
use Rattle.graph_run.specs.Assignment.{cell_number, cell_count}
use Rattle.graph_run.specs.Loops.{AreLoopsOf}
use Rattle.graph_run.specs.LoopsOnPlan.{IsReady, AreReady, AreFirstLeads}
use Rattle.graph_run.specs.OpenedRun.{IsOpenedBy}
use Rattle.graph_run.specs.Seating.{IsSeating, nodes_of_loop}
use Rattle.graph_run.proofs.ReadyLemmas.{short, own_is, own_ready, own_has, others_ready, others_none, is_in}
use Rattle.steal_shelf.specs.NewShelf.{IsFirstCell, AreOfOneRun}
use Rattle.steal_shelf.specs.Seats.{cells_of}
use Rattle.steal_loops.specs.declared.shared.Shared.{Shared}
use Rattle.steal_loops.specs.declared.claimant.Claimant.{Claimant}
use Rattle.steal_loops.specs.working.Cells.{IsCellFor, AreCells}
use Rattle.steal_loops.specs.working.Crews.{CanDrive, HasNode}
use Rattle.steal_loops.specs.working.NodeSets.{AreCelled}
use Rattle.steal_loops.specs.working.Claimants.{IsUnusedSeat, IsClaimant, IsNewWorker, IsDriverClaimant, IsWorkersWay}
use Rattle.steal_loops.proofs.OneNodeLemmas.{one_node}

-- all ways of the workers
pub workers_ways : (ways : Ways) (loops : ℕ) (others : List Way) → ways.loops ≡ loops → length others ≡ loops
    → ((k : ℕ) (w : Way) → slice_get others k ≡ Some w → IsNewWay ways k w) → All (IsWorkersWay ways) others
workers_ways ways loops others is count new k d low = let w : Way = get_or others k d in let here = new k w (slice_get-get_or others k d low) in
    let number = here.loop_is in (here.answered, omega (arith, number, low, count, is), ap (λ (v : StartView). v.runs) here.idle)

-- the first of a list
pub front : {X : Type 0} (P : X → Type 0) (xs ys : List X) → All P (xs ++ ys) → All P xs
front P xs ys h i d low = let long = length-append xs ys in
    subst P (get_or_append_left xs ys d i low) (h i d (omega (arith, low, long)))

-- and its last
pub back : {X : Type 0} (P : X → Type 0) (xs : List X) (x : X) → All P (xs ++ x ∷ []) → P x
back P xs x h = let long = length-append xs (x ∷ []) in subst P (get_or_push xs x x (length xs) refl) (h (length xs) x (omega (arith, long)))

-- a plan has few nodes
pub few_nodes : (plan : Plan) → IsSoundPlan plan → length plan.nodes ≤ nodes_limit
few_nodes plan sound = sound.few

module _ (plan : Plan) (waves : List WavIn) (o : OpenedRun) (opened : IsOpenedBy plan waves (cell_number plan) (cell_count plan) o) where
  abbrev cells : ℕ
  cells = cell_count plan

  abbrev boards : List Board
  boards = o.boards

  abbrev xs : List LoopState
  xs = o.loops

  abbrev own : LoopState
  own = o.own

  abbrev rows : List (List Known)
  rows = opened.rows

  abbrev ready : AreReady boards cells (xs ++ own ∷ [])
  ready = opened.ready

  abbrev are : AreLoopsOf plan waves (cell_number plan) rows (xs ++ own ∷ [])
  are = opened.are

  many : length xs ≡ cells
  many = short boards cells xs own ready

  cell_is : (i : ℕ) (d : LoopState) → i < length xs
      → IsLoopOf plan waves (nodes_of_loop (cell_number plan) plan i) (get_or rows i []) (get_or xs i d)
  cell_is i d low = let long = length-append xs (own ∷ []) in let m = are.count in
      subst (IsLoopOf plan waves (nodes_of_loop (cell_number plan) plan i) (get_or rows i [])) (get_or_append_left xs (own ∷ []) d i low)
      (are.each i d (omega (arith, low, long, m)))

  -- the shelf takes them
  pub all_first : All IsFirstCell xs
  all_first i d low = let r = others_ready boards cells xs own ready i d low in let n = many in record {
    between = r.between;
    first = r.none_done;
    one = ap (λ (l : List ℕ). length l) (cell_is i d low).nodes_are ∙ one_node plan i (omega (arith, low, n));
  }

  pub all_alike : AreOfOneRun xs
  all_alike i c low j d below = let a = cell_is i c low in let b = cell_is j d below in
      (a.plan_is ∙ sym b.plan_is, a.waves_are ∙ sym b.waves_are)

  -- each node of the plan is one of a cell, or of the driver's own loop
  pub node_there : IsSeating plan (cell_number plan) cells → (n : ℕ) → n < length plan.nodes → HasNode own xs n
  node_there seating n low = let f = cell_number plan in let most = seating.most n in let count = many in ⊎_elim
      (λ (less : f n < cells). let inside : f n < length xs = omega (arith, less, count) in
      inr (
        f n,
        inside,
        λ d. subst (λ (l : List ℕ). Contains l n) (sym (cell_is (f n) d inside).nodes_are) (is_in f plan (f n) n low refl),
      ))
      (λ (past : cells ≤ f n).
      inl (subst (λ (l : List ℕ). Contains l n) (sym (own_is boards cells xs own ready plan waves f rows are).nodes_are)
      (is_in f plan cells n low (omega (arith, past, most)))))
      (cases_lt (f n) cells)

-- what a thread takes cells with, in the beginning
pub new_claimant : (shared : Shared) → AreCells shared → (t : Claimant) → IsUnusedSeat shared.shelf t.seat → IsWayOf shared.ways t.way
    → t.ended.items ≡ replicate shared.seating.loops false → IsClaimant shared t
new_claimant shared cells t seat answered none = let n = cells.count in let long = length-replicate shared.seating.loops false in
    let flags = ap (λ (l : List Bool). length l) none in record {
      seat = seat.0;
      rests = seat.1.lacks;
      answered = answered;
      flags = omega (arith, n, long, flags);
      ended = λ i d low up. absurd (true≢false (sym up
          ∙ (ap (λ (l : List Bool). get_or l i d) none ∙ get_or-replicate shared.seating.loops i false d (omega (arith, low, n)))));
    }

pub new_worker : (shared : Shared) → AreCells shared → (t : Claimant) → IsUnusedSeat shared.shelf t.seat → IsWorkersWay shared.ways t.way
    → t.ended.items ≡ replicate shared.seating.loops false → IsNewWorker shared t
new_worker shared cells t seat way none = ((new_claimant shared cells t seat way.0 none, way.1), way.2)

-- THE CELLS on the shelf, and the driver's thread
module _ (plan : Plan) (waves : List WavIn) (o : OpenedRun) (opened : IsOpenedBy plan waves (cell_number plan) (cell_count plan) o)
    (shared : Shared) (boards_are : shared.boards ≡ o.boards) (plan_is : shared.run_model.plan.value ≡ plan) (waves_are : shared.run_model.waves.value ≡ waves) where
  cell_for : (i : ℕ) (d : LoopState) → i < length o.loops → IsCellFor shared (get_or o.loops i d)
  cell_for i d low = let n = cell_count plan in
      let r = subst (λ (l : List Board). IsReady l (get_or o.loops i d)) (sym boards_are) (others_ready o.boards n o.loops o.own opened.ready i d low) in
      let is = cell_is plan waves o opened i d low in record {
        loop = r.between.loop;
        boards_are = record {
          count = r.boards_are.count;
          shape = r.boards_are.shape;
          seat = λ j b g past here at. r.boards_are.seat j b g here at;
        };
        none = others_none o.boards n o.loops o.own opened.ready i d low;
        plan_is = is.plan_is ∙ sym plan_is;
        waves_are = is.waves_are ∙ sym waves_are;
      }

  pub are_cells : cells_of shared.shelf ≡ o.loops → shared.seating.loops ≡ cell_count plan → cell_count plan ≤ nodes_limit
      → AreCelled shared.seating shared.signs.celled → AreCells shared
  are_cells is loops few celled = record {
    each = λ i c at. let here : slice_get o.loops i ≡ Some c = subst (λ (l : List LoopState). slice_get l i ≡ Some c) is at in
        subst (IsCellFor shared) (get_or_from_slice_get o.loops i c c here) (cell_for i c (slice_get_within o.loops i c here));
    count = ap (λ (l : List LoopState). length l) is ∙ (many plan waves o opened ∙ sym loops);
    few = omega (arith, loops, few);
    celled = celled;
  }

  pub drives : (claimant : Claimant) → IsDriverClaimant shared claimant → CanDrive shared (record { own = o.own; drivers = o.drivers; claimant = claimant })
  drives claimant is = let n = cell_count plan in let mine = own_is o.boards n o.loops o.own opened.ready plan waves (cell_number plan) opened.rows opened.are in record {
    ready = subst (λ (l : List Board). IsReady l o.own) (sym boards_are) (own_ready o.boards n o.loops o.own opened.ready);
    has = own_has o.boards n o.loops o.own opened.ready;
    leads = subst (λ (l : List Board). AreFirstLeads o.own.run_model l o.drivers) (sym boards_are) (opened.leads o.own.run_model mine.plan_is mine.waves_are);
    claimant = is;
    plan_is = mine.plan_is ∙ sym plan_is;
    waves_are = mine.waves_are ∙ sym waves_are;
  }
