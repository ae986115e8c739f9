-- A loop on its way through the boards of a run.
use Rattle.std.proofs.Common.{◌≡◌, ◌≢◌, ℕ, zero, suc, ◌+◌, ◌<◌, ◌≤◌, List, [], ◌∷◌, length, get_or, refl, sym, ap, ◌∙◌, subst, arith, ⊎_elim, inl, inr}
use Rattle.std.proofs.Common.{Some, slice_get}
use Rattle.std.specs.Prelude.{Contains}
use Rattle.std.proofs.lemmas.Bool.{cases_lt}
use Rattle.std.proofs.lemmas.List.{nil_from_length, get_or_default}
use Rattle.std.proofs.lemmas.Option.{slice_get_within}
use Rattle.atomic_table.specs.Seated.{TableId}
use Rattle.atomic_table.specs.declared.shared.Seat.{Seat}
use Rattle.pw_graph.specs.declared.plan.Epoch.{Epoch}
use Rattle.pw_graph.specs.declared.shape.Shape.{Shape}
use Rattle.pw_graph.specs.PlanFresh.{IsEpoch}
use Rattle.board_rule.specs.declared.board.Board.{Board}
use Rattle.board_rule.specs.Layout.{BoardLayout}
use Rattle.board_rule.specs.OnBoard.{layout, table_of}
use Rattle.ready_queues.specs.declared.way.Way.{Way}
use Rattle.ready_queues.specs.declared.ways.Ways.{Ways}
use Rattle.ready_queues.specs.declared.start_view.StartView.{StartView}
use Rattle.ready_queues.specs.AnsweredWith.{IsWayOf}
use Rattle.ready_queues.specs.Starting.{IsStarted}
use Rattle.node_progress.specs.declared.run_model.RunModel.{RunModel}
use Rattle.data_loop.specs.declared.loop_state.LoopState.{LoopState}
use Rattle.data_loop.specs.declared.member.Member.{Member}
use Rattle.data_loop.specs.declared.epoch_state.EpochState.{EpochState}
use Rattle.data_loop.specs.Tries.{no_member}
use Rattle.data_loop.specs.Loops.{plan_of, HasEpochState, IsLoop, IsBetweenEpochs}
use Rattle.data_loop.specs.LoopsOnBoards.{IsOnBoard, IsSameBut, IsNextOf, IsFirstSeat}
use Rattle.data_loop.specs.LoopKept.{IsDone}
use Rattle.data_loop.specs.Settling.{HasLedAll}
use Rattle.data_loop.specs.LoopWay.{HasBoards, HasNoDriver, IsAmid, IsUnderWay, IsSameLoop, IsWayFor, RestsAtMost}
use Rattle.data_loop.proofs.BeginLemmas.{begins}
use Rattle.data_loop.proofs.LoopDriverLemmas.{of, drives}

abbrev StartSeat : Type 0
StartSeat = Seat (Unit {0}) StartView

-- an element that is there
there : {X : Type 0} (xs : List X) (k : ℕ) → k < length xs → (x : X) × (slice_get xs k ≡ Some x)
there [] k low = absurd (omega (arith, low))
there (x ∷ xs) zero low = (x, refl)
there (x ∷ xs) (suc k) low = there xs k (omega (arith, low))

pub loop_of : (boards : List Board) (s : LoopState) → IsUnderWay boards s → IsLoop s
loop_of boards s under = ⊎_elim
    (λ (x : IsBetweenEpochs s × HasBoards s.epoch boards s). x.0.loop)
    (λ (a : IsAmid boards s). a.on.loop)
    under

-- on the board of its epoch, where one is left
begun : (boards : List Board) (s : LoopState) → IsBetweenEpochs s → HasBoards s.epoch boards s → s.epoch < length (plan_of s).epochs
    → IsAmid boards s
begun boards s between has low = let n = has.count in let m = between.loop.epoch_states in
    let b = there boards s.epoch (omega (arith, low, n)) in
    let e = there (plan_of s).epochs s.epoch low in
    let g = there s.epoch_states.items s.epoch (omega (arith, low, m)) in record {
      board = b.0;
      here = b.1;
      on = begins s between (layout b.0) (table_of b.0) e.0 e.1 (has.shape s.epoch e.0 b.0 e.1 b.1) g.0 g.1
          (has.seat s.epoch b.0 g.0 (omega arith) b.1 g.1);
      boards_are = record {
        count = has.count;
        shape = has.shape;
        seat = λ j c h past. has.seat j c h (omega (arith, past));
      };
    }

pub amid : (boards : List Board) (s : LoopState) → IsUnderWay boards s → s.epoch < length (plan_of s).epochs → IsAmid boards s
amid boards s under low = ⊎_elim
    (λ (x : IsBetweenEpochs s × HasBoards s.epoch boards s). begun boards s x.0 x.1 low)
    (λ (a : IsAmid boards s). a)
    under

-- where none is left, all are done
pub done : (boards : List Board) (s : LoopState) → IsUnderWay boards s → s.epoch ≡ length (plan_of s).epochs → IsDone s
done boards s under end = ⊎_elim
    (λ (x : IsBetweenEpochs s × HasBoards s.epoch boards s). (x.0, end))
    (λ (a : IsAmid boards s). let low = slice_get_within (plan_of s).epochs s.epoch a.on.stands.epoch a.on.stands.at in
    absurd (omega (arith, low, end)))
    under

pub left : (boards : List Board) (s : LoopState) → IsUnderWay boards s → s.epoch ≢ length (plan_of s).epochs
    → s.epoch < length (plan_of s).epochs
left boards s under ne = ⊎_elim
    (λ (x : IsBetweenEpochs s × HasBoards s.epoch boards s). let some = x.0.some in omega (arith, some, ne))
    (λ (a : IsAmid boards s). slice_get_within (plan_of s).epochs s.epoch a.on.stands.epoch a.on.stands.at)
    under

-- a loop that has no driver has led all that it leads
pub none_leads : (p : BoardLayout) (t : TableId) (s : LoopState) → IsOnBoard p t s → HasNoDriver s → HasLedAll p s
none_leads p t s on none g here some = absurd (⊎_elim
    (λ (no : length on.epoch_state.driver < 1). some (same_driver ∙ nil_from_length on.epoch_state.driver (omega (arith, no))))
    (λ (one : 1 ≤ length on.epoch_state.driver). let m : Member = get_or on.epoch_state.driver 0 no_member in let low : 0 < length on.epoch_state.driver = omega (arith, one) in
    by m (0, low, get_or_default on.epoch_state.driver 0 m no_member low))
    (cases_lt (length on.epoch_state.driver) 1))
  where
    same_driver : g.driver ≡ on.epoch_state.driver
    same_driver = (on.loop.parts s.epoch on.stands.epoch g on.stands.at here).driver
        ∙ sym (on.loop.parts s.epoch on.stands.epoch on.epoch_state on.stands.at on.here).driver

    by : (m : Member) → Contains on.epoch_state.driver m → ⊥
    by m own = let f = of p t s on m own in
        let is : m.node ≡ on.stands.epoch.shape.driver = drives p t s on m own ∙ ap (λ (x : Shape). x.driver) on.stands.shape in
        none s.epoch on.stands.epoch on.stands.at
        (m.at, f.low, get_or_default s.nodes m.at on.stands.epoch.shape.driver 0 f.low ∙ f.node ∙ is)

-- from epoch to epoch
module _ (boards : List Board) (s u w : LoopState) (same : IsSameBut s u) (next : IsNextOf u w) where
  run_model : w.run_model ≡ s.run_model
  run_model = next.run_model ∙ same.run_model

  nodes : w.nodes ≡ s.nodes
  nodes = next.nodes ∙ same.nodes

  boards_on : HasBoards (suc s.epoch) boards s → w.epoch ≡ s.epoch + 1 → HasBoards w.epoch boards w
  boards_on has at = record {
    count = has.count ∙ ap (λ (x : RunModel). length x.plan.value.epochs) (sym run_model);
    shape = λ j e b is here. has.shape j e b (ap (λ (x : RunModel). slice_get x.plan.value.epochs j) (sym run_model) ∙ is) here;
    seat = λ j b g past here have.
        let epoch_state : HasEpochState s j g = sym (same.epoch_states j (λ e. omega (arith, e, past, at)))
        ∙ ap (λ (l : List EpochState). slice_get l j) (sym next.epoch_states) ∙ have in
        subst (λ (x : RunModel × List ℕ). IsFirstSeat x.0.plan.value x.0.waves.value j x.1 (layout b) (table_of b) g.seat)
        (λ i. (sym run_model i, sym nodes i)) (has.seat j b g (omega (arith, past, at)) here epoch_state);
  }

  pub next_under_way : HasBoards (suc s.epoch) boards s → IsBetweenEpochs w → w.epoch ≡ s.epoch + 1 → IsUnderWay boards w
  next_under_way has between at = inl (between, boards_on has at)

  pub next_same : IsSameLoop s w
  next_same = record { run_model = run_model; nodes = nodes }

pub same_loop_refl : (s : LoopState) → IsSameLoop s s
same_loop_refl s = record { run_model = refl; nodes = refl }

pub same_loop_on : (s t u : LoopState) → IsSameLoop s t → IsSameLoop t u → IsSameLoop s u
same_loop_on s t u a b = record { run_model = b.run_model ∙ a.run_model; nodes = b.nodes ∙ a.nodes }

pub none_on : (s t : LoopState) → IsSameLoop s t → HasNoDriver s → HasNoDriver t
none_on s t same none = subst (λ (x : RunModel × List ℕ). (k : ℕ) (e : Epoch) → IsEpoch x.0.plan.value k e → ¬ (Contains x.1 e.shape.driver))
    (λ i. (sym same.run_model i, sym same.nodes i)) none

-- the way after a call that sends, receives or rests
pub way_on : (ways : Ways) (s t : LoopState) (a b : Way) → t.nodes ≡ s.nodes → b.number ≡ a.number → IsWayOf ways b → IsWayFor ways s a
    → IsWayFor ways t b
way_on ways s t a b same number answered h = record {
  answered = answered;
  one = subst (λ n. n < ways.loops) (sym number) h.one;
  nodes = subst (λ (x : List ℕ × ℕ). (n : ℕ) → slice_get ways.owner n ≡ Some x.1 → Contains x.0 n) (λ i. (sym same i, sym number i)) h.nodes;
  owned = subst (λ (x : List ℕ × ℕ). (n : ℕ) → Contains x.0 n → slice_get ways.owner n ≡ Some x.1) (λ i. (sym same i, sym number i)) h.owned;
}

-- it is still started after one
pub started_on : (a b : Way) → b.begins ≡ a.begins → IsStarted a → IsStarted b
started_on a b same is = ap (λ (x : StartSeat). x.me.0.runs) same ∙ is

pub rested_on : (a b : Way) → RestsAtMost a b → IsStarted a → IsStarted b
rested_on a b (inl none) is = ap (λ (w : Way). w.begins.me.0.runs) none ∙ is
rested_on a b (inr once) is = started_on a b once.begins is
