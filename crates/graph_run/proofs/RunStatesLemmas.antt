-- A run's states: what is prepared for one thread, what has ended, and what is answered.
use Rattle.std.proofs.Common.{◌≡◌, ℕ, ◌<◌, List, [], ◌∷◌, length, map, refl, sym, ap, ◌∙◌, subst, arith, ⊎_elim}
use Rattle.std.specs.Prelude.{Contains, sum, sum_by, count_by}
use Rattle.std.specs.List.{flat_map}
use Rattle.std.proofs.lemmas.List.{length-map}
use Rattle.std.proofs.lemmas.List.Elements.{All-cons, All-nil}
use Rattle.std.proofs.lemmas.List.Sums.{sum-map}
use Rattle.std.proofs.lemmas.Simd.{map-map}
use Rattle.pw_lists.specs.Listed.{Listed}
use Rattle.pw_graph.specs.declared.event.Event.{Event}
use Rattle.pw_graph.specs.declared.shape.Shape.{Shape}
use Rattle.pw_graph.specs.declared.plan.Epoch.{Epoch}
use Rattle.pw_graph.specs.declared.plan.Plan.{Plan}
use Rattle.pw_graph.specs.History.{is_tick, IsLegalHistory}
use Rattle.pw_graph.specs.Layout.{event_count}
use Rattle.pw_graph.specs.PlanSums.{events_of, epoch_events}
use Rattle.pw_graph.specs.SoundPlan.{IsSoundPlan}
use Rattle.wav_files.specs.declared.wav.WavIn.{WavIn}
use Rattle.board_rule.specs.declared.board.Board.{Board}
use Rattle.board_rule.specs.declared.closed.Closed.{Closed}
use Rattle.board_rule.specs.events.Closing.{expected}
use Rattle.board_rule.specs.Known.{Known}
use Rattle.data_loop.specs.declared.loop_state.LoopState.{LoopState}
use Rattle.graph_run.specs.declared.alone.AloneRun.{AloneRun}
use Rattle.graph_run.specs.declared.ended.EndedRun.{EndedRun}
use Rattle.graph_run.specs.declared.preparing.Prepared.{Prepared}
use Rattle.graph_run.specs.declared.rooms.Rooms.{Rooms}
use Rattle.graph_run.specs.declared.shared.LoopWay.{LoopWay}
use Rattle.graph_run.specs.Assignment.{loop_of}
use Rattle.graph_run.specs.Leads.{HaveLed, HaveLooked, checks_of}
use Rattle.graph_run.specs.Outcomes.{AreDone, IsDoneOf}
use Rattle.graph_run.specs.PlanRun.{IsRunOf}
use Rattle.graph_run.specs.working.Prepared.{IsPrepared}
use Rattle.graph_run.specs.Rooms.{AreRooms}
use Rattle.graph_run.specs.RunStates.{IsAloneRun, CanRunAlone, IsEndedRun, HasBoardsBy, HasRunAlone, run_plan_of, run_waves_of}
use Rattle.graph_run.specs.Threads.{HasRun, HasNode}
use Rattle.graph_run.proofs.PlanRunLemmas.{shapes_are, have_ended, expects, no_checks}
use Rattle.graph_run.proofs.ThreadLemmas.{done_with}

-- with no loop beside it, the driver's own has all nodes
own_node : (own : LoopState) (loops : List LoopWay) (n : ℕ) → length loops ≡ 0 → HasNode own loops n → Contains own.nodes n
own_node own loops n none has = ⊎_elim (λ c. c) (λ c. let low = c.1 in absurd (omega (arith, low, none))) has

pub alone_from : (plan : Plan) (waves : List WavIn) (p : Prepared) → IsPrepared plan waves 0 p → IsSoundPlan plan
    → (done : Listed LoopState) (rooms : Rooms) → done.list ≡ [] → 0 < done.spare → AreRooms plan rooms
    → IsAloneRun plan waves (record { shared = p.shared; driving = p.driving; done = done; rooms = rooms })
alone_from plan waves p is sound done rooms empty room have = record {
  sound = sound;
  plan_is = is.plan_is;
  waves_are = is.waves_are;
  shapes = is.shapes;
  drivers = is.drivers;
  can_drive = is.can_drive;
  nodes = λ n low. own_node p.driving.own p.loops n is.count (is.nodes n low);
  empty = empty;
  room = room;
  rooms = have;
}

module _ (r : AloneRun) (is : CanRunAlone r) (own : LoopState) (drivers : List Known) (ran : HasRun r.driving.own own)
    (led : HaveLed (length r.shared.boards) r.shared.boards r.driving.drivers drivers) where
  alone_done : AreDone (run_plan_of r) (run_waves_of r) (own ∷ [])
  alone_done = record {
    each = All-cons (IsDoneOf (run_plan_of r) (run_waves_of r)) own [] (done_with r.shared r.driving.own own is.can_drive.plan_is is.can_drive.waves_are ran) (All-nil (IsDoneOf (run_plan_of r) (run_waves_of r)));
    nodes = λ n low. (0, (omega arith, λ d. subst (λ (l : List ℕ). Contains l n) (sym ran.same.nodes) (is.nodes n low)));
  }

  pub has_run_alone : (done : List LoopState) → done ≡ own ∷ [] → HaveLooked r.driving.drivers drivers 0 0
      → HasRunAlone r (record { boards = r.shared.boards; drivers = drivers; done = done; rooms = r.rooms })
  has_run_alone done done_is looked =
      let shapes = shapes_are (run_plan_of r) (loop_of (run_plan_of r) 0) 0 r.shared.boards is.shapes in record {
        ended = record {
          shapes = shapes;
          done = subst (AreDone (run_plan_of r) (run_waves_of r)) (sym done_is) alone_done;
          ended = have_ended (run_plan_of r) (run_waves_of r) 0 r.shared.boards shapes r.driving.drivers drivers is.drivers led;
          expects = expects (run_plan_of r) (run_waves_of r) 0 r.shared.boards shapes r.driving.drivers drivers is.drivers led;
          rooms = is.rooms;
        };
        boards = refl;
        quiet = (let none = no_checks (run_plan_of r) (run_waves_of r) 0 r.shared.boards r.driving.drivers is.drivers in
            let most = looked.most in omega (arith, most, none));
      }

-- a prepared run can be run, and then has ended
module _ (plan : Plan) (waves : List WavIn) (r : AloneRun) (is : IsAloneRun plan waves r) where
  pub can_run : CanRunAlone r
  can_run = subst (λ (x : Plan × List WavIn). IsAloneRun x.0 x.1 r) (λ i. (sym is.plan_is i, sym is.waves_are i)) is

  pub ended_of : (e : EndedRun) → HasRunAlone r e → IsEndedRun plan waves e
  ended_of e ran = subst (λ (x : Plan × List WavIn). IsEndedRun x.0 x.1 e) (λ i. (is.plan_is i, is.waves_are i)) ran.ended

  pub boards_by : (e : EndedRun) → HasRunAlone r e → HasBoardsBy plan (loop_of plan 0) 0 e
  boards_by e ran = ap (λ (l : List Board). map (λ b. b.board_shape) l) ran.boards ∙ is.shapes

-- THE RUN that has ended, with a Tick for each check
pub run_of_ended : (plan : Plan) (waves : List WavIn) (e : EndedRun) → IsEndedRun plan waves e → (history : List Event) (closed : List Closed)
    → map (λ (x : Closed). x.board_shape) closed ≡ map (λ (b : Board). b.board_shape) e.boards
    → map expected closed ≡ map (λ (s : Known). s.knows.expect) e.drivers
    → history ≡ flat_map (λ (x : Closed). x.events) closed
    → IsLegalHistory (map (λ (b : Board). b.board_shape.shape) e.boards) history
    → count_by is_tick history ≡ checks_of e.drivers
    → (f : ℕ → ℕ) (loops : ℕ) → HasBoardsBy plan f loops e → IsRunOf plan waves f loops history closed 0 (checks_of e.drivers)
run_of_ended plan waves e is history closed closed_shapes closed_expect events legal ticks f loops by = record {
  boards = closed_shapes ∙ by;
  tables = closed_expect ∙ is.expects;
  events = events;
  legal = subst (λ (l : List Shape). IsLegalHistory l history) is.shapes legal;
  most = omega (arith, ticks);
  some = λ less. omega (arith, ticks, less);
}

-- there is a board an epoch, and they have the events of the plan
pub ended_count : (plan : Plan) (waves : List WavIn) (e : EndedRun) → IsEndedRun plan waves e → length e.boards ≡ length plan.epochs
ended_count plan waves e is = sym (length-map e.boards (λ (b : Board). b.board_shape.shape))
    ∙ (ap (λ (l : List Shape). length l) is.shapes ∙ length-map plan.epochs (λ (x : Epoch). x.shape))

pub ended_events : (plan : Plan) (waves : List WavIn) (e : EndedRun) → IsEndedRun plan waves e
    → sum_by (λ (b : Board). event_count b.board_shape.shape) e.boards ≡ events_of plan
ended_events plan waves e is = sym (sum-map (λ (b : Board). event_count b.board_shape.shape) e.boards)
    ∙ (ap sum (sym (map-map event_count (λ (b : Board). b.board_shape.shape) e.boards)
    ∙ (ap (map event_count) is.shapes ∙ map-map event_count (λ (x : Epoch). x.shape) plan.epochs))
    ∙ sum-map epoch_events plan.epochs)

-- the same between two counts of the ticker
pub run_looked : (plan : Plan) (waves : List WavIn) (f : ℕ → ℕ) (loops : ℕ) (history : List Event) (closed : List Closed) (old new : List Known) (m n : ℕ)
    → checks_of old ≡ 0 → HaveLooked old new m n → IsRunOf plan waves f loops history closed 0 (checks_of new)
    → IsRunOf plan waves f loops history closed m n
run_looked plan waves f loops history closed old new m n none looked is = record {
  boards = is.boards;
  tables = is.tables;
  events = is.events;
  legal = is.legal;
  most = (let a = is.most in let b = looked.most in omega (arith, a, b, none));
  some = λ less. let a = looked.some less in is.some (omega (arith, a, none));
}
