-- Loops and drivers' seats from epoch to epoch.
use Rattle.std.proofs.Common.{◌≡◌, ℕ, zero, suc, ◌+◌, ◌<◌, ◌≤◌, ◌==◌, true, List, [], ◌∷◌, length, get_or, set, refl, sym, ap, ◌∙◌, subst, arith, ⊎_elim}
use Rattle.std.proofs.Common.{Some, slice_get, length-set, get_or-set_same, get_or-set_other}
use Rattle.std.specs.Prelude.{All, Contains, ◌⊎◌}
use Rattle.std.proofs.lemmas.Bool.{and_parts, eqb-true, cases_lt}
use Rattle.std.proofs.lemmas.List.{get_or_default}
use Rattle.std.proofs.lemmas.List.Sums.{sum_by-set}
use Rattle.std.proofs.lemmas.Option.{slice_get_within, same_Some}
use Rattle.atomic_table.specs.Seated.{TableId}
use Rattle.pw_graph.specs.declared.plan.Epoch.{Epoch}
use Rattle.pw_graph.specs.declared.plan.Plan.{Plan}
use Rattle.pw_graph.specs.declared.shape.Shape.{Shape}
use Rattle.pw_lists.specs.Limits.{dummy_node}
use Rattle.pw_graph.specs.PlanFresh.{IsEpoch}
use Rattle.board_rule.specs.declared.board.Board.{Board}
use Rattle.board_rule.specs.Known.{Known}
use Rattle.board_rule.specs.Layout.{BoardLayout}
use Rattle.board_rule.specs.OnBoard.{layout, table_of}
use Rattle.node_progress.specs.declared.run_model.RunModel.{RunModel}
use Rattle.node_progress.specs.Standing.{works_in}
use Rattle.data_loop.specs.declared.loop_state.LoopState.{LoopState}
use Rattle.data_loop.specs.declared.member.Member.{Member}
use Rattle.data_loop.specs.declared.epoch_state.EpochState.{EpochState}
use Rattle.data_loop.specs.Members.{drivers_of}
use Rattle.data_loop.specs.Loops.{plan_of, HasEpochState}
use Rattle.data_loop.specs.LoopsOnBoards.{IsOnBoard, IsAtEnd, IsSameBut, IsFirstSeat}
use Rattle.data_loop.specs.LoopDriver.{DrivesFrom}
use Rattle.data_loop.proofs.BeginLemmas.{begins}
use Rattle.data_loop.proofs.MemberLemmas.{ComesFrom, comes_from}
use Rattle.driver_cycle.specs.Leading.{IsLeading}
use Rattle.driver_cycle.specs.Rounds.{HasLooked}
use Rattle.driver_cycle.specs.Settling as settling
use Rattle.driver_cycle.specs.Settling.{HasSettled, AreEach}
use Rattle.driver_cycle.specs.Epochs.{IsThread}
use Rattle.graph_run.specs.LoopsOnPlan.{IsReady, HasDrivers, HasNoDriver, IsFirstLead, HasCome, HasPassed, HasEntered}
use Rattle.graph_run.specs.Leads.{HasLedAll, HaveLed, HaveLooked}

pub there : {X : Type 0} (xs : List X) (k : ℕ) → k < length xs → (x : X) × (slice_get xs k ≡ Some x)
there [] k low = absurd (omega (arith, low))
there (x ∷ xs) zero low = (x, refl)
there (x ∷ xs) (suc k) low = there xs k (omega (arith, low))

-- a loop with no driver among its nodes leads in no epoch
pub none_lead : (plan : Plan) (nodes : List ℕ) (e : Epoch) → ¬ (Contains nodes e.shape.driver) → drivers_of plan nodes e ≡ []
none_lead plan nodes e none = by (drivers_of plan nodes e) refl
  where
    by : (ms : List Member) → drivers_of plan nodes e ≡ ms → ms ≡ []
    by [] is = refl
    by (m ∷ ms) is =
        let f : ComesFrom plan nodes e true m = comes_from plan nodes e true m (subst (λ (l : List Member). Contains l m) (sym is) (0, omega arith, refl)) in
        let drives : e.shape.driver ≡ m.node = eqb-true e.shape.driver m.node (and_parts (e.shape.driver == m.node) (works_in e m.node) f.role).0 in
        absurd (none (m.at, f.low, get_or_default nodes m.at e.shape.driver 0 f.low ∙ (f.node ∙ sym drives)))

-- before any epoch; and through one more
pub none_passed : (boards : List Board) (s : LoopState) → IsReady boards s → HasCome 0 s s
none_passed boards s h = record {
  between = h.between;
  epoch = h.none_done;
  run_model = refl;
  nodes = refl;
  later = λ j past. refl;
}

pub comes_on : (k : ℕ) (s t u : LoopState) → HasCome k s t → HasPassed t u → HasCome (k + 1) s u
comes_on k s t u a b = let e = a.epoch in record {
  between = b.between;
  epoch = b.epoch ∙ ap (λ n. n + 1) e;
  run_model = b.run_model ∙ a.run_model;
  nodes = b.nodes ∙ a.nodes;
  later = λ j past. b.later j (omega (arith, past, e)) ∙ a.later j (omega (arith, past));
}

pub passes : (s t u : LoopState) → IsSameBut s t → HasEntered t u → HasPassed s u
passes s t u a b = record {
  between = b.between;
  epoch = b.next ∙ ap (λ n. n + 1) a.epoch;
  run_model = b.same.run_model ∙ a.run_model;
  nodes = b.same.nodes ∙ a.nodes;
  later = λ j past. ap (λ (l : List EpochState). slice_get l j) b.same.epoch_states ∙ a.epoch_states j (λ is. omega (arith, is, past));
}

module _ (boards : List Board) (k : ℕ) (b : Board) (here : slice_get boards k ≡ Some b) (s t : LoopState) (ready : IsReady boards s)
    (come : HasCome k s t) where
  abbrev p : BoardLayout
  p = layout b

  low : k < length (plan_of s).epochs
  low = let inside = slice_get_within boards k b here in let n = ready.boards_are.count in omega (arith, inside, n)

  abbrev e : Epoch
  e = (there (plan_of s).epochs k low).0

  at : IsEpoch (plan_of s) k e
  at = (there (plan_of s).epochs k low).1

  at_now : IsEpoch (plan_of t) t.epoch e
  at_now = (λ i. slice_get (come.run_model i).plan.value.epochs (come.epoch i)) ∙ at

  shape : b.board_shape.shape ≡ e.shape
  shape = ready.boards_are.shape k e b at here

  has_epoch_state : t.epoch < length t.epoch_states.items
  has_epoch_state = let long = come.between.loop.epoch_states in let inside = slice_get_within (plan_of t).epochs t.epoch e at_now in omega (arith, long, inside)

  abbrev g : EpochState
  g = (there t.epoch_states.items t.epoch has_epoch_state).0

  g_is : HasEpochState t t.epoch g
  g_is = (there t.epoch_states.items t.epoch has_epoch_state).1

  seat : IsFirstSeat (plan_of t) t.run_model.waves.value t.epoch t.nodes p (table_of b) g.seat
  seat = subst (λ (x : RunModel × ℕ × List ℕ). IsFirstSeat x.0.plan.value x.0.waves.value x.1 x.2 p (table_of b) g.seat)
      (λ i. (sym come.run_model i, sym come.epoch i, sym come.nodes i))
      (ready.boards_are.seat k b g here (sym (come.later k (omega arith)) ∙ ((λ i. slice_get t.epoch_states.items (sym come.epoch i)) ∙ g_is)))

  -- the loop begins the epoch
  pub on_board : IsOnBoard p (table_of b) t
  on_board = begins t come.between p (table_of b) e at_now shape g g_is seat

  pub drives_from : HasDrivers s → DrivesFrom p t
  drives_from has = subst (λ (x : Shape × List ℕ). (x.0.driver ≡ dummy_node) ⊎ Contains x.1 x.0.driver)
      (λ i. (sym shape i, sym come.nodes i)) (has k e at)

  pub none_led : HasNoDriver s → settling.HasLedAll p t
  none_led none h is some = absurd (some ((come.between.loop.parts t.epoch e h at_now is).driver
      ∙ none_lead (plan_of t) t.nodes e (λ own. none k e at (subst (λ (l : List ℕ). Contains l e.shape.driver) come.nodes own))))

-- the thread begins an epoch
module _ (boards : List Board) (k : ℕ) (b : Board) (here : slice_get boards k ≡ Some b) (s t : LoopState) (ready : IsReady boards s)
    (come : HasCome k s t) (adopted now : List LoopState) (all : All (IsReady boards) adopted) (each : AreEach (HasCome k) adopted now) where
  pub thread_begins : HasDrivers s → (seat : Known) → IsFirstLead s.run_model k b seat → IsThread b seat t now
  thread_begins has seat lead = record {
    leads = subst (λ (x : RunModel × ℕ). IsLeading x.0 x.1 b seat) (λ i. (sym come.run_model i, sym come.epoch i)) lead.leads;
    stands = on_board boards k b here s t ready come;
    driver = drives_from boards k b here s t ready come has;
    led_so_far = λ g is some. let none = come.between.none_led in let led = lead.none_led in omega (arith, none, led);
    adopted_stand = λ j d low. let n = each.count in let inside : j < length adopted = omega (arith, low, n) in
        on_board boards k b here (get_or adopted j d) (get_or now j d) (all j d inside) (each.each j d inside);
  }

  pub all_led : All HasNoDriver adopted → All (settling.HasLedAll (layout b)) now
  all_led none j d low = let n = each.count in let inside : j < length adopted = omega (arith, low, n) in
      none_led boards k b here (get_or adopted j d) (get_or now j d) (all j d inside) (each.each j d inside) (none j d inside)

-- all loops before any epoch, and through one more
pub each_none : (boards : List Board) (old : List LoopState) → All (IsReady boards) old → AreEach (HasCome 0) old old
each_none boards old all = record {
  count = refl;
  each = λ j d low. none_passed boards (get_or old j d) (all j d low);
}

pub each_on : (k : ℕ) (old now new : List LoopState) → AreEach (HasCome k) old now → AreEach HasPassed now new → AreEach (HasCome (k + 1)) old new
each_on k old now new a b = let n = a.count in record {
  count = b.count ∙ n;
  each = λ j d low. comes_on k (get_or old j d) (get_or now j d) (get_or new j d) (a.each j d low) (b.each j d (omega (arith, low, n)));
}

pub each_passes : (p : BoardLayout) (t : TableId) (old mid new : List LoopState) → AreEach (HasSettled p t) old mid
    → AreEach HasEntered mid new → AreEach HasPassed old new
each_passes p t old mid new a b = let n = a.count in record {
  count = b.count ∙ n;
  each = λ j d low. passes (get_or old j d) (get_or mid j d) (get_or new j d) (a.each j d low).turned.same (b.each j d (omega (arith, low, n)));
}

-- the loops that have settled are at the end
pub all_at_end : (p : BoardLayout) (t : TableId) (old mid : List LoopState) → All (settling.HasLedAll p) old → AreEach (HasSettled p t) old mid
    → All (λ s. (p : BoardLayout) × (t : TableId) × IsAtEnd p t s) mid
all_at_end p t old mid led a j d low = let n = a.count in let inside : j < length old = omega (arith, low, n) in
    (p, t, (a.each j d inside).end (led j d inside))

-- the seats, one after the other
module _ (boards : List Board) (old : List Known) where
  pub none_led_yet : HaveLed 0 boards old old
  none_led_yet = record {
    count = refl;
    each = λ j b d low. absurd (omega (arith, low));
    left = λ j d past. refl;
  }

  pub led_more : (k : ℕ) (now : List Known) (b : Board) (x : Known) → k < length now → slice_get boards k ≡ Some b
      → HaveLed k boards old now → ((d : Known) → HasLedAll b (get_or old k d) x) → HaveLed (k + 1) boards old (set now k x)
  led_more k now b x low here h new = record {
    count = length-set now k x ∙ h.count;
    each = λ j c d below at. ⊎_elim
        (λ (early : j < k). subst (HasLedAll c (get_or old j d)) (sym (get_or-set_other now k j x d (λ is. omega (arith, is, early)))) (h.each j c d early at))
        (λ (late : k ≤ j). let is : j ≡ k = omega (arith, below, late) in
        let same : b ≡ c = same_Some b c (sym here ∙ (λ i. slice_get boards (sym is i)) ∙ at) in
        subst (λ (y : Board × Known × Known). HasLedAll y.0 y.1 y.2)
        (λ i. (same i, get_or old (sym is i) d, sym (ap (λ m. get_or (set now k x) m d) is ∙ get_or-set_same now k x d low) i)) (new d))
        (cases_lt j k);
    left = λ j d past. get_or-set_other now k j x d (λ is. omega (arith, is, past)) ∙ h.left j d (omega (arith, past));
  }

pub none_looked_yet : (old : List Known) (m : ℕ) → HaveLooked old old m m
none_looked_yet old m = record { later = omega arith; kept = omega arith; most = omega arith; some = λ less. absurd (omega (arith, less)) }

pub looked_more : (old now : List Known) (k : ℕ) (x d : Known) (m n o : ℕ) → k < length now → HaveLooked old now m n
    → HasLooked (get_or now k d) x n o → HaveLooked old (set now k x) m o
looked_more old now k x d m n o low a b = let sums = sum_by-set (λ (s : Known). s.knows.lead.checks) now k x d low in
    let al = a.later in let ak = a.kept in let am = a.most in let bl = b.later in let bk = b.kept in let bm = b.most in record {
      later = omega (arith, al, bl);
      kept = omega (arith, sums, ak, bk);
      most = omega (arith, sums, al, am, bl, bm);
      some = λ less. ⊎_elim
          (λ (early : m < n). let first = a.some early in omega (arith, sums, first, bk))
          (λ (late : n ≤ m). let then = b.some (omega (arith, late, less)) in omega (arith, sums, then, ak))
          (cases_lt m n);
    }
