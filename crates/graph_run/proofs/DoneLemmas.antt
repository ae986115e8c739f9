-- After the run all loops are done, and each node of the plan is one of some loop.
use Rattle.std.proofs.Common.{◌≡◌, ℕ, ◌+◌, ◌<◌, Bool, List, [], ◌∷◌, ◌++◌, length, get_or, refl, sym, ap, ◌∙◌, subst, arith, ⊎_elim}
use Rattle.std.specs.Prelude.{All, Contains}
use Rattle.std.proofs.lemmas.List.{get_or-map, get_or_default, length-map}
use Rattle.std.proofs.lemmas.List.Elements.{All-append, All-cons, Contains-get_or, Contains-append_left, Contains-append_right}
use Rattle.crew_run.specs.Dealt.{AreDealt}
use Rattle.crew_run.proofs.DealtLemmas.{dealt_count, held_all, backs_all, dealt_at}
use Rattle.board_rule.specs.declared.board.Board.{Board}
use Rattle.node_progress.specs.declared.run_model.RunModel.{RunModel}
use Rattle.data_loop.specs.declared.loop_state.LoopState.{LoopState}
use Rattle.driver_cycle.specs.Settling.{AreEach}
use Rattle.graph_run.specs.declared.crew.LeadEnd.{LeadEnd}
use Rattle.graph_run.specs.declared.crew.LeadStart.{LeadStart}
use Rattle.graph_run.specs.declared.shared.LoopWay.{LoopWay}
use Rattle.graph_run.specs.declared.shared.Shared.{Shared}
use Rattle.graph_run.specs.LoopsOnPlan.{IsReady, HasCome}
use Rattle.graph_run.specs.Outcomes.{HasNodeAt, AreDone}
use Rattle.graph_run.specs.Threads.{CanRun, CanStart, HasRun, IsDoneWith}
use Rattle.graph_run.specs.working.Crew.{CanLead, HasLedRun, states_of}
use Rattle.graph_run.proofs.EpochLemmas.{there}
use Rattle.graph_run.proofs.ThreadLemmas.{done_with}

-- a loop of the list has each of its nodes
has_node : (done : List LoopState) (s : LoopState) (n : ℕ) → Contains done s → Contains s.nodes n → (i : ℕ) × HasNodeAt done n i
has_node done s n c own = (
  c.0,
  (c.1, λ d. subst (λ (x : LoopState). Contains x.nodes n) (sym (get_or_default done c.0 d s c.1 ∙ c.2)) own),
)

-- those that are held may run
pub states_can : (shared : Shared) (held : List LoopWay) → All (CanStart shared) held → All (CanRun shared) (states_of held)
states_can shared held can k d low = let a = length-map held (λ (x : LoopWay). x.state) in let inside : k < length held = omega (arith, low, a) in
    let x : LoopWay = (there held k inside).0 in
    subst (CanRun shared) (sym (get_or-map (λ (x : LoopWay). x.state) held k x d inside)) (can k x inside).can_run

-- ALL LOOPS in the end
module _ (shared : Shared) (l : LeadStart) (loops held : List LoopWay) (kept : List Bool) (backs : List LoopState) (h : LeadEnd) (m n : ℕ)
    (can : CanLead shared l loops) (led : HasLedRun shared l held h m n)
    (dealt : AreDealt (λ (x : LoopWay) (s : LoopState). HasRun x.state s) loops kept held backs) where
  -- there is room for all of them
  pub room_for_all : length h.led.adopted + length backs < l.done.spare
  room_for_all = let n = dealt_count (λ (x : LoopWay) (s : LoopState). HasRun x.state s) loops kept held backs dealt in
      let a = led.adopted.count in let b = length-map held (λ (x : LoopWay). x.state) in let room = can.done in
      omega (arith, n, a, b, room)

  all_done : All (IsDoneWith shared) ((h.led.own ∷ h.led.adopted) ++ backs)
  all_done = All-append (IsDoneWith shared) (h.led.own ∷ h.led.adopted) backs
      (All-cons (IsDoneWith shared) h.led.own h.led.adopted
      (done_with shared l.driving.own h.led.own can.can_drive.plan_is can.can_drive.waves_are led.own)
      (λ k d low. let count = led.adopted.count in let inside : k < length (states_of held) = omega (arith, low, count) in
      let was = states_can shared held (held_all (λ (x : LoopWay) (s : LoopState). HasRun x.state s) (CanStart shared) loops kept held backs dealt can.can_start) k d inside in
      done_with shared (get_or (states_of held) k d) (get_or h.led.adopted k d) was.plan_is was.waves_are (led.adopted.each k d inside)))
      (backs_all (λ (x : LoopWay) (s : LoopState). HasRun x.state s) (CanStart shared) (IsDoneWith shared)
      (λ x s start ran. done_with shared x.state s start.can_run.plan_is start.can_run.waves_are ran) loops kept held backs dealt can.can_start)

  -- the nodes of a loop that is held are those of an adopted one
  of_held : (x : LoopWay) (k : ℕ) → Contains held x → Contains x.state.nodes k → (i : ℕ) × HasNodeAt ((h.led.own ∷ h.led.adopted) ++ backs) k i
  of_held x k c own = let a = length-map held (λ (y : LoopWay). y.state) in let inside = c.1 in
      let low : c.0 < length (states_of held) = omega (arith, inside, a) in let count = led.adopted.count in
      let ran = led.adopted.each c.0 x.state low in let t : LoopState = get_or h.led.adopted c.0 x.state in
      let was : get_or (states_of held) c.0 x.state ≡ x.state = get_or-map (λ (y : LoopWay). y.state) held c.0 x x.state inside ∙ ap (λ (y : LoopWay). y.state) c.2 in
      has_node ((h.led.own ∷ h.led.adopted) ++ backs) t k
      (Contains-append_left (h.led.own ∷ h.led.adopted) backs t
      (Contains-append_right (h.led.own ∷ []) h.led.adopted t (Contains-get_or h.led.adopted c.0 x.state (omega (arith, low, count)))))
      (subst (λ (ns : List ℕ). Contains ns k) (sym (ran.same.nodes ∙ ap (λ (s : LoopState). s.nodes) was)) own)

  pub are_done : (done : List LoopState) → done ≡ (h.led.own ∷ h.led.adopted) ++ backs
      → AreDone shared.run_model.plan.value shared.run_model.waves.value done
  are_done done is = subst (AreDone shared.run_model.plan.value shared.run_model.waves.value) (sym is) record {
    each = all_done;
    nodes = λ k low. ⊎_elim
        (λ c. has_node ((h.led.own ∷ h.led.adopted) ++ backs) h.led.own k
        (Contains-append_left (h.led.own ∷ h.led.adopted) backs h.led.own
        (Contains-append_left (h.led.own ∷ []) h.led.adopted h.led.own (0, omega arith, refl)))
        (subst (λ (ns : List ℕ). Contains ns k) (sym led.own.same.nodes) c))
        (λ c. let x : LoopWay = (there loops c.0 c.1).0 in ⊎_elim
        (λ (a : Contains held (get_or loops c.0 x)). of_held (get_or loops c.0 x) k a (c.2 x))
        (λ (a : (b : LoopState) × HasRun (get_or loops c.0 x).state b × Contains backs b).
        has_node ((h.led.own ∷ h.led.adopted) ++ backs) a.0 k (Contains-append_right (h.led.own ∷ h.led.adopted) backs a.0 a.2)
        (subst (λ (ns : List ℕ). Contains ns k) (sym a.1.same.nodes) (c.2 x)))
        (dealt_at (λ (y : LoopWay) (s : LoopState). HasRun y.state s) loops kept held backs dealt c.0 x c.1))
        (can.nodes k low);
  }

-- a loop that went through all epochs is done
pub came : (boards : List Board) (s t : LoopState) → IsReady boards s → HasCome (length boards) s t → HasRun s t
came boards s t ready come = record {
  done = (come.between, come.epoch ∙ (ready.boards_are.count ∙ ap (λ (x : RunModel). length x.plan.value.epochs) (sym come.run_model)));
  same = record { run_model = come.run_model; nodes = come.nodes };
}

pub each_came : (shared : Shared) (old new : List LoopState) → All (CanRun shared) old → AreEach (HasCome (length shared.boards)) old new
    → AreEach HasRun old new
each_came shared old new can h = record {
  count = h.count;
  each = λ k d low. came shared.boards (get_or old k d) (get_or new k d) (can k d low).ready (h.each k d low);
}
