-- A follower that is not idle, and whose work can go on, can take a step.
use Rattle.std.proofs.Common.{◌≡◌, ◌≢◌, ℕ, ◌<◌, inl, true, false, refl, sym, ap, ◌∙◌, subst, arith, length, Option, get_or}
use lib.ListN.{get_elem?}
use mathlib.Core.Option.{some}
use Rattle.atomic_table.specs.Table.{State}
use Rattle.pw_graph.specs.Layout.{event_count, ticket_place}
use Rattle.board_rule.specs.declared.view.View.{View}
use Rattle.board_rule.specs.declared.view.NodeView.{NodeView}
use Rattle.board_rule.specs.declared.view.Phase.{Phase}
use Rattle.board_rule.specs.declared.view.Phase.TheVariants.{Idle, Awake, StartDrawn, Running, Done, FinishDrawn, Telling}
use Rattle.board_rule.specs.Layout.{BoardLayout, nodes}
use Rattle.board_rule.specs.View.{Whole, node_of}
use Rattle.board_rule.specs.Steps.{HasNode, CanTell, Indebted}
use Rattle.board_rule.specs.BoardRule.{Holds}
use Rattle.board_rule.specs.activation.Phases.{PhaseOk}
use Rattle.board_rule.specs.events.EventSteps.{CanDraw, CanStore, held}
use Rattle.board_rule.specs.events.Marks.{phase_started, phase_finished}
use Rattle.board_progress.specs.Moves.{Move}
use Rattle.board_progress.specs.NodeAdvances.{NodeAdvances}
use Rattle.board_progress.specs.NodeAdvances.NodeAdvances.{lowers, triggers, draws_ticket, stores_event}
use Rattle.board_progress.specs.Progress.{IsStaffed, IsUnfinished, BeginsTick, HasWork, SomeWork}
use Rattle.board_progress.specs.Progress.HasWork.{runs}
use Rattle.board_progress.proofs.StaffedLemmas.{SeatOf, seat_of, cycles_left, start_room, finish_room}

module _ (p : BoardLayout) (s : State (Option ℕ) View) (h : Holds p s) (staff : IsStaffed p s.views) (more : IsUnfinished p s.views) where
  abbrev g : Whole
  g = h.whole

  pub node_moves : (id : ℕ) (v : View) (x : Move) → get_elem? s.views id ≡ some v → (a : NodeAdvances p s.words v x) → HasWork p s.words v
      → (BeginsTick p s.words v x a → ⊥) → SomeWork p s
  node_moves id v x at a work quiet = (id, v, x, at, inl a, work, quiet)

  pub has_node : (n : ℕ) (o : SeatOf p s h staff n) → (g.nodes n).next ≡ g.lead.cycle → HasNode false p o.view n
  has_node n o now = let low = h.activations.later in let high = cycles_left p s h staff more in
      let same : (node_of o.view n).next ≡ g.lead.cycle = ap (λ (y : NodeView). y.next) o.same ∙ now in
      (o.has, (omega arith, omega arith), o.has.inside)

  in_phase : (n : ℕ) (o : SeatOf p s h staff n) (f : Phase) → (g.nodes n).phase ≡ f → (node_of o.view n).phase ≡ f
  in_phase n o f is = ap (λ (y : NodeView). y.phase) o.same ∙ is

  goes : (n : ℕ) (o : SeatOf p s h staff n) (f : Phase) → (g.nodes n).phase ≡ f → (f ≡ Idle → ⊥) → (x : Move) (a : NodeAdvances p s.words o.view x)
      → (BeginsTick p s.words o.view x a → ⊥) → SomeWork p s
  goes n o f is busy x a quiet = node_moves o.id o.view x o.at a (runs n o.has (λ e. busy (sym (in_phase n o f is) ∙ e))) quiet

  ok : (n : ℕ) → n < nodes p → n ≢ p.driver → (f : Phase) → (g.nodes n).phase ≡ f → PhaseOk (length (p.targets n)) g.lead.cycle (g.nodes n).next f
  ok n inside follows f is = subst (λ (y : Phase). PhaseOk (length (p.targets n)) g.lead.cycle (g.nodes n).next y) is (h.activations.followers n inside follows)

  module _ (works : (n : ℕ) → n < nodes p → n ≢ p.driver → (g.nodes n).phase ≡ Running → SomeWork p s) where
    pub follower_advances : (n : ℕ) → n < nodes p → n ≢ p.driver → (f : Phase) → (g.nodes n).phase ≡ f → (f ≡ Idle → ⊥) → SomeWork p s
    follower_advances n inside follows Idle is busy = absurd (busy refl)
    follower_advances n inside follows Awake is busy = let o = seat_of p s h staff n inside follows in
        goes n o Awake is busy _ (draws_ticket false n (get_or s.words ticket_place 0)
        (has_node n o (ok n inside follows Awake is), subst CanDraw (sym (in_phase n o Awake is)) tt) refl refl) (λ t. t)
    follower_advances n inside follows StartDrawn is busy = let o = seat_of p s h staff n inside follows in let now = ok n inside follows StartDrawn is in
        goes n o StartDrawn is busy _ (stores_event false n (
          has_node n o now,
          subst CanStore (sym (in_phase n o StartDrawn is)) tt,
          subst (λ (y : NodeView). held y y.phase < event_count p.shape) (sym o.same)
              (subst (λ (y : Phase). held (g.nodes n) y < event_count p.shape) (sym is)
              (start_room p s h staff n inside follows now (ap (λ (y : Phase). phase_started y) is))),
        ) refl) (λ t. t)
    follower_advances n inside follows Running is busy = works n inside follows is
    follower_advances n inside follows Done is busy = let o = seat_of p s h staff n inside follows in
        goes n o Done is busy _ (draws_ticket false n (get_or s.words ticket_place 0)
        (has_node n o (ok n inside follows Done is), subst CanDraw (sym (in_phase n o Done is)) tt) refl refl) (λ t. t)
    follower_advances n inside follows FinishDrawn is busy = let o = seat_of p s h staff n inside follows in let now = ok n inside follows FinishDrawn is in
        goes n o FinishDrawn is busy _ (stores_event false n (
          has_node n o now,
          subst CanStore (sym (in_phase n o FinishDrawn is)) tt,
          subst (λ (y : NodeView). held y y.phase < event_count p.shape) (sym o.same)
              (subst (λ (y : Phase). held (g.nodes n) y < event_count p.shape) (sym is)
              (finish_room p s h staff n inside follows now (ap (λ (y : Phase). phase_finished y) is))),
        ) refl) (λ t. t)
    follower_advances n inside follows (Telling i true) is busy = let o = seat_of p s h staff n inside follows in
        let now = ok n inside follows (Telling i true) is in let low = now.1.0 in let high = now.1.1 in
        goes n o (Telling i true) is busy _ (triggers false n
        (has_node n o now.0, subst (Indebted (length (p.targets n))) (sym (in_phase n o (Telling i true) is)) (low, (omega arith))) refl) (λ t. t)
    follower_advances n inside follows (Telling i false) is busy = let o = seat_of p s h staff n inside follows in
        let now = ok n inside follows (Telling i false) is in
        goes n o (Telling i false) is busy _ (lowers false n _
        (has_node n o now.0, subst (CanTell (length (p.targets n))) (sym (in_phase n o (Telling i false) is)) now.1) refl refl) (λ t. t)
