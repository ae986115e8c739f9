-- A node that works can take a step: on a link into it, on a link from it or its pool, or it stores FINISHED.
use Rattle.std.proofs.Common.{◌≡◌, ◌≢◌, ℕ, ◌+◌, ◌<◌, ◌⊎◌, inl, inr, ⊎_elim, Bool, true, false, refl, sym, ap, ◌∙◌, subst, length, Option}
use mathlib.Core.Logic.{dite}
use mathlib.Core.Option.{some}
use native.Mathlib.Decide.{ℕ_discrete}
use lib.ListN.{get_elem?}
use Rattle.std.proofs.lemmas.Option.{slice_get_within}
use Rattle.atomic_table.specs.Table.{State}
use Rattle.pw_graph.specs.declared.ids.PortId.{PortId}
use Rattle.pw_graph.specs.declared.shape.ShapeLink.{ShapeLink}
use Rattle.board_rule.specs.declared.board_shape.BoardShape.{BoardShape}
use Rattle.board_rule.specs.declared.view.View.{View}
use Rattle.board_rule.specs.declared.view.NodeView.{NodeView}
use Rattle.board_rule.specs.declared.view.DriverView.{DriverView}
use Rattle.board_rule.specs.declared.view.Phase.{Phase}
use Rattle.board_rule.specs.declared.view.Phase.TheVariants.{Running}
use Rattle.board_rule.specs.declared.view.DriverPhase.TheVariants as drives
use Rattle.board_rule.specs.Layout.{BoardLayout, layout_of, nodes}
use Rattle.board_rule.specs.View.{Whole}
use Rattle.board_rule.specs.Steps.{HasNode, IsRunning, cycle_of}
use Rattle.board_rule.specs.BoardRule.{Holds}
use Rattle.board_rule.specs.activation.Phases.{PhaseOk}
use Rattle.board_rule.specs.buffers.EndViews.{link_at, pool_at, pool_of, writer_of, reader_of, filler_of, write_of, read_of}
use Rattle.board_rule.proofs.buffers.WiredLemmas.{Wired, wired}
use Rattle.board_rule.proofs.buffers.HolderLemmas.{link_is, link_there, pool_here}
use Rattle.board_progress.specs.NodeAdvances.NodeAdvances.{finishes}
use Rattle.board_progress.specs.Progress.{IsStaffed, IsUnfinished, CanAdvance, SomeAdvances, SomeWork}
use Rattle.board_progress.specs.Progress.HasWork.{leads, runs}
use Rattle.board_progress.proofs.OrderLemmas.{ordered}
use Rattle.board_progress.proofs.StaffedLemmas.{searched, seat_of, lead_seat}
use Rattle.board_progress.proofs.FollowerAdvancesLemmas.{has_node}
use Rattle.board_progress.proofs.LeadLemmas.{lead_node, lead_advances}
use Rattle.board_progress.proofs.ReadingLemmas.{read_advances}
use Rattle.board_progress.proofs.WritingLemmas.{load_advances, pool_advances}

module _ (p : BoardLayout) (s : State (Option ℕ) View) (h : Holds p s) (staff : IsStaffed p s.views) (more : IsUnfinished p s.views) where
  abbrev g : Whole
  g = h.whole

  w : Wired p
  w = wired p h.seated.sound h.seated.pooled

  -- a number that is a certain one, while another is not
  unless : (a b : ℕ) (x y : ℕ) → ((a ≡ b) × (x ≢ y)) ⊎ ((a ≡ b) × (x ≢ y) → ⊥)
  unless a b x y = dite (ℕ_discrete a b)
      (λ e. dite (ℕ_discrete x y) (λ f. inr (λ t. t.1 f)) (λ f. inl (e, f))) (λ e. inr (λ t. e t.0))

  settled : (a b x y : ℕ) → ((a ≡ b) × (x ≢ y) → ⊥) → a ≡ b → x ≡ y
  settled a b x y none e = dite (ℕ_discrete x y) (λ f. f) (λ f. absurd (none (e, f)))

  module _ (id : ℕ) (v : View) (at : get_elem? s.views id ≡ some v) (m : ℕ) where
    working_advances : (b : Bool) → HasNode b p v m → IsRunning b v m → CanAdvance p s.words v
    working_advances b hn running = ⊎_elim
        (λ t. let e = t.2.0 in read_advances p s h b id v at t.0 t.1 (subst (HasNode b p v) (sym e) hn) (subst (IsRunning b v) (sym e) running)
        (λ z. t.2.1 (z ∙ ap (λ n. cycle_of b v n + 1) e)))
        (λ read. by b hn running (λ l lt e. settled (reader_of p l) m (read_of v l).stored (cycle_of b v m + 1) (read l lt) e))
        (searched (λ l. (reader_of p l ≡ m) × ((read_of v l).stored ≢ cycle_of b v m + 1))
        (λ l. unless (reader_of p l) m (read_of v l).stored (cycle_of b v m + 1)) (length p.shape.links))
      where
        -- all links into it are given back; those from it are loaded, and published
        by : (b : Bool) → HasNode b p v m → IsRunning b v m
            → ((l : ℕ) → l < length p.shape.links → reader_of p l ≡ m → (read_of v l).stored ≡ cycle_of b v m + 1) → CanAdvance p s.words v
        by true hn running read = (
          _,
          inl (finishes true m (
            hn,
            running,
            ((λ l lt e. absurd (w.from_follows l (link_at p l) (link_there p l lt) (e ∙ hn.0.0))), read),
          ) refl),
          λ t. t,
        )
        by false hn running read = ⊎_elim
            (λ t. let e = t.2.0 in load_advances p s h id v at t.0 t.1 (subst (HasNode false p v) (sym e) hn) (subst (IsRunning false v) (sym e) running)
            (λ z. t.2.1 (z ∙ ap (λ n. cycle_of false v n + 1) e)))
            loaded
            (searched (λ l. (writer_of p l ≡ m) × ((write_of v l).loaded ≢ cycle_of false v m + 1))
            (λ l. unless (writer_of p l) m (write_of v l).loaded (cycle_of false v m + 1)) (length p.shape.links))
          where
            loaded : ((l : ℕ) → l < length p.shape.links → (writer_of p l ≡ m) × ((write_of v l).loaded ≢ cycle_of false v m + 1) → ⊥)
                → CanAdvance p s.words v
            loaded none = ⊎_elim unpublished
                (λ said. (
                  _,
                  inl (finishes false m (
                    hn,
                    running,
                    ((λ l lt e. settled (writer_of p l) m (write_of v l).stored (cycle_of false v m + 1) (said l lt) e), read),
                  ) refl),
                  λ t. t,
                ))
                (searched (λ l. (writer_of p l ≡ m) × ((write_of v l).stored ≢ cycle_of false v m + 1))
                (λ l. unless (writer_of p l) m (write_of v l).stored (cycle_of false v m + 1)) (length p.shape.links))
              where
                unpublished : (l : ℕ) × (l < length p.shape.links) × ((writer_of p l ≡ m) × ((write_of v l).stored ≢ cycle_of false v m + 1))
                    → CanAdvance p s.words v
                unpublished t = let l : ℕ = t.0 in let q : ℕ = pool_of p l in
                    let pool = pool_here p w l (link_at p l) (link_there p l t.1) in
                    let fills : filler_of p q ≡ m = pool.2 ∙ t.2.0 in
                    pool_advances p s h id v at q pool.0 (subst (HasNode false p v) (sym fills) hn) (subst (IsRunning false v) (sym fills) running)
                    l pool.1 refl (λ z. t.2.1 (z ∙ ap (λ n. cycle_of false v n + 1) fills))
                    (λ j cj. let k = w.there q j (pool_at p q) pool.0 cj in
                    let from : writer_of p j ≡ m = ap (λ (z : ShapeLink). p.index z.from.node) (link_is p j k.0 k.1)
                    ∙ ap (λ (z : PortId). p.index z.node) k.2 ∙ fills in
                    settled (writer_of p j) m (write_of v j).loaded (cycle_of false v m + 1) (none j (slice_get_within p.shape.links j k.0 k.1)) from
                    ∙ ap (λ n. cycle_of false v n + 1) (sym fills))

  pub follower_works : (n : ℕ) → n < nodes p → n ≢ p.driver → (g.nodes n).phase ≡ Running → SomeWork p s
  follower_works n inside follows is = let o = seat_of p s h staff n inside follows in
      let now = subst (λ (y : Phase). PhaseOk (length (p.targets n)) g.lead.cycle (g.nodes n).next y) is (h.activations.followers n inside follows) in
      let running = ap (λ (y : NodeView). y.phase) o.same ∙ is in
      let a = working_advances o.id o.view o.at n false (has_node p s h staff more n o now) running in
      (o.id, o.view, a.0, o.at, a.1, runs n o.has (λ e. (cc)), a.2)

  pub lead_works : g.lead.drive ≡ drives.Running → SomeWork p s
  lead_works is = let o = lead_seat p s h staff in let running = ap (λ (x : DriverView). x.drive) o.same ∙ is in
      let a = working_advances o.id o.view o.at p.driver true (lead_node p s h staff more) running in
      (o.id, o.view, a.0, o.at, a.1, leads o.number (λ e. (cc)), a.2)

-- some seat has work, and can take an advance; so no state is stuck
pub some_work : (board_shape : BoardShape) (s : State (Option ℕ) View) → Holds (layout_of board_shape) s → IsStaffed (layout_of board_shape) s.views
    → IsUnfinished (layout_of board_shape) s.views → SomeWork (layout_of board_shape) s
some_work board_shape s h staff more = let p : BoardLayout = layout_of board_shape in
    lead_advances p s h staff more (ordered board_shape h.seated.pooled.sound h.seated.sound) (follower_works p s h staff more)
    (lead_works p s h staff more) h.whole.lead.drive refl

pub never_stuck : (board_shape : BoardShape) (s : State (Option ℕ) View) → Holds (layout_of board_shape) s → IsStaffed (layout_of board_shape) s.views
    → IsUnfinished (layout_of board_shape) s.views → SomeAdvances (layout_of board_shape) s
never_stuck board_shape s h staff more = let w = some_work board_shape s h staff more in (w.0, w.1, w.2, w.3, w.4)
