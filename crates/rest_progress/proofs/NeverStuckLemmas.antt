-- Somebody goes on: what has work is no sleeper's, but for a node that is TRIGGERED, and then its home is called; and who is gone has no work.
use Rattle.std.proofs.Common.{◌≡◌, ◌<◌, ℕ, ◌⊎◌, inl, inr, ⊎_elim, Bool, true, false, Option, Some, None, refl, sym, ap, ◌∙◌, subst}
use mathlib.Core.Option.{some}
use lib.ListN.{get_elem?}
use Rattle.board_rule.specs.declared.board_shape.BoardShape.{BoardShape}
use Rattle.board_rule.specs.declared.view.View.{View}
use Rattle.board_rule.specs.declared.view.NodeView.{NodeView}
use Rattle.board_rule.specs.declared.view.DriverView.{DriverView}
use Rattle.board_rule.specs.Layout.{BoardLayout, layout_of, nodes, last}
use Rattle.board_rule.specs.View.{node_of, idle}
use Rattle.board_rule.specs.BoardRule.{Holds}
use Rattle.board_rule.specs.Steps.{Claims, cycle_of}
use Rattle.board_rule.proofs.buffers.HolderLemmas.{got}
use Rattle.board_rule.proofs.activation.FollowerLemmas.{same_node}
use Rattle.board_progress.specs.Progress.{HasWork, SomeWork, IsStaffed, IsUnfinished}
use Rattle.board_progress.specs.Progress.HasWork.{leads, runs, is_called}
use Rattle.board_progress.proofs.NeverStuckLemmas.{some_work}
use Rattle.board_progress.proofs.StaffedLemmas.{cycles_left}
use Rattle.rest_progress.specs.Sleepers.{Crew, RunState, Sleeps, seat_at}
use Rattle.rest_progress.specs.NodeEnds.{cycle_at, HasCyclesLeft}
use Rattle.rest_progress.specs.RestRuns.{RestRuns, IsFresh}
use Rattle.rest_progress.specs.Heard.{CanGoOn}
use Rattle.rest_progress.specs.Heard.CanGoOn.{advances, pays, wakes}
use Rattle.rest_progress.specs.working.Kept.{IsKept}
use Rattle.rest_progress.proofs.NodeEndLemmas.{busy_now, driver_cycle, follower_cycle, driver_seat, follower_seat, not_both}
use Rattle.rest_progress.proofs.SleeperLemmas.{asleep_or}
use Rattle.rest_progress.proofs.HeardLemmas.{heard}
use Rattle.rest_progress.proofs.ReachedLemmas.{run_reaches}

home_or : (q : Option ℕ) → (q ≡ None) ⊎ ((a : ℕ) × (q ≡ Some a))
home_or None = inl refl
home_or (Some a) = inr (a, refl)

module _ (p : BoardLayout) (crew : Crew) (s : RunState) (h : Holds p s.board) (k : IsKept p crew s) where
  claimed_seat : (b : Bool) (v : View) (m : ℕ) → Claims b p v m → seat_at p m ≡ v.number
  claimed_seat true v m may = driver_seat p m may.0.0.0 ∙ sym may.0.0.1
  claimed_seat false v m may = follower_seat p m may.0.0.follows ∙ may.0.0.owned

  claimed_cycle : (b : Bool) (v : View) (m : ℕ) → Claims b p v m → cycle_at p v m ≡ cycle_of b v m
  claimed_cycle true v m may = driver_cycle p v m may.0.0.0
  claimed_cycle false v m may = follower_cycle p v m may.0.0.follows

  -- the home of a seat that has work is asleep
  sleeper : (i : ℕ) (v : View) (a : ℕ) → get_elem? s.board.views i ≡ some v → crew.home v.number ≡ Some a → Sleeps s a → HasWork p s.board.words v
      → CanGoOn p crew s
  sleeper i v a at mine sleeps (leads number busy) = let d = (k.rests a sleeps).driver (ap crew.home (sym number) ∙ mine) in
      let here = ((h.seated.knows i v at).is_driver number).0 in let there = ((h.seated.knows d.id d.view d.at).is_driver d.number).0 in
      absurd (busy (ap (λ (x : DriverView). x.drive) (here ∙ sym there) ∙ d.waits))
  sleeper i v a at mine sleeps (runs n has busy) = let f = (k.rests a sleeps).followers n has.inside has.follows (ap crew.home has.owned ∙ mine) in
      let there : node_of f.view n ≡ h.whole.nodes n = got f.view.nodes n (h.whole.nodes n) (idle 0)
      ((h.seated.knows f.id f.view f.at).owns n has.inside has.follows (sym f.number)) in
      absurd (busy (ap (λ (x : NodeView). x.phase) (sym (same_node p s.board h i n v at has) ∙ sym there) ∙ f.idle))
  sleeper i v a at mine sleeps (is_called b m may word) =
      ⊎_elim (λ token. wakes a sleeps token) (λ d. pays d.0 a d.1 d.2)
      (heard p crew s h k m a may.0.2 (ap crew.home (claimed_seat b v m may) ∙ mine) sleeps (cycle_of b v m, word))

  module _ (staff : IsStaffed p s.board.views) (more : IsUnfinished p s.board.views) where
    -- a seat that has work has a node with cycles left
    abbrev HasNodeLeft : ℕ → Type 0
    HasNodeLeft number = (n : ℕ) × (n < nodes p) × (seat_at p n ≡ number) × HasCyclesLeft p s.board.views n

    node_left : (i : ℕ) (v : View) → get_elem? s.board.views i ≡ some v → HasWork p s.board.words v → HasNodeLeft v.number
    node_left i v at (leads number busy) = let seat = driver_seat p p.driver refl ∙ sym number in (
      p.driver,
      h.seated.sound.driver_in,
      seat,
      record { id = i; view = v; at = at; number = sym seat; more = subst (λ c. c < last p) (sym (driver_cycle p v p.driver refl)) (more i v at number) },
    )
    node_left i v at (runs n has busy) = let seat = follower_seat p n has.follows ∙ has.owned in
        let same : h.whole.nodes n ≡ node_of v n = same_node p s.board h i n v at has in
        let now = busy_now _ _ _ (h.whole.nodes n).phase (h.activations.followers n has.inside has.follows)
        (λ e. busy (ap (λ (x : NodeView). x.phase) (sym same) ∙ e)) in
        let next : cycle_at p v n ≡ (h.whole.nodes n).next = follower_cycle p v n has.follows ∙ ap (λ (x : NodeView). x.next) (sym same) in
        let low = cycles_left p s.board h staff more in (
          n,
          has.inside,
          seat,
          record { id = i; view = v; at = at; number = sym seat; more = subst (λ c. c < last p) (sym (next ∙ now)) low },
        )
    node_left i v at (is_called b m may word) = let seat = claimed_seat b v m may in (
      m,
      may.0.2,
      seat,
      record { id = i; view = v; at = at; number = sym seat; more = subst (λ c. c < last p) (sym (claimed_cycle b v m may)) may.0.1.1 },
    )

    goes_on : SomeWork p s.board → CanGoOn p crew s
    goes_on w = let v : View = w.1 in let left = node_left w.0 v w.3 w.5 in ⊎_elim
        (λ none. let b = k.manned left.0 left.1 (ap crew.home left.2 ∙ none) left.3 in advances b.0 w.0 v w.2 b.1 (inr none) w.3 w.4 w.5)
        (λ t. ⊎_elim (λ sleeps. sleeper w.0 v t.0 w.3 t.1 sleeps w.5)
        (λ awake. ⊎_elim (λ gone. absurd (not_both p s.board h left.0 left.1 left.3 (k.left left.0 t.0 left.1 (ap crew.home left.2 ∙ t.1) gone)))
        (λ here. advances t.0 w.0 v w.2 (crew.within v.number t.0 t.1, (awake, here)) (inl t.1) w.3 w.4 w.5) (asleep_or (s.sleepers t.0).gone))
        (asleep_or (s.sleepers t.0).asleep))
        (home_or (crew.home v.number))

-- no state is stuck
pub never_stuck : (board_shape : BoardShape) (crew : Crew) (k : ℕ) (s t : RunState) → IsFresh (layout_of board_shape) crew s
    → RestRuns (layout_of board_shape) crew k s t → IsUnfinished (layout_of board_shape) t.board.views → CanGoOn (layout_of board_shape) crew t
never_stuck board_shape crew k s t fresh y more = let r = run_reaches board_shape crew k s t fresh y in
    goes_on (layout_of board_shape) crew t r.rule r.kept r.staffed more (some_work board_shape t.board r.rule r.staffed more)
