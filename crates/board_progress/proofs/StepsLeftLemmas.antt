-- Each step of a node lowers what its seat has left.
use Rattle.std.proofs.Common.{◌≡◌, ℕ, suc, ◌+◌, ◌-◌, ◌*◌, ◌<◌, Bool, true, false, cond, eqb, ap, ◌∙◌}
use Rattle.std.proofs.Common.{arith, eq-eqb, ne_eqb, get_or-set_same, get_or-set_other}
use mathlib.Core.Logic.{dite}
use native.Mathlib.Decide.{ℕ_discrete}
use Rattle.board_rule.specs.declared.view.View.{View}
use Rattle.board_rule.specs.declared.view.Trail.{Trail}
use Rattle.board_rule.specs.declared.view.NodeView.{NodeView}
use Rattle.board_rule.specs.declared.view.Phase.TheVariants.{Idle, Awake, Telling}
use Rattle.board_rule.specs.Sums.{total}
use Rattle.board_rule.specs.Layout.{BoardLayout, nodes, last}
use Rattle.board_rule.specs.View.{node_of, view_node, idle}
use Rattle.board_rule.specs.start.Owners.{holder}
use Rattle.board_rule.specs.Steps.{Has, settled}
use Rattle.board_rule.proofs.SumLemmas.{total_change}
use Rattle.board_progress.specs.PhasesLeft.{node_steps, cycles_left}
use Rattle.board_progress.specs.StepsLeft.{follower_left, lead_left, turn_left}
use Rattle.board_progress.specs.BuffersLeft.{steps_left}

-- a cycle's worth of steps
pub one_cycle : (last next k : ℕ) → next < last → (last - next) * k ≡ (last - (next + 1)) * k + k
one_cycle last next k h = let e : last - next ≡ suc (last - (next + 1)) = omega arith in ap (λ d. d * k) e ∙ (grind arith)

module _ (p : BoardLayout) where
  -- one follower of the seat changes
  pub node_falls : (v : View) (m : ℕ) (x : NodeView) (t : Trail) → Has p v m → t.looks ≡ v.trail.looks
      → follower_left p m x < follower_left p m (node_of v m) → steps_left p (view_node v m x t) < steps_left p v
  node_falls v m x t has looks less =
      let f : ℕ → ℕ = λ n. cond (eqb (holder p n) v.number) (follower_left p n (node_of v n)) 0 in
      let g : ℕ → ℕ = λ n. cond (eqb (holder p n) v.number) (follower_left p n (node_of (view_node v m x t) n)) 0 in
      let mine : eqb (holder p m) v.number ≡ true = eq-eqb (holder p m) v.number
      (ap (λ b. cond b p.seats (p.seat_of m)) (ne_eqb m p.driver has.follows) ∙ has.owned) in
      let c = total_change f g m (nodes p) has.inside (λ i o. ap (λ (y : NodeView). cond (eqb (holder p i) v.number) (follower_left p i y) 0)
      (get_or-set_other v.nodes m i x (idle 0) o)) in
      let a : f m ≡ follower_left p m (node_of v m) = ap (λ b. cond b (follower_left p m (node_of v m)) 0) mine in
      let b : g m ≡ follower_left p m x = ap (λ z. cond z (follower_left p m (node_of (view_node v m x t) m)) 0) mine
      ∙ ap (follower_left p m) (get_or-set_same v.nodes m x (idle 0) has.there) in
      let same : turn_left p (view_node v m x t) ≡ turn_left p v = ap (λ z. cond (eqb v.number p.seats) (lead_left p v.lead z) 0) looks in
      let goal : total g (nodes p) < total f (nodes p) = omega arith in omega arith

  -- a follower's phases: each step lowers what is left of its cycles
  pub woken_falls : (t next l : ℕ) → next < l → cycles_left l t next Awake < cycles_left l t next Idle
  woken_falls t next l h = let e = one_cycle l next (node_steps t) h in omega arith

  pub settled_falls : (t i l : ℕ) (x : NodeView) (owes : Bool) → i < t → x.phase ≡ Telling i false
      → cycles_left l t (settled t x (i + 1) owes).next (settled t x (i + 1) owes).phase < cycles_left l t x.next x.phase
  settled_falls t i l x true h is = let e : cycles_left l t x.next x.phase ≡ (l - (x.next + 1)) * node_steps t + 2 * (t - i) =
      ap (cycles_left l t x.next) is in omega arith
  settled_falls t i l x false h is = let e : cycles_left l t x.next x.phase ≡ (l - (x.next + 1)) * node_steps t + 2 * (t - i) =
      ap (cycles_left l t x.next) is in dite (ℕ_discrete (i + 1) t)
      (λ q. let a : settled t x (i + 1) false ≡ (let y : NodeView = record x { next = x.next + 1; phase = Idle } in y) =
      ap (λ b. cond b (record x { next = x.next + 1; phase = Idle }) (record x { phase = Telling (i + 1) false })) (eq-eqb (i + 1) t q) in
      let b : cycles_left l t (settled t x (i + 1) false).next (settled t x (i + 1) false).phase ≡ (l - (x.next + 1)) * node_steps t =
      ap (λ (y : NodeView). cycles_left l t y.next y.phase) a in omega arith)
      (λ q. let a : settled t x (i + 1) false ≡ (let y : NodeView = record x { phase = Telling (i + 1) false } in y) =
      ap (λ b. cond b (record x { next = x.next + 1; phase = Idle }) (record x { phase = Telling (i + 1) false })) (ne_eqb (i + 1) t q) in
      let b : cycles_left l t (settled t x (i + 1) false).next (settled t x (i + 1) false).phase
      ≡ (l - (x.next + 1)) * node_steps t + 2 * (t - (i + 1)) =
      ap (λ (y : NodeView). cycles_left l t y.next y.phase) a in omega arith)
