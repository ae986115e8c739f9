-- From a new seat on, each call that ends leaves its seat between two calls.
use Rattle.std.proofs.Common.{◌≡◌, ◌≢◌, ℕ, zero, suc, ◌+◌, ◌<◌, ◌≤◌, false, List, [], ◌∷◌, length, set, refl, sym}
use Rattle.std.proofs.Common.{ap, ◌∙◌, subst, arith, length-set, get_or-set_other}
use mathlib.Core.Option.{some}
use lib.ListN.{get_elem?}
use Rattle.std.proofs.lemmas.List.{get_or-replicate, length-replicate}
use Rattle.atomic_table.proofs.Lists.{set_else}
use Rattle.board_rule.specs.declared.view.Phase.TheVariants.{Idle, Awake, Running}
use Rattle.board_rule.specs.declared.view.NodeView.{NodeView}
use Rattle.board_rule.specs.declared.view.Trail.{Trail}
use Rattle.board_rule.specs.declared.view.View.{View}
use Rattle.board_rule.specs.Layout.{BoardLayout, IsSound, nodes, first, last}
use Rattle.board_rule.specs.View.{Samples, idle, node_of, view_node, loop_view, driver_view}
use Rattle.board_rule.specs.Steps.{HasNode, Claims, woken, tried, IsReadyToFinish}
use Rattle.board_rule.proofs.start.StartLemmas.{all_same}
use Rattle.activation_words.specs.Calls.{IsAwake, HasStarted, HasRested}
use Rattle.activation_words.specs.Members.{IsResting, IsBetween}
use Rattle.activation_words.proofs.ViewLemmas.{again, has_again}

module _ (p : BoardLayout) where
  pub new_rests : (e : Samples) (k m : ℕ) → m < nodes p → m ≢ p.driver → p.seat_of m ≡ k → k < p.seats → IsResting p (loop_view p e k) m
  new_rests e k m inside follows owned low =
      let at : node_of (loop_view p e k) m ≡ idle (first p) = get_or-replicate (nodes p) m (idle (first p)) (idle 0) inside in record {
        member = (
          record {
            inside = inside;
            follows = follows;
            loops = low;
            owned = owned;
            there = subst (λ j. m < j) (sym (length-replicate (nodes p) (idle (first p)))) inside;
            knows = all_same (nodes p) m (idle (first p)) inside ∙ ap some (sym at);
            owners = refl;
          },
          subst (λ (x : NodeView). (first p ≤ x.next) × (x.next ≤ last p)) (sym at) (omega arith, omega arith),
          inside,
        );
        idle = ap (λ (x : NodeView). x.phase) at;
      }

  pub new_between : (e : Samples) (k : ℕ) → IsSound p → IsBetween p (driver_view p e k)
  new_between e k sound = record { member = ((refl, refl, refl), (omega arith, omega arith), sound.driver_in); between = refl; unchecked = refl }

  -- a try that was too early changes nothing else
  pub tried_rests : (v : View) (m n found : ℕ) → IsResting p v n → IsResting p (tried p v m found) n
  tried_rests v m n found r = let h = r.member.0 in record {
    member = (
      record { inside = h.inside; follows = h.follows; loops = h.loops; owned = h.owned; there = h.there; knows = h.knows; owners = h.owners },
      r.member.1,
      r.member.2,
    );
    idle = r.idle;
  }

  -- what another node does
  pub else_rests : (v : View) (m n : ℕ) (y : NodeView) (t : Trail) → n ≢ m → IsResting p v n → IsResting p (view_node v m y t) n
  else_rests v m n y t o r = let h = r.member.0 in
      let at : node_of (view_node v m y t) n ≡ node_of v n = get_or-set_other v.nodes m n y (idle 0) o in record {
        member = (
          record {
            inside = h.inside;
            follows = h.follows;
            loops = h.loops;
            owned = h.owned;
            there = subst (λ j. n < j) (sym (length-set v.nodes m y)) h.there;
            knows = set_else v.nodes m n y o ∙ h.knows ∙ ap some (sym at);
            owners = h.owners;
          },
          subst (λ (x : NodeView). (first p ≤ x.next) × (x.next ≤ last p)) (sym at) r.member.1,
          r.member.2,
        );
        idle = ap (λ (x : NodeView). x.phase) at ∙ r.idle;
      }

  module _ (v : View) (m : ℕ) where
    -- a follower that waits with cycles left may be claimed
    pub may_claim : IsResting p v m → (node_of v m).next < last p → Claims false p v m
    may_claim r less = let c = r.member.1.0 in ((r.member.0, (c, less), r.member.2), r.idle)

    pub woken_has : HasNode false p v m → HasNode false p (woken false v m) m
    woken_has h = has_again p v m (record (node_of v m) { phase = Awake }) v.trail h refl

    pub woken_awake : HasNode false p v m → IsAwake false (woken false v m) m
    woken_awake h = ap (λ (x : NodeView). x.phase) (again p v m (record (node_of v m) { phase = Awake }) v.trail h.0.there)

    -- where there are no links
    pub started_ready : (w : View) → length p.shape.links ≡ 0 → HasNode false p v m → HasStarted false p v m w → IsReadyToFinish false p w m
    started_ready w bare h s = let y : NodeView = record (node_of v m) { phase = Running; start = s.0 } in
        subst (λ (u : View). IsReadyToFinish false p u m) (sym s.2) (
          has_again p v m y v.trail h refl,
          ap (λ (x : NodeView). x.phase) (again p v m y v.trail h.0.there),
          ((λ l lt _. absurd (omega arith)), (λ l lt _. absurd (omega arith))),
        )

    pub rested_rests : (w : View) → HasNode false p v m → HasRested p v m w → IsResting p w m
    rested_rests w h r = let x : NodeView = node_of v m in
        let y : NodeView = record x { next = x.next + 1; phase = Idle; finish = r.ticket } in
        let t : Trail = record v.trail { told = w.trail.told } in
        let o = h.0 in let at = again p v m y t o.there in
        subst (λ (u : View). IsResting p u m) (sym r.is) record {
          member = (
            record {
              inside = o.inside;
              follows = o.follows;
              loops = o.loops;
              owned = o.owned;
              there = subst (λ k. m < k) (sym (length-set v.nodes m y)) o.there;
              knows = there_set v.nodes m y o.there ∙ ap some (sym at);
              owners = o.owners;
            },
            subst (λ (z : NodeView). (first p ≤ z.next) × (z.next ≤ last p)) (sym at)
                (let a = h.1.0 in let b = h.1.1 in (omega arith, omega arith)),
            h.2,
          );
          idle = ap (λ (z : NodeView). z.phase) at;
        }
      where
        there_set : {A : Type 0} (l : List A) (i : ℕ) (a : A) → i < length l → get_elem? (set l i a) i ≡ some a
        there_set [] i a e = absurd (omega arith)
        there_set (b ∷ l) zero a e = refl
        there_set (b ∷ l) (suc i) a e = there_set l i a (omega arith)
