-- The view of a loop's seat after a step of its follower m.
use Rattle.std.proofs.Common.{◌≡◌, ◌≢◌, ℕ, ◌<◌, Bool, true, false, List, length, refl, sym, ap, ◌∙◌, subst, length-set, get_or-set_same}
use Rattle.std.proofs.Common.{set-set}
use mathlib.Core.Option.{some}
use lib.Seq.{set-get_or}
use Rattle.board_rule.specs.declared.view.NodeView.{NodeView}
use Rattle.board_rule.specs.declared.view.Trail.{Trail}
use Rattle.board_rule.specs.declared.view.View.{View}
use Rattle.board_rule.specs.Layout.{BoardLayout}
use Rattle.board_rule.specs.View.{idle, node_of, view_node}
use Rattle.board_rule.specs.Steps.{Owns, IsCycle, HasNode}
use Rattle.board_rule.proofs.start.SeatLemmas.{set_there}

-- whose seat it is, by the node
pub follower_leads : (p : BoardLayout) (v : View) (m : ℕ) (b : Bool) → Owns b p v m → m ≢ p.driver → b ≡ false
follower_leads p v m true o h = absurd (h o.0)
follower_leads p v m false o h = refl

pub driver_is_driver : (p : BoardLayout) (v : View) (m : ℕ) (b : Bool) → Owns b p v m → m ≡ p.driver → b ≡ true
driver_is_driver p v m true o h = refl
driver_is_driver p v m false o h = absurd (o.follows h)

module _ (p : BoardLayout) (v : View) (m : ℕ) where
  pub again : (y : NodeView) (t : Trail) → m < length v.nodes → node_of (view_node v m y t) m ≡ y
  again y t h = get_or-set_same v.nodes m y (idle 0) h

  pub twice : (y z : NodeView) (t s : Trail) → view_node (view_node v m y t) m z s ≡ view_node v m z s
  twice y z t s = ap (λ (l : List NodeView). record v { nodes = l; trail = s }) (set-set v.nodes m y z)

  pub same : view_node v m (node_of v m) v.trail ≡ v
  same = ap (λ (l : List NodeView). record v { nodes = l }) (set-get_or v.nodes m (idle 0))

  pub has_again : (y : NodeView) (t : Trail) → HasNode false p v m → y.next ≡ (node_of v m).next → HasNode false p (view_node v m y t) m
  has_again y t h next = let o = h.0 in let e = again y t o.there in (
    record {
      inside = o.inside;
      follows = o.follows;
      loops = o.loops;
      owned = o.owned;
      there = subst (λ k. m < k) (sym (length-set v.nodes m y)) o.there;
      knows = set_there v.nodes m y (node_of v m) o.knows ∙ ap some (sym e);
      owners = o.owners;
    },
    subst (λ (c : ℕ). IsCycle p c) (sym next ∙ sym (ap (λ (z : NodeView). z.next) e)) h.1,
    h.2,
  )
