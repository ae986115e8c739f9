-- Links that are not delayed have no loop, so the followers of a board have an order.
use Rattle.std.proofs.Common.{◌≡◌, ◌≢◌, ℕ, zero, suc, ◌<◌, ◌==◌, ◌&&◌, ◌||◌, Bool, true, false, true≢false, not, cond, eqb}
use Rattle.std.proofs.Common.{List, [], ◌∷◌, map, get_or, refl, sym, ap, ◌∙◌, subst, arith, ne_eqb, eqb-true}
use Rattle.std.specs.Prelude.{filter, All, Contains}
use mathlib.Core.Logic.{dite}
use native.Mathlib.Decide.{ℕ_discrete}
use Rattle.std.proofs.lemmas.List.{get_or-map}
use Rattle.std.proofs.lemmas.List.Elements.{All-append, All-filter, All-map, All-head, All-tail, All-contains, All-contains_itself, filter_passes}
use Rattle.std.proofs.lemmas.List.Folds.{Any-from_list_any}
use Rattle.pw_graph.specs.declared.shape.Shape.{Shape}
use Rattle.pw_graph.specs.declared.shape.ShapeNode.{ShapeNode}
use Rattle.pw_graph.specs.declared.shape.ShapeLink.{ShapeLink}
use Rattle.pw_graph.specs.Dependencies.{nodes_of, joins, are_linked, waits, targets_of}
use Rattle.pw_graph.specs.LinkOrder.{HasOrder}
use Rattle.pw_graph.specs.SoundShape.{IsSoundShape}
use Rattle.board_rule.specs.declared.board_shape.BoardShape.{BoardShape}
use Rattle.board_rule.specs.Sums.{times}
use Rattle.board_rule.specs.Layout.{BoardLayout, layout_of, index_in, IsSound, nodes}
use Rattle.board_progress.specs.working.Order.{IsOrdered}

-- what holds of all numbers of a list holds of one that is there
pub times_all : (P : ℕ → Type 0) (n : ℕ) (xs : List ℕ) → All P xs → 0 < times n xs → P n
times_all P n [] all h = absurd (omega arith)
times_all P n (x ∷ xs) all h = dite (ℕ_discrete x n)
    (λ e. subst P e (All-head P x xs all))
    (λ o. let none : cond {A = ℕ} (eqb x n) 1 0 ≡ 0 = ap (λ b. cond {A = ℕ} b 1 0) (ne_eqb x n o) in
    times_all P n xs (All-tail P x xs all) (omega arith))

linked_by : (d e l : Bool) → d ≡ false → e ≡ false → (d || (e || l)) ≡ true → l ≡ true
linked_by true e l p q r = absurd (true≢false p)
linked_by false true l p q r = absurd (true≢false q)
linked_by false false l p q r = r

both_by : (a b : Bool) → (not a && b) ≡ true → (a ≡ false) × (b ≡ true)
both_by true b e = absurd (true≢false (sym e))
both_by false b e = (refl, e)

three_by : (a b c : Bool) → (not a && (b && c)) ≡ true → (a ≡ false) × (b ≡ true) × (c ≡ true)
three_by true b c e = absurd (true≢false (sym e))
three_by false true c e = (refl, refl, e)
three_by false false c e = absurd (true≢false (sym e))

-- two nodes that are linked are in order
linked_rises : (shape : Shape) (o : HasOrder shape.links) (m n : ℕ) → are_linked shape m n ≡ true → o.rank m < o.rank n
linked_rises shape o m n is =
    let some = Any-from_list_any (joins m n) shape.links is in let k : ShapeLink = some.1 in
    let there : Contains shape.links k = (some.0, some.2, some.3) in
    let t = three_by k.delayed (k.from.node == m) (k.to.node == n) some.4 in
    let up = All-contains (λ (l : ShapeLink). l.delayed ≡ false → o.rank l.from.node < o.rank l.to.node) shape.links k o.rises there t.0 in
    let a : o.rank k.from.node ≡ o.rank m = ap o.rank (eqb-true k.from.node m t.1) in
    let b : o.rank k.to.node ≡ o.rank n = ap o.rank (eqb-true k.to.node n t.2) in omega arith

abbrev no_node : ShapeNode
no_node = record { node = 0; required = 0; targets = [] }

pub ordered : (board_shape : BoardShape) → IsSoundShape board_shape.shape → IsSound (layout_of board_shape) → IsOrdered (layout_of board_shape)
ordered board_shape s sound = record {
  rank = λ n. o.rank (p.number n);
  rises = λ m n hm hn fm fn h. times_all (λ j. j ≢ p.driver → o.rank (p.number m) < o.rank (p.number j)) n (p.targets m)
      (subst (All (λ j. j ≢ p.driver → o.rank (p.number m) < o.rank (p.number j))) (sym (targets_at m hm))
      (All-map (λ j. j ≢ p.driver → o.rank (p.number m) < o.rank (p.number j)) (index_in shape) (targets_of shape (p.number m))
      (told m hm fm))) h fn;
}
  where
    shape : Shape
    shape = board_shape.shape

    p : BoardLayout
    p = layout_of board_shape

    o : HasOrder shape.links
    o = s.links.order

    targets_at : (m : ℕ) → m < nodes p → p.targets m ≡ map (index_in shape) (targets_of shape (p.number m))
    targets_at m h = get_or-map (λ n. map (index_in shape) n.targets) shape.nodes m no_node [] h
        ∙ ap (map (index_in shape)) ((s.counts m no_node h).1 ∙ ap (targets_of shape)
        (sym (get_or-map (λ n. n.node) shape.nodes m no_node 0 h)))

    told : (m : ℕ) → m < nodes p → m ≢ p.driver → All (λ e. index_in shape e ≢ p.driver
        → o.rank (p.number m) < o.rank (p.number (index_in shape e))) (targets_of shape (p.number m))
    told m hm fm = All-append (λ e. index_in shape e ≢ p.driver → o.rank (p.number m) < o.rank (p.number (index_in shape e)))
        (filter (λ n. not (n == shape.driver) && waits shape n (p.number m)) (nodes_of shape)) (shape.driver ∷ [])
        (λ i d lt other. let pass = filter_passes (λ n. not (n == shape.driver) && waits shape n (p.number m)) (nodes_of shape) i d lt in
        let e : ℕ = get_or (filter (λ n. not (n == shape.driver) && waits shape n (p.number m)) (nodes_of shape)) i d in
        let in_nodes = All-filter (λ n. not (n == shape.driver) && waits shape n (p.number m)) (Contains (nodes_of shape)) (nodes_of shape)
        (All-contains_itself (nodes_of shape)) i d lt in
        let t = both_by (e == shape.driver) (waits shape e (p.number m)) pass in
        let not_first : (p.number m == shape.driver) ≡ false = ne_eqb (p.number m) shape.driver
        (λ z. fm (sym (sound.at m hm) ∙ ap (index_in shape) z)) in
        let linked = linked_by (p.number m == shape.driver) (e == shape.driver) (are_linked shape (p.number m) e) not_first t.0 t.1 in
        let up = linked_rises shape o (p.number m) e linked in
        let same : o.rank (p.number (index_in shape e)) ≡ o.rank e = ap o.rank (sound.known e (sound.named e in_nodes)) in omega arith)
        (only (λ e. index_in shape e ≢ p.driver → o.rank (p.number m) < o.rank (p.number (index_in shape e))) shape.driver
        (λ z. absurd (z refl)))
      where
        only : (P : ℕ → Type 0) (d : ℕ) → P d → All P (d ∷ [])
        only P d h zero e q = h
        only P d h (suc k) e q = absurd (omega arith)
