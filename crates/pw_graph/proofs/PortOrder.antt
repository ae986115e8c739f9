-- Laws of `specs/working/PortOrder.antt`.
use Rattle.std.proofs.Common.{◌≡◌, ◌==◌, ◌&&◌, ◌||◌, nat_lt, Bool, true, false, true≢false, cond, List, [], ◌∷◌, ◌++◌}
use Rattle.std.proofs.Common.{◌⊎◌, inl, inr, ⊎_elim, refl, sym, ap, ◌∙◌, subst, arith, eq-eqb, eqb-true, lt-ltb, ltb-true, get_or}
use Rattle.std.specs.Prelude.{filter, All}
use Rattle.std.specs.List.{list_any}
use Rattle.std.proofs.lemmas.Bool.{and_parts, and_from, or_cases, or_left, or_right}
use Rattle.std.proofs.lemmas.List.Elements.{All-head, All-tail, All-cons, All-filter, All-append, filter_passes}
use Rattle.pw_graph.specs.declared.ids.PortId.{PortId}
use Rattle.pw_graph.specs.Pools.{is_same_port, is_before, with_port}
use Rattle.pw_graph.specs.working.PortOrder.{Before, Rise}
use Rattle.pw_graph.proofs.PoolLemmas.{same_port}

pub before_is : (p q : PortId) → is_before p q ≡ true → Before p q
before_is p q e = ⊎_elim (λ h. inl (ltb-true p.node q.node h))
    (λ h. let b = and_parts (p.node == q.node) (nat_lt p.port q.port) h in inr (eqb-true p.node q.node b.0, ltb-true p.port q.port b.1))
    (or_cases (nat_lt p.node q.node) ((p.node == q.node) && nat_lt p.port q.port) e)

pub is_lower : (p q : PortId) → Before p q → is_before p q ≡ true
is_lower p q h = ⊎_elim (λ l. or_left (nat_lt p.node q.node) _ (lt-ltb p.node q.node l))
    (λ b. or_right (nat_lt p.node q.node) _ (and_from (p.node == q.node) (nat_lt p.port q.port) (eq-eqb p.node q.node b.0)
    (lt-ltb p.port q.port b.1))) h

one_way : (p q : PortId) → Before p q → Before q p → ⊥
one_way p q h g = ⊎_elim (λ a. ⊎_elim (λ b. absurd (omega arith)) (λ b. absurd (let e = b.0 in omega arith)) g)
    (λ a. ⊎_elim (λ b. absurd (let e = a.0 in omega arith)) (λ b. absurd (let e = a.1 in let f = b.1 in omega arith)) g) h

onward : (p q r : PortId) → Before p q → Before q r → Before p r
onward p q r h g = ⊎_elim (λ a. ⊎_elim (λ b. inl (omega arith)) (λ b. inl (let e = b.0 in omega arith)) g)
    (λ a. ⊎_elim (λ b. inl (let e = a.0 in omega arith)) (λ b. inr (a.0 ∙ b.0, (let e = a.1 in let f = b.1 in omega arith))) g) h

not_true : (b : Bool) → (b ≡ true → ⊥) → b ≡ false
not_true true h = absurd (h refl)
not_true false h = refl

is_higher : (p q : PortId) → Before p q → is_before q p ≡ false
is_higher p q h = not_true (is_before q p) (λ e. one_way p q h (before_is q p e))

is_itself : (p : PortId) → is_before p p ≡ false
is_itself p = not_true (is_before p p) (λ e. one_way p p (before_is p p e) (before_is p p e))

all_map : {X : Type 0} (P Q : X → Type 0) (xs : List X) → ((x : X) → P x → Q x) → All P xs → All Q xs
all_map P Q xs more h = λ k d lt. more (get_or xs k d) (h k d lt)

rise_filter : (test : PortId → Bool) (ps : List PortId) → Rise ps → Rise (filter test ps)
rise_filter test [] h = h
rise_filter test (p ∷ ps) h = by (test p) (All-filter test (Before p) ps h.0) (rise_filter test ps h.1)
  where
    by : (b : Bool) → All (Before p) (filter test ps) → Rise (filter test ps) → Rise (cond b (p ∷ filter test ps) (filter test ps))
    by true a r = (a, r)
    by false a r = r

rise_append : (ps qs : List PortId) → Rise ps → Rise qs → All (λ p. All (Before p) qs) ps → Rise (ps ++ qs)
rise_append [] qs h g apart = g
rise_append (p ∷ ps) qs h g apart = (
  All-append (Before p) ps qs h.0 (All-head (λ r. All (Before r) qs) p ps apart),
  rise_append ps qs h.1 g (All-tail (λ r. All (Before r) qs) p ps apart),
)

-- with one more they still ascend
pub rise_with : (ports : List PortId) (p : PortId) → Rise ports → Rise (with_port ports p)
rise_with ports p h =
    let low = filter (λ q. is_before q p) ports in let high = filter (λ q. is_before p q) ports in
    let above : All (Before p) high =
    all_map (λ q. is_before p q ≡ true) (Before p) high (λ q e. before_is p q e) (filter_passes (λ q. is_before p q) ports) in
    rise_append low (p ∷ high) (rise_filter (λ q. is_before q p) ports h) (above, rise_filter (λ q. is_before p q) ports h)
    (all_map (λ q. is_before q p ≡ true) (λ q. All (Before q) (p ∷ high)) low
    (λ q e. All-cons (Before q) p high (before_is q p e) (all_map (Before p) (Before q) high (λ r g. onward q p r (before_is q p e) g) above))
    (filter_passes (λ q. is_before q p) ports))

keeps : {X : Type 0} (test : X → Bool) (xs : List X) → All (λ x. test x ≡ true) xs → filter test xs ≡ xs
keeps test [] h = refl
keeps test (x ∷ xs) h = ap (λ b. cond b (x ∷ filter test xs) (filter test xs)) (All-head (λ y. test y ≡ true) x xs h)
    ∙ ap (λ ys. x ∷ ys) (keeps test xs (All-tail (λ y. test y ≡ true) x xs h))

drops : {X : Type 0} (test : X → Bool) (xs : List X) → All (λ x. test x ≡ false) xs → filter test xs ≡ []
drops test [] h = refl
drops test (x ∷ xs) h = ap (λ b. cond b (x ∷ filter test xs) (filter test xs)) (All-head (λ y. test y ≡ false) x xs h)
    ∙ drops test xs (All-tail (λ y. test y ≡ false) x xs h)

found : (P : PortId → Type 0) (p : PortId) (qs : List PortId) → list_any (λ q. is_same_port q p) qs ≡ true → All P qs → P p
found P p [] e all = absurd (true≢false (sym e))
found P p (q ∷ qs) e all = ⊎_elim (λ s. subst P (same_port q p s) (All-head P q qs all)) (λ r. found P p qs r (All-tail P q qs all))
    (or_cases (is_same_port q p) (list_any (λ r. is_same_port r p) qs) e)

-- the first of them stays
first_stays : (p : PortId) (ps : List PortId) → All (Before p) ps → with_port (p ∷ ps) p ≡ p ∷ ps
first_stays p ps h =
    let low = filter (λ q. is_before q p) ps in let high = filter (λ q. is_before p q) ps in
    let e : cond (is_before p p) (p ∷ low) low ≡ [] = ap (λ b. cond b (p ∷ low) low) (is_itself p)
    ∙ drops (λ q. is_before q p) ps (all_map (Before p) (λ q. is_before q p ≡ false) ps (λ q g. is_higher p q g) h) in
    let f : cond (is_before p p) (p ∷ high) high ≡ ps = ap (λ b. cond b (p ∷ high) high) (is_itself p)
    ∙ keeps (λ q. is_before p q) ps (all_map (Before p) (λ q. is_before p q ≡ true) ps (λ q g. is_lower p q g) h) in
    ap (λ xs. xs ++ (p ∷ cond (is_before p p) (p ∷ high) high)) e ∙ ap (λ xs. p ∷ xs) f

later_stays : (q p : PortId) (ps : List PortId) → Before q p → with_port ps p ≡ ps → with_port (q ∷ ps) p ≡ q ∷ ps
later_stays q p ps h e =
    let low = filter (λ r. is_before r p) ps in let high = filter (λ r. is_before p r) ps in
    ap (λ b. cond b (q ∷ low) low ++ (p ∷ cond (is_before p q) (q ∷ high) high)) (is_lower q p h)
    ∙ ap (λ b. (q ∷ low) ++ (p ∷ cond b (q ∷ high) high)) (is_higher q p h) ∙ ap (λ xs. q ∷ xs) e

-- a port that is there is there once
pub port_stays : (ports : List PortId) (p : PortId) → Rise ports → list_any (λ q. is_same_port q p) ports ≡ true → with_port ports p ≡ ports
port_stays [] p h e = absurd (true≢false (sym e))
port_stays (q ∷ qs) p h e =
    ⊎_elim (λ s. let z : q ≡ p = same_port q p s in
    subst (λ r. with_port (r ∷ qs) p ≡ r ∷ qs) (sym z) (first_stays p qs (subst (λ r. All (Before r) qs) z h.0)))
    (λ r. later_stays q p qs (found (Before q) p qs r h.0) (port_stays qs p h.1 r))
    (or_cases (is_same_port q p) (list_any (λ r. is_same_port r p) qs) e)
