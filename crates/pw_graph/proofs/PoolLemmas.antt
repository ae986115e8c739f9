-- Laws of `specs/Pools.antt`.
use Rattle.std.proofs.Common.{◌≡◌, ℕ, zero, suc, ◌+◌, ◌<◌, ◌≤◌, ◌==◌, max, Bool, true, false, cond, refl, ◌∙◌, ap, subst, arith}
use Rattle.std.proofs.Common.{append-nil, eq-eqb, eqb-true}
use Rattle.std.proofs.Common.{List, [], ◌∷◌, ◌++◌, map, length, get_or, take}
use Rattle.std.specs.Prelude.{fold, filter, All}
use Rattle.std.specs.List.{enumerate_from}
use Rattle.std.proofs.lemmas.Bool.{and_parts, and_from}
use Rattle.std.proofs.lemmas.List.Elements.{All-head, All-tail, All-filter}
use Rattle.pw_graph.specs.declared.ids.PortId.{PortId}
use Rattle.pw_graph.specs.declared.shape.Shape.{Shape}
use Rattle.pw_graph.specs.Pools.{IsPooledShape, channels_of, is_same_port}

-- ports that are the same are one
pub port_is : (p q : PortId) → p.node ≡ q.node → p.port ≡ q.port → p ≡ q
port_is p q e f = λ i. record { node = e i; port = f i }

pub same_port : (p q : PortId) → is_same_port p q ≡ true → p ≡ q
same_port p q e = let h = and_parts (p.node == q.node) (p.port == q.port) e in
    port_is p q (eqb-true p.node q.node h.0) (eqb-true p.port q.port h.1)

pub port_same : (p q : PortId) → p ≡ q → is_same_port p q ≡ true
port_same p q e =
    and_from (p.node == q.node) (p.port == q.port) (eq-eqb p.node q.node (ap (λ x. x.node) e)) (eq-eqb p.port q.port (ap (λ x. x.port) e))

-- the most is at most what each is
fold_max_le : {X : Type 0} (f : X → ℕ) (m a : ℕ) (xs : List X) → a ≤ m → All (λ x. f x ≤ m) xs → fold (λ top x. max top (f x)) a xs ≤ m
fold_max_le f m a [] low each = low
fold_max_le f m a (x ∷ xs) low each =
    let h : f x ≤ m = All-head (λ y. f y ≤ m) x xs each in
    fold_max_le f m (max a (f x)) xs (omega arith) (All-tail (λ y. f y ≤ m) x xs each)

-- the channels of a port of a pooled shape
pub channels_le : (shape : Shape) (port : PortId) → IsPooledShape shape → channels_of shape port ≤ 8
channels_le shape port h =
    fold_max_le (λ l. l.channels) 8 0 _ (omega arith)
    (All-filter (λ l. is_same_port l.from port) (λ l. l.channels ≤ 8) shape.links (λ k d lt. (h.sound.links.each k d lt).channels.1))

module _ {X : Type 0} (test : X → Bool) where
  abbrev places : ℕ → List X → List ℕ
  places n xs = map (λ e. e.0) (filter (λ e. test e.1) (enumerate_from n xs))

  abbrev firsts : List (ℕ × X) → List ℕ
  firsts es = map (λ e. e.0) es

  at_first : (b : Bool) (n : ℕ) (x : X) → firsts (cond b ((n, x) ∷ []) []) ≡ cond b ((n + 0) ∷ []) []
  at_first true n x = let e : n ≡ n + 0 = omega arith in ap (λ k. k ∷ []) e
  at_first false n x = refl

  at_later : (b : Bool) (n : ℕ) (x : X) (fs gs : List (ℕ × X)) (vs : List ℕ) → firsts fs ≡ firsts gs ++ vs
      → firsts (cond b ((n, x) ∷ fs) fs) ≡ firsts (cond b ((n, x) ∷ gs) gs) ++ vs
  at_later true n x fs gs vs h = ap (λ ks. n ∷ ks) h
  at_later false n x fs gs vs h = h

  places-suc : (n : ℕ) (xs : List X) (i : ℕ) (d : X) → i < length xs
      → places n (take (suc i) xs) ≡ places n (take i xs) ++ cond (test (get_or xs i d)) ((n + i) ∷ []) []
  places-suc n [] i d lt = absurd (omega arith)
  places-suc n (x ∷ xs) zero d lt = at_first (test x) n x
  places-suc n (x ∷ xs) (suc i) d lt =
      let e : (n + 1) + i ≡ n + suc i = omega arith in
      let h : places (n + 1) (take (suc i) xs) ≡ places (n + 1) (take i xs) ++ cond (test (get_or xs i d)) ((n + suc i) ∷ []) [] =
      subst (λ k. places (n + 1) (take (suc i) xs) ≡ places (n + 1) (take i xs) ++ cond (test (get_or xs i d)) (k ∷ []) []) e
      (places-suc (n + 1) xs i d (omega arith)) in
      at_later (test x) n x _ _ _ h

  -- the places at which a test passes, with one more element
  pub places_more : (xs : List X) (i : ℕ) (d : X) → i < length xs
      → map (λ e. e.0) (filter (λ e. test e.1) (enumerate_from 0 (take (i + 1) xs)))
      ≡ map (λ e. e.0) (filter (λ e. test e.1) (enumerate_from 0 (take i xs))) ++ cond (test (get_or xs i d)) (i ∷ []) []
  places_more xs i d lt =
      let e : 0 + i ≡ i = omega arith in let s : suc i ≡ i + 1 = omega arith in
      subst (λ k. places 0 (take k xs) ≡ places 0 (take i xs) ++ cond (test (get_or xs i d)) (i ∷ []) []) s
      (subst (λ k. places 0 (take (suc i) xs) ≡ places 0 (take i xs) ++ cond (test (get_or xs i d)) (k ∷ []) []) e (places-suc 0 xs i d lt))

  pub places_yes : (xs : List X) (i : ℕ) (d : X) → i < length xs → test (get_or xs i d) ≡ true
      → map (λ e. e.0) (filter (λ e. test e.1) (enumerate_from 0 (take (i + 1) xs)))
      ≡ map (λ e. e.0) (filter (λ e. test e.1) (enumerate_from 0 (take i xs))) ++ i ∷ []
  places_yes xs i d lt e = rw e at (places_more xs i d lt)

  pub places_no : (xs : List X) (i : ℕ) (d : X) → i < length xs → test (get_or xs i d) ≡ false
      → map (λ e. e.0) (filter (λ e. test e.1) (enumerate_from 0 (take (i + 1) xs)))
      ≡ map (λ e. e.0) (filter (λ e. test e.1) (enumerate_from 0 (take i xs)))
  places_no xs i d lt e = let h = rw e at (places_more xs i d lt) in h ∙ append-nil _
