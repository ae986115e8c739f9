-- The pools of a shape by their ports: each link is of one pool, and each pool has a link.
use Rattle.std.proofs.Common.{◌≡◌, ◌≢◌, ℕ, zero, suc, ◌+◌, ◌-◌, ◌<◌, ◌≤◌, ◌==◌, ◌&&◌, nat_lt, Bool, true, false}
use Rattle.std.proofs.Common.{true≢false, cond, List, [], ◌∷◌, ◌++◌, map, length, get_or, ◌⊎◌, inl, inr, ⊎_elim, refl, sym, ap, ◌∙◌}
use Rattle.std.proofs.Common.{subst, arith, eq-eqb, eqb-true, lt-ltb, ltb-true, length-append}
use Rattle.std.specs.Prelude.{fold, filter, All, Contains}
use Rattle.std.specs.List.{enumerate_from}
use mathlib.Core.Logic.{dite}
use native.Mathlib.Decide.{ℕ_discrete, dec_le}
use Rattle.std.proofs.lemmas.List.Elements.{All-head, All-tail, All-cons, All-filter, All-append, All-contains, Contains-append_left}
use Rattle.std.proofs.lemmas.List.Elements.{Contains-append_right, filter_passes}
use Rattle.pw_graph.specs.declared.ids.PortId.{PortId}
use Rattle.pw_graph.specs.declared.shape.ShapeLink.{ShapeLink}
use Rattle.pw_graph.specs.Pools.{is_same_port, is_before, with_port, link_ids_from}
use Rattle.std.proofs.lemmas.Bool.{and_parts, and_from, or_cases, or_left, or_right}
use Rattle.pw_graph.proofs.PoolLemmas.{port_is, same_port, port_same}
use Rattle.pw_graph.proofs.PrecedenceLemmas.{holds_at}

-- no two elements of a list are the same
abbrev pub Differ : {X : Type 0} → List X → Type 0
Differ [] = Unit {0}
Differ (x ∷ xs) = All (λ y. x ≢ y) xs × Differ xs

module _ {X : Type 0} where
  pub all_map : (P Q : X → Type 0) (xs : List X) → ((x : X) → P x → Q x) → All P xs → All Q xs
  all_map P Q xs more h = λ k d lt. more (get_or xs k d) (h k d lt)

  differ_filter : (test : X → Bool) (xs : List X) → Differ xs → Differ (filter test xs)
  differ_filter test [] h = h
  differ_filter test (x ∷ xs) h = by (test x) (All-filter test (λ y. x ≢ y) xs h.0) (differ_filter test xs h.1)
    where
      by : (b : Bool) → All (λ y. x ≢ y) (filter test xs) → Differ (filter test xs) → Differ (cond b (x ∷ filter test xs) (filter test xs))
      by true a d = (a, d)
      by false a d = d

  differ_append : (xs ys : List X) → Differ xs → Differ ys → All (λ x. All (λ y. x ≢ y) ys) xs → Differ (xs ++ ys)
  differ_append [] ys h g apart = g
  differ_append (x ∷ xs) ys h g apart = (
    All-append (λ y. x ≢ y) xs ys h.0 (All-head (λ z. All (λ y. z ≢ y) ys) x xs apart),
    differ_append xs ys h.1 g (All-tail (λ z. All (λ y. z ≢ y) ys) x xs apart),
  )

  -- so an element has one index
  pub differ_at : (xs : List X) (d : X) (i j : ℕ) → Differ xs → i < length xs → j < length xs → get_or xs i d ≡ get_or xs j d → i ≡ j
  differ_at [] d i j h a b e = absurd (omega arith)
  differ_at (x ∷ xs) d zero zero h a b e = refl
  differ_at (x ∷ xs) d zero (suc j) h a b e = absurd (h.0 j d (omega arith) e)
  differ_at (x ∷ xs) d (suc i) zero h a b e = absurd (h.0 i d (omega arith) (sym e))
  differ_at (x ∷ xs) d (suc i) (suc j) h a b e = ap suc (differ_at xs d i j h.1 (omega arith) (omega arith) e)

-- before, in numbers
abbrev Before : PortId → PortId → Type 0
Before p q = (p.node < q.node) ⊎ ((p.node ≡ q.node) × (p.port < q.port))

before_is : (p q : PortId) → is_before p q ≡ true → Before p q
before_is p q e = ⊎_elim (λ h. inl (ltb-true p.node q.node h))
    (λ h. let b = and_parts (p.node == q.node) (nat_lt p.port q.port) h in inr (eqb-true p.node q.node b.0, ltb-true p.port q.port b.1))
    (or_cases (nat_lt p.node q.node) ((p.node == q.node) && nat_lt p.port q.port) e)

is_lower : (p q : PortId) → Before p q → is_before p q ≡ true
is_lower p q h = ⊎_elim (λ l. or_left (nat_lt p.node q.node) _ (lt-ltb p.node q.node l))
    (λ b. or_right (nat_lt p.node q.node) _ (and_from (p.node == q.node) (nat_lt p.port q.port) (eq-eqb p.node q.node b.0)
    (lt-ltb p.port q.port b.1))) h

one_way : (p q : PortId) → Before p q → Before q p → ⊥
one_way p q h g = ⊎_elim (λ a. ⊎_elim (λ b. absurd (omega arith)) (λ b. absurd (let e = b.0 in omega arith)) g)
    (λ a. ⊎_elim (λ b. absurd (let e = a.0 in omega arith)) (λ b. absurd (let e = a.1 in let f = b.1 in omega arith)) g) h

not_itself : (p q : PortId) → Before p q → p ≢ q
not_itself p q h e = let n : p.node ≡ q.node = ap (λ x. x.node) e in let m : p.port ≡ q.port = ap (λ x. x.port) e in
    ⊎_elim (λ a. absurd (omega arith)) (λ a. absurd (let b = a.1 in omega arith)) h

one_of_three : (q p : PortId) → (Before q p ⊎ Before p q) ⊎ (q ≡ p)
one_of_three q p = dite (ℕ_discrete q.node p.node)
    (λ e. dite (ℕ_discrete q.port p.port) (λ f. inr (port_is q p e f))
    (λ o. inl (dite (dec_le q.port p.port) (λ l. inl (inr (e, omega arith))) (λ l. inr (inr (sym e, omega arith))))))
    (λ o. inl (dite (dec_le q.node p.node) (λ l. inl (inl (omega arith))) (λ l. inr (inl (omega arith)))))

-- the ports with one more
differ_with : (ports : List PortId) (p : PortId) → Differ ports → Differ (with_port ports p)
differ_with ports p h = differ_append (filter (λ q. is_before q p) ports) (p ∷ filter (λ q. is_before p q) ports)
    (differ_filter (λ q. is_before q p) ports h) (
      all_map (λ q. is_before p q ≡ true) (λ q. p ≢ q) (filter (λ q. is_before p q) ports) (λ q e. not_itself p q (before_is p q e))
          (filter_passes (λ q. is_before p q) ports),
      differ_filter (λ q. is_before p q) ports h,
    )
    (all_map (λ q. is_before q p ≡ true) (λ q. All (λ r. q ≢ r) (p ∷ filter (λ r. is_before p r) ports)) (filter (λ q. is_before q p) ports)
    (λ q e. All-cons (λ r. q ≢ r) p (filter (λ r. is_before p r) ports) (not_itself q p (before_is q p e))
    (all_map (λ r. is_before p r ≡ true) (λ r. q ≢ r) (filter (λ r. is_before p r) ports)
    (λ r f z. one_way q p (before_is q p e) (before_is p q (ap (is_before p) z ∙ f))) (filter_passes (λ r. is_before p r) ports)))
    (filter_passes (λ q. is_before q p) ports))

has_new : (ports : List PortId) (p : PortId) → Contains (with_port ports p) p
has_new ports p = Contains-append_right (filter (λ q. is_before q p) ports) (p ∷ filter (λ q. is_before p q) ports) p (0, omega arith, refl)

has_old : (ports : List PortId) (p q : PortId) → Contains ports q → Contains (with_port ports p) q
has_old ports p q c = ⊎_elim (λ o. ⊎_elim
    (λ b. Contains-append_left (filter (λ r. is_before r p) ports) (p ∷ filter (λ r. is_before p r) ports) q
    (holds_at (λ r. is_before r p) ports q c.0 (is_lower q p b) c.1 c.2))
    (λ b. Contains-append_right (filter (λ r. is_before r p) ports) (p ∷ filter (λ r. is_before p r) ports) q
    (Contains-append_right (p ∷ []) (filter (λ r. is_before p r) ports) q
    (holds_at (λ r. is_before p r) ports q c.0 (is_lower p q b) c.1 c.2))) o)
    (λ e. subst (Contains (with_port ports p)) (sym e) (has_new ports p)) (one_of_three q p)

-- all ports of links
abbrev ports_with : List PortId → List ShapeLink → List PortId
ports_with ports links = fold (λ ps l. with_port ps l.from) ports links

pub differ_ports : (ports : List PortId) (links : List ShapeLink) → Differ ports → Differ (ports_with ports links)
differ_ports ports [] h = h
differ_ports ports (l ∷ ls) h = differ_ports (with_port ports l.from) ls (differ_with ports l.from h)

keeps_ports : (ports : List PortId) (links : List ShapeLink) (q : PortId) → Contains ports q → Contains (ports_with ports links) q
keeps_ports ports [] q c = c
keeps_ports ports (l ∷ ls) q c = keeps_ports (with_port ports l.from) ls q (has_old ports l.from q c)

pub has_port : (ports : List PortId) (links : List ShapeLink) (k : ℕ) (d : ShapeLink) → k < length links
    → Contains (ports_with ports links) (get_or links k d).from
has_port ports [] k d h = absurd (omega arith)
has_port ports (l ∷ ls) zero d h = keeps_ports (with_port ports l.from) ls l.from (has_new ports l.from)
has_port ports (l ∷ ls) (suc k) d h = has_port (with_port ports l.from) ls k d (omega arith)

pub all_ports : (P : PortId → Type 0) (ports : List PortId) (links : List ShapeLink) → All P ports → All (λ l. P l.from) links
    → All P (ports_with ports links)
all_ports P ports [] h each = h
all_ports P ports (l ∷ ls) h each = all_ports P (with_port ports l.from) ls
    (All-append P (filter (λ q. is_before q l.from) ports) (l.from ∷ filter (λ q. is_before l.from q) ports)
    (All-filter (λ q. is_before q l.from) P ports h)
    (All-cons P l.from (filter (λ q. is_before l.from q) ports) (All-head (λ m. P m.from) l ls each)
    (All-filter (λ q. is_before l.from q) P ports h))) (All-tail (λ m. P m.from) l ls each)

-- the elements that pass one of two tests that exclude each other
parts_fit : {A : Type 0} (f g : A → Bool) → ((x : A) → f x ≡ true → g x ≡ true → ⊥) → (xs : List A)
    → length (filter f xs) + length (filter g xs) ≤ length xs
parts_fit f g o [] = omega arith
parts_fit f g o (x ∷ xs) = by (f x) (g x) (o x) (parts_fit f g o xs)
  where
    by : (b c : Bool) → (b ≡ true → c ≡ true → ⊥) → length (filter f xs) + length (filter g xs) ≤ length xs
        → length (cond b (x ∷ filter f xs) (filter f xs)) + length (cond c (x ∷ filter g xs) (filter g xs)) ≤ length (x ∷ xs)
    by true true h l = absurd (h refl refl)
    by true false h l = omega arith
    by false true h l = omega arith
    by false false h l = omega arith

-- there are no more ports than links
pub few_ports : (ports : List PortId) (links : List ShapeLink) → length (ports_with ports links) ≤ length ports + length links
few_ports ports [] = omega arith
few_ports ports (l ∷ ls) = let a = few_ports (with_port ports l.from) ls in
    let b = length-append (filter (λ q. is_before q l.from) ports) (l.from ∷ filter (λ q. is_before l.from q) ports) in
    let c = parts_fit (λ q. is_before q l.from) (λ q. is_before l.from q)
    (λ q f g. one_way q l.from (before_is q l.from f) (before_is l.from q g)) ports in omega arith

-- the indexes at which a test passes, counted from n
module _ {X : Type 0} (test : X → Bool) where
  abbrev indexes : ℕ → List X → List ℕ
  indexes n xs = map (λ e. e.0) (filter (λ e. test e.1) (enumerate_from n xs))

  -- one of them: an element passes there
  abbrev Passes : ℕ → List X → ℕ → Type 0
  Passes n xs i = (n ≤ i) × (i - n < length xs) × ((d : X) → test (get_or xs (i - n) d) ≡ true)

  pub indexes_pass : (n : ℕ) (xs : List X) → All (Passes n xs) (indexes n xs)
  indexes_pass n [] = λ k d lt. absurd (omega arith)
  indexes_pass n (x ∷ xs) = by (test x) refl (all_map (Passes (n + 1) xs) (Passes n (x ∷ xs)) (indexes (n + 1) xs) later
      (indexes_pass (n + 1) xs))
    where
      later : (i : ℕ) → Passes (n + 1) xs i → Passes n (x ∷ xs) i
      later i h = let a = h.0 in let b = h.1 in let e : i - n ≡ suc (i - (n + 1)) = omega arith in
          (omega arith, omega arith, (λ d. ap (λ j. test (get_or (x ∷ xs) j d)) e ∙ h.2 d))

      by : (b : Bool) → test x ≡ b → All (Passes n (x ∷ xs)) (indexes (n + 1) xs)
          → All (Passes n (x ∷ xs)) (map (λ e. e.0) (cond b ((n, x) ∷ filter (λ e. test e.1) (enumerate_from (n + 1) xs))
          (filter (λ e. test e.1) (enumerate_from (n + 1) xs))))
      by true t h = All-cons (Passes n (x ∷ xs)) n (indexes (n + 1) xs)
          (omega arith, omega arith, (λ d. let e : n - n ≡ 0 = omega arith in ap (λ j. test (get_or (x ∷ xs) j d)) e ∙ t)) h
      by false t h = h

  pub has_index : (n : ℕ) (xs : List X) (i : ℕ) (d : X) → i < length xs → test (get_or xs i d) ≡ true → Contains (indexes n xs) (n + i)
  has_index n [] i d h t = absurd (omega arith)
  has_index n (x ∷ xs) zero d h t = by (test x) t
    where
      by : (b : Bool) → b ≡ true → Contains (map (λ e. e.0)
          (cond b ((n, x) ∷ filter (λ e. test e.1) (enumerate_from (n + 1) xs)) (filter (λ e. test e.1) (enumerate_from (n + 1) xs))))
          (n + 0)
      by true e = (0, omega arith, omega arith)
      by false e = absurd (true≢false (sym e))
  has_index n (x ∷ xs) (suc i) d h t = let e : (n + 1) + i ≡ n + suc i = omega arith in
      by (test x) (subst (Contains (indexes (n + 1) xs)) e (has_index (n + 1) xs i d (omega arith) t))
    where
      by : (b : Bool) → Contains (indexes (n + 1) xs) (n + suc i)
          → Contains (map (λ e. e.0) (cond b ((n, x) ∷ filter (λ e. test e.1) (enumerate_from (n + 1) xs))
          (filter (λ e. test e.1) (enumerate_from (n + 1) xs)))) (n + suc i)
      by true c = Contains-append_right (n ∷ []) (indexes (n + 1) xs) (n + suc i) c
      by false c = c

  pub differ_indexes : (n : ℕ) (xs : List X) → Differ (indexes n xs)
  differ_indexes n [] = _
  differ_indexes n (x ∷ xs) = by (test x) (all_map (Passes (n + 1) xs) (λ i. n ≢ i) (indexes (n + 1) xs) (λ i h e. let a = h.0 in omega arith)
      (indexes_pass (n + 1) xs)) (differ_indexes (n + 1) xs)
    where
      by : (b : Bool) → All (λ i. n ≢ i) (indexes (n + 1) xs) → Differ (indexes (n + 1) xs)
          → Differ (map (λ e. e.0) (cond b ((n, x) ∷ filter (λ e. test e.1) (enumerate_from (n + 1) xs))
          (filter (λ e. test e.1) (enumerate_from (n + 1) xs))))
      by true a d = (a, d)
      by false a d = d

module _ (links : List ShapeLink) (port : PortId) where
  -- the links of a pool start at its port, and no other link does
  pub id_from : (l : ℕ) (d : ShapeLink) → Contains (link_ids_from links port) l → (l < length links) × ((get_or links l d).from ≡ port)
  id_from l d c = let h = All-contains (Passes (λ k. is_same_port k.from port) 0 links) (link_ids_from links port) l
      (indexes_pass (λ k. is_same_port k.from port) 0 links) c in
      let e : l - 0 ≡ l = omega arith in let in_range = h.1 in
      (omega arith, same_port (get_or links l d).from port (ap (λ i. is_same_port (get_or links i d).from port) (sym e) ∙ h.2 d))

  pub has_id : (l : ℕ) (d : ShapeLink) → l < length links → (get_or links l d).from ≡ port → Contains (link_ids_from links port) l
  has_id l d lt e = let zero_more : 0 + l ≡ l = omega arith in
      subst (Contains (link_ids_from links port)) zero_more
      (has_index (λ k. is_same_port k.from port) 0 links l d lt (port_same (get_or links l d).from port e))

  pub differ_ids : Differ (link_ids_from links port)
  differ_ids = differ_indexes (λ k. is_same_port k.from port) 0 links
