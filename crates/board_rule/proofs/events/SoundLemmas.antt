-- A sound shape has a sound layout: required counts are sums over the targets, by indexes.
use Rattle.std.proofs.Common.{◌≡◌, ◌≢◌, ℕ, zero, suc, ◌+◌, ◌<◌, ◌≤◌, ◌==◌, ◌&&◌, ◌||◌, Bool, true, false, true≢false}
use Rattle.std.proofs.Common.{not, cond, eqb, List, [], ◌∷◌, ◌++◌, map, drop, length, get_or, refl, sym, ap, ◌∙◌, subst, arith, eq-eqb}
use Rattle.std.proofs.Common.{ne_eqb, eqb-true}
use Rattle.std.specs.Prelude.{filter, All, Contains}
use Rattle.std.specs.List.Sorted.{IsStrictlyIncreasing}
use mathlib.Core.Logic.{dite}
use native.Mathlib.Decide.{ℕ_discrete}
use Rattle.std.proofs.lemmas.Bool.{or_left, or_right}
use Rattle.std.proofs.lemmas.List.{get_or-map, get_or_default, map-append, length-map}
use Rattle.std.proofs.lemmas.List.Sums.{position_or_len_is, passes_at_first}
use Rattle.std.proofs.lemmas.List.Elements.{All-append, All-filter, All-map}
use Rattle.pw_graph.specs.declared.shape.Shape.{Shape}
use Rattle.pw_graph.specs.declared.shape.ShapeNode.{ShapeNode}
use Rattle.pw_graph.specs.Dependencies.{nodes_of, are_linked, waits, required_of, targets_of}
use Rattle.pw_graph.specs.Layout.{node_count}
use Rattle.pw_graph.specs.SoundShape.{IsSoundShape, IsCounted}
use Rattle.board_rule.specs.declared.board_shape.BoardShape.{BoardShape}
use Rattle.board_rule.specs.Sums.{total, times}
use Rattle.board_rule.specs.Layout.{layout_of, index_in, target_rows, required_row, HasSeats, IsSound}
use Rattle.board_rule.proofs.SumLemmas.{total_same, total_at, times_here}

-- strictly increasing numbers: a later one is greater
pub rises : (xs : List ℕ) → IsStrictlyIncreasing xs → (k i : ℕ) → k < i → i < length xs → get_or xs k 0 < get_or xs i 0
rises xs up k zero h l = absurd (omega arith)
rises xs up k (suc i) h l = let one : i + 1 ≡ suc i = omega arith in
    let s : get_or xs i 0 < get_or xs (suc i) 0 = subst (λ j. get_or xs i 0 < get_or xs j 0) one (up i (omega arith)) in
    dite (ℕ_discrete k i) (λ q. subst (λ j. get_or xs j 0 < get_or xs (suc i) 0) (sym q) s)
    (λ q. let b = rises xs up k i (omega arith) (omega arith) in omega arith)

-- the sum over a list, by indexes, is the length of what passes
total_shift : (f : ℕ → ℕ) (k : ℕ) → total f (suc k) ≡ f 0 + total (λ i. f (suc i)) k
total_shift f zero = omega arith
total_shift f (suc k) = let a = total_shift f k in omega arith

passing : (w : ℕ → Bool) (xs : List ℕ) → total (λ m. cond (w (get_or xs m 0)) 1 0) (length xs) ≡ length (filter w xs)
passing w [] = refl
passing w (x ∷ xs) = let a = passing w xs in let s = total_shift (λ m. cond (w (get_or (x ∷ xs) m 0)) 1 0) (length xs) in
    by (w x) (filter w xs) (s ∙ ap (λ k. cond (w x) 1 0 + k) a)
  where
    by : (b : Bool) (ys : List ℕ) {t : ℕ} → t ≡ cond b 1 0 + length ys → t ≡ length (cond b (x ∷ ys) ys)
    by true ys e = e ∙ (omega arith)
    by false ys e = e ∙ (omega arith)

times_by : (b : Bool) (n : ℕ) (x : ℕ) (xs : List ℕ) → times n (cond b (x ∷ xs) xs) ≡ cond b (cond (eqb x n) 1 0) 0 + times n xs
times_by true n x xs = refl
times_by false n x xs = omega arith

map_by : (pl : ℕ → ℕ) (b : Bool) (x : ℕ) (xs : List ℕ) → map pl (cond b (x ∷ xs) xs) ≡ cond b (pl x ∷ map pl xs) (map pl xs)
map_by pl true x xs = refl
map_by pl false x xs = refl

times_append : (n : ℕ) (xs ys : List ℕ) → times n (xs ++ ys) ≡ times n xs + times n ys
times_append n [] ys = omega arith
times_append n (x ∷ xs) ys = let a = times_append n xs ys in omega arith

module _ (pl : ℕ → ℕ) (f : ℕ → Bool) (j : ℕ) where
  -- how often an index is among those of the elements that pass: no element has it, or one has
  times_absent : (xs : List ℕ) → ((k : ℕ) → k < length xs → pl (get_or xs k 0) ≢ j) → times j (map pl (filter f xs)) ≡ 0
  times_absent [] o = refl
  times_absent (x ∷ xs) o = let a = times_absent xs (λ k h. o (suc k) (omega arith)) in ap (times j) (map_by pl (f x) x (filter f xs))
      ∙ times_by (f x) j (pl x) (map pl (filter f xs)) ∙ by (f x) a
    where
      by : (b : Bool) {t : ℕ} → t ≡ 0 → cond b (cond (eqb (pl x) j) 1 0) 0 + t ≡ 0
      by true e = let z : cond {A = ℕ} (eqb (pl x) j) 1 0 ≡ 0 = ap (λ b. cond {A = ℕ} b 1 0) (ne_eqb (pl x) j (o 0 (omega arith))) in
          omega arith
      by false e = omega arith

  times_present : (xs : List ℕ) (i : ℕ) → i < length xs → pl (get_or xs i 0) ≡ j
      → ((k : ℕ) → k < length xs → k ≢ i → pl (get_or xs k 0) ≢ j) → times j (map pl (filter f xs)) ≡ cond (f (get_or xs i 0)) 1 0
  times_present [] i h e o = absurd (omega arith)
  times_present (x ∷ xs) zero h e o = let a = times_absent xs (λ k l. o (suc k) (omega arith) (λ z. omega arith)) in
      ap (times j) (map_by pl (f x) x (filter f xs)) ∙ times_by (f x) j (pl x) (map pl (filter f xs)) ∙ by (f x) a
    where
      by : (b : Bool) {t : ℕ} → t ≡ 0 → cond b (cond (eqb (pl x) j) 1 0) 0 + t ≡ cond b 1 0
      by true z = let y : cond {A = ℕ} (eqb (pl x) j) 1 0 ≡ 1 = ap (λ b. cond {A = ℕ} b 1 0) (eq-eqb (pl x) j e) in omega arith
      by false z = omega arith
  times_present (x ∷ xs) (suc i) h e o = let a = times_present xs i (omega arith) e
      (λ k l q. o (suc k) (omega arith) (λ z. q (omega arith))) in ap (times j) (map_by pl (f x) x (filter f xs))
      ∙ times_by (f x) j (pl x) (map pl (filter f xs)) ∙ by (f x) a
    where
      by : (b : Bool) {t : ℕ} → t ≡ cond (f (get_or xs i 0)) 1 0 → cond b (cond (eqb (pl x) j) 1 0) 0 + t ≡ cond (f (get_or xs i 0)) 1 0
      by true z = let y : cond {A = ℕ} (eqb (pl x) j) 1 0 ≡ 0 =
          ap (λ b. cond {A = ℕ} b 1 0) (ne_eqb (pl x) j (o 0 (omega arith) (λ z. omega arith))) in omega arith
      by false z = omega arith

-- the last element of a list is in each end of it
last_stands : (d i : ℕ) (xs : List ℕ) → i < length (xs ++ d ∷ []) → 0 < times d (drop i (xs ++ d ∷ []))
last_stands d zero [] h = let a = times_here d [] in omega arith
last_stands d (suc i) [] h = absurd (omega arith)
last_stands d zero (x ∷ xs) h = let a = last_stands d zero xs (more xs) in let b = above (eqb x d) in omega arith
  where
    more : (ys : List ℕ) → 0 < length (ys ++ d ∷ [])
    more [] = omega arith
    more (y ∷ ys) = omega arith

    above : (b : Bool) → times d (xs ++ d ∷ []) ≤ cond b 1 0 + times d (xs ++ d ∷ [])
    above true = omega arith
    above false = omega arith
last_stands d (suc i) (x ∷ xs) h = last_stands d i xs (omega arith)

both_tests : (b w : Bool) → b ≡ false → (not b && w) ≡ w
both_tests true w e = absurd (true≢false e)
both_tests false w e = refl

drop_tests : (b w : Bool) → b ≡ true → (not b && w) ≡ false
drop_tests true w e = refl
drop_tests false w e = absurd (true≢false (sym e))

abbrev no_node : ShapeNode
no_node = record { node = 0; required = 0; targets = [] }

module _ (shape : Shape) (s : IsSoundShape shape) where
  abbrev ns : List ℕ
  ns = nodes_of shape

  abbrev index : ℕ → ℕ
  index = index_in shape

  long : length ns ≡ node_count shape
  long = length-map shape.nodes (λ n. n.node)

  pub index_at : (i : ℕ) → i < node_count shape → index (get_or ns i 0) ≡ i
  index_at i h = let l = long in position_or_len_is (λ k. k == get_or ns i 0) ns i 0 (omega arith)
      (λ k q. ne_eqb (get_or ns k 0) (get_or ns i 0) (λ e. let r = rises ns s.nodes.ascend k i q (omega arith) in omega arith))
      (λ _. eq-eqb (get_or ns i 0) (get_or ns i 0) refl)

  -- a node that is there has the number that is at its index
  pub at_index : (n : ℕ) → index n < node_count shape → get_or ns (index n) 0 ≡ n
  at_index n h = let l = long in eqb-true (get_or ns (index n) 0) n (passes_at_first (λ k. k == n) ns 0 (omega arith))

  contained : (n : ℕ) → Contains ns n → (index n < node_count shape) × (get_or ns (index n) 0 ≡ n)
  contained n c = let l = long in let h = c.1 in let e : get_or ns c.0 0 ≡ n = get_or_default ns c.0 0 n h ∙ c.2 in
      let p : index n ≡ c.0 = ap index (sym e) ∙ index_at c.0 (omega arith) in (omega arith, at_index n (omega arith))

  driver_in : index shape.driver < node_count shape
  driver_in = (contained shape.driver s.nodes.driver).0

  -- the node at an index
  node_at : (i : ℕ) → i < node_count shape → (get_or shape.nodes i no_node).node ≡ get_or ns i 0
  node_at i h = sym (get_or-map (λ n. n.node) shape.nodes i no_node 0 h)

  counted : (i : ℕ) → i < node_count shape → IsCounted shape (get_or shape.nodes i no_node)
  counted i h = s.counts i no_node h

  targets_at : (m : ℕ) → m < node_count shape → get_or (target_rows shape) m [] ≡ map index (targets_of shape (get_or ns m 0))
  targets_at m h = get_or-map (λ n. map index n.targets) shape.nodes m no_node [] h
      ∙ ap (map index) ((counted m h).1 ∙ ap (targets_of shape) (node_at m h))

  required_at : (n : ℕ) → n < node_count shape → get_or (required_row shape) n 0 ≡ required_of shape (get_or ns n 0)
  required_at n h = get_or-map (λ n. n.required) shape.nodes n no_node 0 h ∙ (counted n h).0 ∙ ap (required_of shape) (node_at n h)

  abbrev followers_of : ℕ → List ℕ
  followers_of m = filter (λ n. not (n == shape.driver) && waits shape n m) ns

  targets_split : (m : ℕ) → m < node_count shape → get_or (target_rows shape) m []
      ≡ map index (followers_of (get_or ns m 0)) ++ index shape.driver ∷ []
  targets_split m h = targets_at m h ∙ map-append index (followers_of (get_or ns m 0)) (shape.driver ∷ [])

  -- each node is told once by those that it depends on
  told : (j m : ℕ) → j < node_count shape → m < node_count shape
      → times j (get_or (target_rows shape) m []) ≡ cond {A = ℕ} (waits shape (get_or ns j 0) (get_or ns m 0)) 1 0
  told j m hj hm =
      let l = long in let x : ℕ = get_or ns j 0 in let y : ℕ = get_or ns m 0 in let d : ℕ = index shape.driver in
      let a = times_present index (λ n. not (n == shape.driver) && waits shape n y) j ns j (omega arith) (index_at j hj)
      (λ k h o e. o (sym (index_at k (omega arith)) ∙ e)) in
      let b = times_append j (map index (followers_of y)) (d ∷ []) in
      let c : times j (get_or (target_rows shape) m []) ≡ times j (map index (followers_of y) ++ d ∷ []) =
      ap (times j) (targets_split m hm) in
      dite (ℕ_discrete x shape.driver)
      (λ q. let same : d ≡ j = ap index (sym q) ∙ index_at j hj in
      let t : cond {A = ℕ} (eqb d j) 1 0 ≡ 1 = ap (λ b. cond {A = ℕ} b 1 0) (eq-eqb d j same) in
      let n : cond {A = ℕ} (not (x == shape.driver) && waits shape x y) 1 0 ≡ 0 =
      ap (λ b. cond {A = ℕ} b 1 0) (drop_tests (x == shape.driver) (waits shape x y) (eq-eqb x shape.driver q)) in
      let w : cond {A = ℕ} (waits shape x y) 1 0 ≡ 1 =
      ap (λ b. cond {A = ℕ} b 1 0) (or_right (y == shape.driver) _
      (or_left (x == shape.driver) (are_linked shape y x) (eq-eqb x shape.driver q))) in omega arith)
      (λ q. let other : d ≢ j = λ e. q (sym (ap (λ k. get_or ns k 0) e) ∙ at_index shape.driver driver_in) in
      let t : cond {A = ℕ} (eqb d j) 1 0 ≡ 0 = ap (λ b. cond {A = ℕ} b 1 0) (ne_eqb d j other) in
      let n : cond {A = ℕ} (not (x == shape.driver) && waits shape x y) 1 0 ≡ cond {A = ℕ} (waits shape x y) 1 0 =
      ap (λ b. cond {A = ℕ} b 1 0) (both_tests (x == shape.driver) (waits shape x y) (ne_eqb x shape.driver q)) in omega arith)

  required_is : (n : ℕ) → n < node_count shape → get_or (required_row shape) n 0
      ≡ total (λ m. times n (get_or (target_rows shape) m [])) (node_count shape)
  required_is n h = let l = long in required_at n h ∙ sym (passing (waits shape (get_or ns n 0)) ns)
      ∙ ap (total (λ m. cond (waits shape (get_or ns n 0) (get_or ns m 0)) 1 0)) l
      ∙ total_same (λ m. times n (get_or (target_rows shape) m [])) (λ m. cond (waits shape (get_or ns n 0) (get_or ns m 0)) 1 0)
      (node_count shape) (λ m q. sym (told n m h q))

  required_some : (n : ℕ) → n < node_count shape → 0 < get_or (required_row shape) n 0
  required_some n h = let d : ℕ = index shape.driver in let a = required_is n h in
      let b = total_at (λ m. times n (get_or (target_rows shape) m [])) d (node_count shape) driver_in in
      let c : times n (get_or (target_rows shape) d []) ≡ 1 = told n d h driver_in
      ∙ ap (λ b. cond {A = ℕ} b 1 0) (or_left (get_or ns d 0 == shape.driver)
      (get_or ns n 0 == shape.driver || are_linked shape (get_or ns d 0) (get_or ns n 0))
      (eq-eqb (get_or ns d 0) shape.driver (at_index shape.driver driver_in))) in omega arith

  targets_in : (m i : ℕ) → m < node_count shape → i < length (get_or (target_rows shape) m [])
      → get_or (get_or (target_rows shape) m []) i 0 < node_count shape
  targets_in m i hm h = let y : ℕ = get_or ns m 0 in
      let there : All (λ n. index n < node_count shape) ns = λ k d q. let e = get_or_default ns k d 0 q in let l = long in
      subst (λ n. index n < node_count shape) (sym e) (let p = index_at k (omega arith) in omega arith) in
      let all : All (λ k. k < node_count shape) (map index (targets_of shape y)) =
      All-map (λ k. k < node_count shape) index (targets_of shape y)
      (All-append (λ n. index n < node_count shape) (followers_of y) (shape.driver ∷ [])
      (All-filter (λ n. not (n == shape.driver) && waits shape n y) (λ n. index n < node_count shape) ns there)
      (only (λ n. index n < node_count shape) shape.driver driver_in)) in
      subst (λ (ts : List ℕ). i < length ts → get_or ts i 0 < node_count shape) (sym (targets_at m hm)) (λ q. all i 0 q) h
    where
      only : (P : ℕ → Type 0) (d : ℕ) → P d → All P (d ∷ [])
      only P d h zero e q = h
      only P d h (suc k) e q = absurd (omega arith)

  tells_driver : (m i : ℕ) → m < node_count shape → i < length (get_or (target_rows shape) m [])
      → 0 < times (index shape.driver) (drop i (get_or (target_rows shape) m []))
  tells_driver m i hm h = subst (λ (ts : List ℕ). i < length ts → 0 < times (index shape.driver) (drop i ts)) (sym (targets_split m hm))
      (λ q. last_stands (index shape.driver) i (map index (followers_of (get_or ns m 0))) q) h

  tells : (m : ℕ) → m < node_count shape → 0 < length (get_or (target_rows shape) m [])
  tells m hm = subst (λ (ts : List ℕ). 0 < length ts) (sym (targets_split m hm)) (more (map index (followers_of (get_or ns m 0))))
    where
      more : (ys : List ℕ) → 0 < length (ys ++ index shape.driver ∷ [])
      more [] = omega arith
      more (y ∷ ys) = omega arith

  numbers : (n : ℕ) → index n < node_count shape → n ≤ 63
  numbers n h = let a : (get_or shape.nodes (index n) no_node).node ≤ 63 = s.nodes.numbers (index n) no_node h in
      let b = node_at (index n) h in let c = at_index n h in omega arith

  pub number_most : (i : ℕ) → i < node_count shape → get_or ns i 0 ≤ 63
  number_most i h = let a : (get_or shape.nodes i no_node).node ≤ 63 = s.nodes.numbers i no_node h in let b = node_at i h in omega arith

pub sound_layout : (board_shape : BoardShape) → IsSoundShape board_shape.shape → HasSeats board_shape → IsSound (layout_of board_shape)
sound_layout board_shape s h = record {
  some_cycles = s.cycles.some;
  early = s.cycles.numbers;
  events = s.cycles.events;
  driver_in = driver_in board_shape.shape s;
  seats_in = h.each;
  indexes = numbers board_shape.shape s;
  numbers = number_most board_shape.shape s;
  at = index_at board_shape.shape s;
  known = at_index board_shape.shape s;
  targets_in = targets_in board_shape.shape s;
  required_is = required_is board_shape.shape s;
  required_some = required_some board_shape.shape s;
  tells_driver = tells_driver board_shape.shape s;
  tells = tells board_shape.shape s;
  names = λ n h. refl;
  named = λ n c. (contained board_shape.shape s n c).0;
  names_driver = at_index board_shape.shape s board_shape.shape.driver (driver_in board_shape.shape s);
  follows = λ m n hm hn e. let a = told board_shape.shape s n m hn hm in
      let b : cond {A = ℕ} (waits board_shape.shape (get_or (nodes_of board_shape.shape) n 0) (get_or (nodes_of board_shape.shape) m 0)) 1 0 ≡ 1 =
      ap (λ b. cond {A = ℕ} b 1 0) e.depends.waits in omega arith;
}
