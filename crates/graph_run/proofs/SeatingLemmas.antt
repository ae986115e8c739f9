-- Seatings: the list of a function holds what the function says, by loops and by cells.
use Rattle.std.proofs.Common.{◌≡◌, ◌≢◌, ℕ, zero, suc, ◌+◌, ◌-◌, ◌<◌, ◌≤◌, ◌==◌, ◌%◌, Bool, true, false, cond, List, [], ◌∷◌, length, map, get_or, take, refl, sym, ap, ◌∙◌, subst, arith, ⊎_elim}
use Rattle.std.specs.Prelude.{All, Contains, not, filter, count_by}
use Rattle.std.specs.List.{range_with_len}
use Rattle.std.proofs.lemmas.Bool.{or_right, cases_lt, cases_eq}
use Rattle.std.proofs.lemmas.List.{get_or-map, get_or_past, length-map, length-take-le, take_all}
use Rattle.std.proofs.lemmas.List.Elements.{All-head, All-tail}
use Rattle.std.proofs.lemmas.List.FromFn.{length-range_with_len, get_or-range_with_len}
use Rattle.std.proofs.lemmas.List.Sums.{count_by-le-length, count_by_more_yes, count_by_more_no}
use Rattle.std.proofs.lemmas.Option.{slice_get-get_or}
use Rattle.pw_graph.specs.declared.shape.ShapeNode.{ShapeNode}
use Rattle.pw_graph.specs.declared.plan.Epoch.{Epoch}
use Rattle.pw_graph.specs.declared.plan.Plan.{Plan}
use Rattle.pw_graph.specs.Dependencies.{nodes_of}
use Rattle.pw_lists.specs.Limits.{dummy_node, nodes_limit}
use Rattle.pw_graph.specs.PlanFresh.{IsEpoch}
use Rattle.pw_graph.specs.SoundPlan.{IsSoundPlan, IsSoundEpoch}
use Rattle.wav_files.specs.declared.wav.WavIn.{WavIn}
use Rattle.board_rule.specs.Known.{Known}
use Rattle.data_loop.specs.declared.loop_state.LoopState.{LoopState}
use Rattle.data_loop.specs.LoopStart.{IsLoopOf}
use Rattle.graph_run.specs.declared.seating.Seating.{Seating}
use Rattle.graph_run.specs.Assignment.{drives_somewhere, loop_number, loop_of, cells_before, cell_count, cell_number}
use Rattle.graph_run.specs.Loops.{AreLoopsOf}
use Rattle.graph_run.specs.Seating.{IsSeating, IsSeatingOf, holder_of, seated_by, nodes_of_loop, seat_row, epoch_board}
use Rattle.graph_run.proofs.AssignmentLemmas.{most_loop}
use Rattle.graph_run.proofs.LoopLemmas.{below}
use Rattle.graph_run.proofs.ReadyLemmas.{driver_drives}

zero_add : (n : ℕ) → 0 + n ≡ n
zero_add n = omega arith

-- lists by two functions that agree on them
filter_by : (p q : ℕ → Bool) (xs : List ℕ) → All (λ n. p n ≡ q n) xs → filter p xs ≡ filter q xs
filter_by p q [] h = refl
filter_by p q (x ∷ xs) h = ap (λ b. cond b (x ∷ filter p xs) (filter p xs)) (All-head (λ n. p n ≡ q n) x xs h)
    ∙ ap (λ (l : List ℕ). cond (q x) (x ∷ l) l) (filter_by p q xs (All-tail (λ n. p n ≡ q n) x xs h))

map_by : {X Y : Type 0} (f g : X → Y) (xs : List X) → All (λ x. f x ≡ g x) xs → map f xs ≡ map g xs
map_by f g [] h = refl
map_by f g (x ∷ xs) h = ap (λ y. y ∷ map f xs) (All-head (λ x. f x ≡ g x) x xs h)
    ∙ ap (λ l. g x ∷ l) (map_by f g xs (All-tail (λ x. f x ≡ g x) x xs h))

-- the list of a function
module _ (f : ℕ → ℕ) (plan : Plan) (loops : ℕ) where
  held : (n : ℕ) → n < length plan.nodes → holder_of (seated_by f plan loops) n ≡ f n
  held n low = let long = length-range_with_len 0 (length plan.nodes) in
      get_or-map f (range_with_len 0 (length plan.nodes)) n 0 loops (omega (arith, low, long))
      ∙ ap f (get_or-range_with_len 0 (length plan.nodes) n 0 low ∙ zero_add n)

  beyond : (n : ℕ) → length plan.nodes ≤ n → holder_of (seated_by f plan loops) n ≡ loops
  beyond n past = let a = length-map (range_with_len 0 (length plan.nodes)) f in let b = length-range_with_len 0 (length plan.nodes) in
      get_or_past (map f (range_with_len 0 (length plan.nodes))) n loops (omega (arith, a, b, past))

  -- is a seating where the function is
  pub seated : IsSeating plan f loops → IsSeatingOf plan (seated_by f plan loops)
  seated is = record {
    few = is.few;
    most = λ n. ⊎_elim
        (λ (low : n < length plan.nodes). let e = held n low in let m = is.most n in omega (arith, e, m))
        (λ (past : length plan.nodes ≤ n). let e = beyond n past in omega (arith, e))
        (cases_lt n (length plan.nodes));
    drivers = λ n drives. ⊎_elim
        (λ (low : n < length plan.nodes). held n low ∙ is.drivers n drives)
        (λ (past : length plan.nodes ≤ n). beyond n past)
        (cases_lt n (length plan.nodes));
  }

-- what is said of the list is said of the function
module _ (f : ℕ → ℕ) (plan : Plan) (loops : ℕ) (s : Seating) (is : s ≡ seated_by f plan loops) where
  held_by : (n : ℕ) → n < length plan.nodes → holder_of s n ≡ f n
  held_by n low = ap (λ (x : Seating). holder_of x n) is ∙ held f plan loops n low

  pub loops_are : s.loops ≡ loops
  loops_are = ap (λ (x : Seating). x.loops) is

  pub same_nodes : (which : ℕ) → nodes_of_loop (holder_of s) plan which ≡ nodes_of_loop f plan which
  same_nodes which = filter_by (λ n. holder_of s n == which) (λ n. f n == which) (range_with_len 0 (length plan.nodes))
      (λ i d low. ap (λ (x : ℕ). x == which)
      (held_by (get_or (range_with_len 0 (length plan.nodes)) i d) (below (length plan.nodes) i d low)))

  pub same_loops : (waves : List WavIn) (rows : List (List Known)) (states : List LoopState) → AreLoopsOf plan waves (holder_of s) rows states
      → AreLoopsOf plan waves f rows states
  same_loops waves rows states are = record {
    count = are.count;
    each = λ i d low. subst (λ (l : List ℕ). IsLoopOf plan waves l (get_or rows i []) (get_or states i d)) (same_nodes i) (are.each i d low);
  }

  module _ (sound : IsSoundPlan plan) (seating : IsSeating plan f loops) where
    -- on a node of a sound shape both agree: what is no node of the plan drives there
    shape_held : (k : ℕ) (e : Epoch) → IsEpoch plan k e → IsSoundEpoch plan e → (n : ℕ) → Contains (nodes_of e.shape) n → holder_of s n ≡ f n
    shape_held k e at ok n has = ⊎_elim
        (λ (dummy : n ≡ dummy_node).
        let driver : e.shape.driver ≡ dummy_node = ok.places.dummy (subst (Contains (nodes_of e.shape)) dummy has) in
        let drives : drives_somewhere plan n ≡ true = subst (λ m. drives_somewhere plan m ≡ true) (driver ∙ sym dummy) (driver_drives plan k e at) in
        ap (λ (x : Seating). holder_of x n) is ∙ ((seated f plan loops seating).drivers n drives ∙ sym (seating.drivers n drives)))
        (λ (node : n ≢ dummy_node). held_by n (ok.places.places n has node))
        (cases_eq n dummy_node)

    row_held : (k : ℕ) (e : Epoch) → IsEpoch plan k e → IsSoundEpoch plan e → seat_row (holder_of s) e.shape ≡ seat_row f e.shape
    row_held k e at ok = map_by (λ (x : ShapeNode). holder_of s x.node) (λ (x : ShapeNode). f x.node) e.shape.nodes
        (λ i d low. let n : ℕ = (get_or e.shape.nodes i d).node in let long = length-map e.shape.nodes (λ (x : ShapeNode). x.node) in
        shape_held k e at ok n (i, omega (arith, low, long), get_or-map (λ (x : ShapeNode). x.node) e.shape.nodes i d n low))

    pub same_boards : map (epoch_board (holder_of s) s.loops) plan.epochs ≡ map (epoch_board f loops) plan.epochs
    same_boards = map_by (epoch_board (holder_of s) s.loops) (epoch_board f loops) plan.epochs
        (λ k d low. let e : Epoch = get_or plan.epochs k d in
        let row = row_held k e (slice_get-get_or plan.epochs k d low) (sound.epochs k d low) in
        λ i. record { shape = e.shape; seat_of = row i; seats = loops_are i + 1 })

-- by loops
pub loops_seat : (plan : Plan) (loops : ℕ) → loops ≤ nodes_limit → IsSeating plan (loop_of plan loops) loops
loops_seat plan loops few = record {
  few = few;
  most = most_loop plan loops;
  drivers = λ n drives. ap (λ b. cond b loops (loop_number plan n % loops)) (or_right (loops == 0) (drives_somewhere plan n) drives);
}

-- by cells
module _ (plan : Plan) where
  abbrev all : List ℕ
  all = range_with_len 0 (length plan.nodes)

  abbrev alone : ℕ → Bool
  alone m = not (drives_somewhere plan m)

  all_long : length all ≡ length plan.nodes
  all_long = length-range_with_len 0 (length plan.nodes)

  -- past the last node there are no more
  no_more : (n : ℕ) → length plan.nodes ≤ n → cells_before plan n ≡ cell_count plan
  no_more n past = let long = all_long in ap (λ (l : List ℕ). count_by alone l)
      (take_all n all (omega (arith, past, long)) ∙ sym (take_all (length plan.nodes) all (omega (arith, long))))

  -- one node more
  module _ (n : ℕ) (low : n < length plan.nodes) where
    inside : n < length all
    inside = let long = all_long in omega (arith, low, long)

    here : (b : Bool) → drives_somewhere plan n ≡ b → alone (get_or all n 0) ≡ not b
    here b is = ap alone (get_or-range_with_len 0 (length plan.nodes) n 0 low ∙ zero_add n) ∙ ap not is

    pub one_cell_more : drives_somewhere plan n ≡ false → cells_before plan (n + 1) ≡ cells_before plan n + 1
    one_cell_more is = count_by_more_yes alone all n 0 inside (here false is)

    pub no_cell_more : drives_somewhere plan n ≡ true → cells_before plan (n + 1) ≡ cells_before plan n
    no_cell_more is = count_by_more_no alone all n 0 inside (here true is)

  next_cell : (n : ℕ) → cells_before plan n ≤ cells_before plan (n + 1)
  next_cell n = ⊎_elim
      (λ (low : n < length plan.nodes). by_case low (drives_somewhere plan n) refl)
      (λ (past : length plan.nodes ≤ n). let a = no_more n past in let b = no_more (n + 1) (omega (arith, past)) in omega (arith, a, b))
      (cases_lt n (length plan.nodes))
    where
      by_case : n < length plan.nodes → (b : Bool) → drives_somewhere plan n ≡ b → cells_before plan n ≤ cells_before plan (n + 1)
      by_case low true is = let e = no_cell_more n low is in omega (arith, e)
      by_case low false is = let e = one_cell_more n low is in omega (arith, e)

  more_cells : (m k : ℕ) → cells_before plan m ≤ cells_before plan (m + k)
  more_cells m zero = subst (λ j. cells_before plan m ≤ cells_before plan j) (plus_none m) (omega arith)
    where
      plus_none : (i : ℕ) → i ≡ i + 0
      plus_none i = omega arith
  more_cells m (suc k) = subst (λ j. cells_before plan m ≤ cells_before plan j) (plus_one m k)
      (let a = more_cells m k in let b = next_cell (m + k) in omega (arith, a, b))
    where
      plus_one : (i j : ℕ) → i + j + 1 ≡ i + suc j
      plus_one i j = omega arith

  ordered : (m n : ℕ) → m ≤ n → cells_before plan m ≤ cells_before plan n
  ordered m n less = subst (λ j. cells_before plan m ≤ cells_before plan j) (the_rest m n less) (more_cells m (n - m))
    where
      the_rest : (i j : ℕ) → i ≤ j → i + (j - i) ≡ j
      the_rest i j le = omega (arith, le)

  pub most_cells : (n : ℕ) → cells_before plan n ≤ cell_count plan
  most_cells n = ⊎_elim
      (λ (low : n < length plan.nodes). ordered n (length plan.nodes) (omega (arith, low)))
      (λ (past : length plan.nodes ≤ n). let e = no_more n past in omega (arith, e))
      (cases_lt n (length plan.nodes))

  few_cells : cell_count plan ≤ length plan.nodes
  few_cells = let long = all_long in let b = length-take-le (length plan.nodes) all (omega (arith, long)) in
      let a : cell_count plan ≤ length (take (length plan.nodes) all) = count_by-le-length alone (take (length plan.nodes) all) in
      omega (arith, a, b)

  -- the cell of a node
  pub driver_cell : (n : ℕ) → drives_somewhere plan n ≡ true → cell_number plan n ≡ cell_count plan
  driver_cell n is = ap (λ c. cond c (cell_count plan) (cells_before plan n)) is

  pub own_cell : (n : ℕ) → drives_somewhere plan n ≡ false → cell_number plan n ≡ cells_before plan n
  own_cell n is = ap (λ c. cond c (cell_count plan) (cells_before plan n)) is

  most_number : (n : ℕ) (b : Bool) → drives_somewhere plan n ≡ b → cell_number plan n ≤ cell_count plan
  most_number n true is = let e = driver_cell n is in omega (arith, e)
  most_number n false is = let e = own_cell n is in let m = most_cells n in omega (arith, e, m)

  pub cells_seat : length plan.nodes ≤ nodes_limit → IsSeating plan (cell_number plan) (cell_count plan)
  cells_seat few = record {
    few = (let a = few_cells in omega (arith, a, few));
    most = λ n. most_number n (drives_somewhere plan n) refl;
    drivers = driver_cell;
  }

  -- nodes of one cell are one node
  apart : (m n : ℕ) (a b : Bool) → m < n → drives_somewhere plan m ≡ a → drives_somewhere plan n ≡ b → cell_number plan m ≡ cell_number plan n
      → ¬ (cell_number plan m < cell_count plan)
  apart m n true b less x y same low = let e = driver_cell m x in absurd (omega (arith, e, low))
  apart m n false true less x y same low = let e = driver_cell n y in absurd (omega (arith, e, low, same))
  apart m n false false less x y same low = let a = own_cell m x in let b = own_cell n y in ⊎_elim
      (λ (early : m < length plan.nodes). let c = one_cell_more m early x in let d = ordered (m + 1) n (omega (arith, less)) in
      absurd (omega (arith, same, a, b, c, d)))
      (λ (past : length plan.nodes ≤ m). let e = no_more m past in absurd (omega (arith, a, e, low)))
      (cases_lt m (length plan.nodes))

  pub one_cell : (m n : ℕ) → cell_number plan m ≡ cell_number plan n → cell_number plan m < cell_count plan → m ≡ n
  one_cell m n same low = ⊎_elim
      (λ (less : m < n). absurd (apart m n (drives_somewhere plan m) (drives_somewhere plan n) less refl refl same low))
      (λ (past : n ≤ m). ⊎_elim
      (λ (more : n < m). absurd (apart n m (drives_somewhere plan n) (drives_somewhere plan m) more refl refl (sym same) (omega (arith, same, low))))
      (λ (most : m ≤ n). omega (arith, past, most))
      (cases_lt n m))
      (cases_lt m n)
