-- The pools of a loop's nodes among those of an epoch: each has a place of its own.
use Rattle.std.proofs.Common.{◌≡◌, ◌≢◌, ℕ, zero, suc, ◌+◌, ◌-◌, ◌<◌, ◌≤◌, Bool, true, false, true≢false, not, cond, List, [], ◌∷◌, ◌++◌, length, map, get_or, take, filter, ltb, Some, None, unwrap_or}
use Rattle.std.proofs.Common.{append-nil, refl, sym, ap, ◌∙◌, subst, arith, ⊎_elim}
use Rattle.std.specs.Prelude.{set, replicate}
use Rattle.std.specs.List.{enumerate_from, position_or_len}
use Rattle.std.proofs.lemmas.Bool.{cases_Bool, cases_order, cases_lt, lt-ltb, le-ltb}
use Rattle.std.proofs.lemmas.List.{ext_get_or, get_or-map, get_or-replicate, get_or-set_other, length-map, length-replicate, length-set, length-take-le, map_more, take_all}
use Rattle.std.proofs.lemmas.Grind.{get_or-set_at}
use Rattle.std.proofs.lemmas.List.Sums.{prefix_len-le-length, prefix_len_stops}
use Rattle.std.proofs.lemmas.List.Filters.{length-filter_more}
use Rattle.std.proofs.lemmas.List.FromFn.{length-enumerate_from, get_or-enumerate_from}
use Rattle.pw_graph.specs.declared.pools.PoolShape.{PoolShape}
use Rattle.pw_graph.specs.declared.shape.Shape.{Shape}
use Rattle.board_rule.specs.buffers.EndViews.{no_pool}
use Rattle.io_areas.specs.Queue.{Queue}
use Rattle.io_areas.specs.FreeBlocks.{free_at_start}
use Rattle.data_loop.specs.declared.own_pools.OwnPools.{OwnPools}
use Rattle.data_loop.specs.OwnPools.{is_own, own_pools, own_place, own_places, place_of, queue_of, Owns}

module _ {X : Type 0} (p : X → Bool) where
  -- how many of the first i pass
  abbrev before : List X → ℕ → ℕ
  before xs i = length (filter p (take i xs))

  before_few : (xs : List X) (i : ℕ) → before xs i ≤ i
  before_few xs zero = omega arith
  before_few [] (suc i) = omega arith
  before_few (x ∷ xs) (suc i) = let rest = before_few xs i in by (p x) rest
    where
      by : (b : Bool) → before xs i ≤ i → length (cond b (x ∷ filter p (take i xs)) (filter p (take i xs))) ≤ suc i
      by true rest = omega (arith, rest)
      by false rest = omega (arith, rest)

  before_all : (xs : List X) (i : ℕ) → before xs i ≤ length (filter p xs)
  before_all xs zero = omega arith
  before_all [] (suc i) = omega arith
  before_all (x ∷ xs) (suc i) = let rest = before_all xs i in by (p x) rest
    where
      by : (b : Bool) → before xs i ≤ length (filter p xs)
          → length (cond b (x ∷ filter p (take i xs)) (filter p (take i xs))) ≤ length (cond b (x ∷ filter p xs) (filter p xs))
      by true rest = omega (arith, rest)
      by false rest = rest

  -- one that passes is before all that follow it, at its own place
  before_later : (xs : List X) (i j : ℕ) (d : X) → i < j → i < length xs → p (get_or xs i d) ≡ true → before xs i < before xs j
  before_later [] i j d less low passes = absurd (omega (arith, low))
  before_later (x ∷ xs) i zero d less low passes = absurd (omega (arith, less))
  before_later (x ∷ xs) zero (suc j) d less low passes =
      subst (λ b. 0 < length (cond b (x ∷ filter p (take j xs)) (filter p (take j xs)))) (sym passes) (omega arith)
  before_later (x ∷ xs) (suc i) (suc j) d less low passes =
      let rest = before_later xs i j d (omega (arith, less)) (omega (arith, low)) passes in by (p x) rest
    where
      by : (b : Bool) → before xs i < before xs j → length (cond b (x ∷ filter p (take i xs)) (filter p (take i xs)))
          < length (cond b (x ∷ filter p (take j xs)) (filter p (take j xs)))
      by true rest = omega (arith, rest)
      by false rest = rest

  pub before_end : (xs : List X) (i : ℕ) (d : X) → i < length xs → p (get_or xs i d) ≡ true → before xs i < length (filter p xs)
  before_end xs i d low passes = let a = before_later xs i (suc i) d (omega arith) low passes in let b = before_all xs (suc i) in omega (arith, a, b)

  pub passes_at : (xs : List X) (i : ℕ) (d : X) → i < length xs → p (get_or xs i d) ≡ true
      → get_or (filter p xs) (before xs i) d ≡ get_or xs i d
  passes_at [] i d low passes = absurd (omega (arith, low))
  passes_at (x ∷ xs) zero d low passes = subst (λ b. get_or (cond b (x ∷ filter p xs) (filter p xs)) 0 d ≡ x) (sym passes) refl
  passes_at (x ∷ xs) (suc i) d low passes = let rest = passes_at xs i d (omega (arith, low)) passes in by (p x) rest
    where
      by : (b : Bool) → get_or (filter p xs) (before xs i) d ≡ get_or xs i d
          → get_or (cond b (x ∷ filter p xs) (filter p xs)) (length (cond b (x ∷ filter p (take i xs)) (filter p (take i xs)))) d ≡ get_or xs i d
      by true rest = rest
      by false rest = rest

  pub same_place : (xs : List X) (i j : ℕ) (d : X) → i < length xs → j < length xs → p (get_or xs i d) ≡ true → p (get_or xs j d) ≡ true
      → before xs i ≡ before xs j → i ≡ j
  same_place xs i j d a b passes too is = ⊎_elim (λ e. e)
      (⊎_elim (λ less. let n = before_later xs i j d less a passes in absurd (omega (arith, n, is)))
      (λ more. let n = before_later xs j i d more b too in absurd (omega (arith, n, is))))
      (cases_order i j)

  -- the first that passes, or how many there are where none does; where one at most passes it is this one
  abbrev first_at : List X → ℕ
  first_at xs = position_or_len p xs

  pub first_within : (xs : List X) → first_at xs ≤ length xs
  first_within xs = prefix_len-le-length (λ x. not (p x)) xs

  pub first_found : (xs : List X) → unwrap_or (cond (ltb (first_at xs) (length xs)) (Some (first_at xs)) None) (length xs) ≡ first_at xs
  first_found xs = let few = first_within xs in ⊎_elim
      (λ low. ap (λ b. unwrap_or (cond b (Some (first_at xs)) None) (length xs)) (lt-ltb (first_at xs) (length xs) low))
      (λ past. ap (λ b. unwrap_or (cond b (Some (first_at xs)) None) (length xs)) (le-ltb (first_at xs) (length xs) past)
      ∙ omega (arith, few, past))
      (cases_lt (first_at xs) (length xs))

  first_passes : (xs : List X) (d : X) → first_at xs < length xs → p (get_or xs (first_at xs) d) ≡ true
  first_passes xs d low = let stops = prefix_len_stops (λ x. not (p x)) xs d low in ⊎_elim (λ passes. passes)
      (λ miss. absurd (true≢false (sym (ap not miss) ∙ stops)))
      (cases_Bool (p (get_or xs (first_at xs) d)))

  first_least : (xs : List X) (i : ℕ) (d : X) → i < length xs → p (get_or xs i d) ≡ true → first_at xs ≤ i
  first_least [] i d low passes = absurd (omega (arith, low))
  first_least (x ∷ xs) zero d low passes = let none = ap {B = ℕ} (λ b. cond (not b) (1 + first_at xs) 0) passes in omega (arith, none)
  first_least (x ∷ xs) (suc i) d low passes = let rest = first_least xs i d (omega (arith, low)) passes in by (p x) rest
    where
      by : (b : Bool) → first_at xs ≤ i → cond (not b) (1 + first_at xs) 0 ≤ suc i
      by true rest = omega arith
      by false rest = omega (arith, rest)

  only_first : (xs : List X) (i : ℕ) (d : X) → length (filter p xs) ≤ 1 → i < length xs → p (get_or xs i d) ≡ true → i ≡ first_at xs
  only_first xs i d one low passes = let least = first_least xs i d low passes in let there : first_at xs < length xs = omega (arith, least, low) in
      let too = first_passes xs d there in let a = before_end xs i d low passes in let b = before_end xs (first_at xs) d there too in
      same_place xs i (first_at xs) d low there passes too (omega (arith, one, a, b))

pub own_more : (nodes : List ℕ) (pools : List PoolShape) (i : ℕ) (d : PoolShape) → i < length pools
    → length (own_pools nodes (take (i + 1) pools)) ≡ length (own_pools nodes (take i pools)) + cond (is_own nodes (get_or pools i d)) 1 0
own_more nodes pools i d low = length-filter_more (is_own nodes) pools i d low

pub few_own : (nodes : List ℕ) (pools : List PoolShape) (i : ℕ) → length (own_pools nodes (take i pools)) ≤ i
few_own nodes pools i = before_few (is_own nodes) pools i

pub few_all : (nodes : List ℕ) (pools : List PoolShape) → length (own_pools nodes pools) ≤ length pools
few_all nodes pools = let all = take_all (length pools) pools (omega arith) in
    subst (λ (l : List PoolShape). length (own_pools nodes l) ≤ length pools) all (few_own nodes pools (length pools))

-- the places of the first i pools, and of the others where none of them is an own one
module _ (nodes : List ℕ) (pools : List PoolShape) (i : ℕ) (d : PoolShape) (low : i < length pools) where
  abbrev all : ℕ
  all = length (own_pools nodes pools)

  abbrev pub placed : ℕ → List ℕ
  placed k = map (own_place nodes pools) (take k (enumerate_from 0 pools)) ++ replicate (length pools - k) all

  abbrev first : List ℕ
  first = map (own_place nodes pools) (take i (enumerate_from 0 pools))

  abbrev rest : ℕ
  rest = length pools - (i + 1)

  put : (xs : List ℕ) (m v : ℕ) → set (xs ++ replicate (suc m) all) (length xs) v ≡ (xs ++ v ∷ []) ++ replicate m all
  put [] m v = refl
  put (x ∷ xs) m v = ap (λ l. x ∷ l) (put xs m v)

  stays : (xs : List ℕ) (m : ℕ) → xs ++ replicate (suc m) all ≡ (xs ++ all ∷ []) ++ replicate m all
  stays [] m = refl
  stays (x ∷ xs) m = ap (λ l. x ∷ l) (stays xs m)

  first_long : length first ≡ i
  first_long = let long = length-enumerate_from 0 pools in length-map (take i (enumerate_from 0 pools)) (own_place nodes pools)
      ∙ length-take-le i (enumerate_from 0 pools) (omega (arith, low, long))

  now : placed i ≡ first ++ replicate (suc rest) all
  now = let e : length pools - i ≡ suc rest = omega (arith, low) in ap (λ k. first ++ replicate k all) e

  next : (b : Bool) → is_own nodes (get_or pools i d) ≡ b
      → placed (i + 1) ≡ (first ++ cond b (length (own_pools nodes (take i pools))) all ∷ []) ++ replicate rest all
  next b is = let long = length-enumerate_from 0 pools in let z : 0 + i ≡ i = omega arith in
      let e : ℕ × PoolShape = (0, d) in
      let value : own_place nodes pools (get_or (enumerate_from 0 pools) i e) ≡ cond b (length (own_pools nodes (take i pools))) all =
      ap (own_place nodes pools) (get_or-enumerate_from 0 pools i e low)
      ∙ ap (λ n. own_place nodes pools (n, get_or pools i d)) z
      ∙ ap (λ t. cond t (length (own_pools nodes (take i pools))) all) is in
      ap (λ (l : List ℕ). l ++ replicate rest all) (map_more (own_place nodes pools) (enumerate_from 0 pools) i e (omega (arith, low, long))
      ∙ ap (λ n. first ++ n ∷ []) value)

  -- an own one has the place after those before it; another has the place that it had
  pub place_own : (places : List ℕ) (before : ℕ) → is_own nodes (get_or pools i d) ≡ true → places ≡ placed i
      → before ≡ length (own_pools nodes (take i pools)) → set places i before ≡ placed (i + 1)
  place_own places before passes is b = ap (λ (l : List ℕ). set l i before) (is ∙ now)
      ∙ ap (λ k. set (first ++ replicate (suc rest) all) k before) (sym first_long)
      ∙ put first rest before
      ∙ ap (λ n. (first ++ n ∷ []) ++ replicate rest all) b
      ∙ sym (next true passes)

  pub place_other : (places : List ℕ) → is_own nodes (get_or pools i d) ≡ false → places ≡ placed i → places ≡ placed (i + 1)
  place_other places miss is = is ∙ now ∙ stays first rest ∙ sym (next false miss)

  pub before_own : (before : ℕ) → is_own nodes (get_or pools i d) ≡ true → before ≡ length (own_pools nodes (take i pools))
      → before + 1 ≡ length (own_pools nodes (take (i + 1) pools))
  before_own b passes is = let more = own_more nodes pools i d low in
      let one = ap {B = ℕ} (λ b. cond b 1 0) passes in omega (arith, more, one, is)

  pub before_other : (before : ℕ) → is_own nodes (get_or pools i d) ≡ false → before ≡ length (own_pools nodes (take i pools))
      → before ≡ length (own_pools nodes (take (i + 1) pools))
  before_other b miss is = let more = own_more nodes pools i d low in
      let none = ap {B = ℕ} (λ b. cond b 1 0) miss in omega (arith, more, none, is)

pub placed_all : (nodes : List ℕ) (pools : List PoolShape) (k : ℕ) → length pools ≤ k
    → map (own_place nodes pools) (take k (enumerate_from 0 pools)) ++ replicate (length pools - k) (length (own_pools nodes pools))
    ≡ own_places nodes pools
placed_all nodes pools k past = let long = length-enumerate_from 0 pools in let none : length pools - k ≡ 0 = omega (arith, past) in
    ap (λ m. map (own_place nodes pools) (take k (enumerate_from 0 pools)) ++ replicate m (length (own_pools nodes pools))) none
    ∙ append-nil _ ∙ ap (map (own_place nodes pools)) (take_all k (enumerate_from 0 pools) (omega (arith, long, past)))

-- the place of one pool
pub place_in : (nodes : List ℕ) (pools : List PoolShape) (q : ℕ) (d : PoolShape) → q < length pools
    → get_or (own_places nodes pools) q 0 ≡ own_place nodes pools (q, get_or pools q d)
place_in nodes pools q d low = let long = length-enumerate_from 0 pools in let e : ℕ × PoolShape = (0, d) in
    get_or-map (own_place nodes pools) (enumerate_from 0 pools) q e 0 (omega (arith, low, long))
    ∙ ap (own_place nodes pools) (get_or-enumerate_from 0 pools q e low)
    ∙ ap (λ n. own_place nodes pools (n, get_or pools q d)) (let z : 0 + q ≡ q = omega arith in z)

-- where one pool at most is an own one, the first own one is at 0 and each other is past the end
module _ (nodes : List ℕ) (pools : List PoolShape) (one : length (own_pools nodes pools) ≤ 1) where
  abbrev lone : List ℕ
  lone = set (replicate (length pools) (length (own_pools nodes pools))) (position_or_len (is_own nodes) pools) 0

  lone_long : length lone ≡ length pools
  lone_long = length-set (replicate (length pools) (length (own_pools nodes pools))) (position_or_len (is_own nodes) pools) 0
      ∙ length-replicate (length pools) (length (own_pools nodes pools))

  same_at : (q : ℕ) (d : PoolShape) → q < length pools → get_or lone q 0 ≡ own_place nodes pools (q, get_or pools q d)
  same_at q d low = let all = length (own_pools nodes pools) in let first = position_or_len (is_own nodes) pools in
      let long = length-replicate (length pools) all in ⊎_elim
      (λ passes. let is = only_first (is_own nodes) pools q d one low passes in let few = before_end (is_own nodes) pools q d low passes in
      let none : 0 ≡ length (own_pools nodes (take q pools)) = omega (arith, few, one) in
      get_or-set_at (replicate (length pools) all) first q 0 0 is (omega (arith, is, low, long)) ∙ none
      ∙ sym (ap (λ b. cond b (length (own_pools nodes (take q pools))) all) passes))
      (λ miss. let other : q ≢ first = λ is. true≢false (sym (first_passes (is_own nodes) pools d (omega (arith, is, low)))
      ∙ ap (λ n. is_own nodes (get_or pools n d)) (sym is) ∙ miss) in
      get_or-set_other (replicate (length pools) all) first q 0 0 other ∙ get_or-replicate (length pools) q all 0 low
      ∙ sym (ap (λ b. cond b (length (own_pools nodes (take q pools))) all) miss))
      (cases_Bool (is_own nodes (get_or pools q d)))

  pub lone_places : lone ≡ own_places nodes pools
  lone_places = let long = length-map (enumerate_from 0 pools) (own_place nodes pools) ∙ length-enumerate_from 0 pools in
      ext_get_or 0 lone (own_places nodes pools) (lone_long ∙ sym long) (λ q low. let l = lone_long in
      let less : q < length pools = omega (arith, low, l) in same_at q no_pool less ∙ sym (place_in nodes pools q no_pool less))

-- the pools of these nodes among all, as a loop has them
module _ (nodes : List ℕ) (pools : List PoolShape) (own : OwnPools) (places : own.places ≡ own_places nodes pools)
    (shapes : own.shapes ≡ own_pools nodes pools) where
  abbrev pool : ℕ → PoolShape
  pool q = get_or pools q no_pool

  pub has_places : length own.places ≡ length pools
  has_places = ap (λ (l : List ℕ). length l) places ∙ length-map (enumerate_from 0 pools) (own_place nodes pools) ∙ length-enumerate_from 0 pools

  place_is : (q : ℕ) → q < length pools → place_of own q ≡ own_place nodes pools (q, pool q)
  place_is q low = ap (λ (l : List ℕ). get_or l q 0) places ∙ place_in nodes pools q no_pool low

  long_is : length own.shapes ≡ length (own_pools nodes pools)
  long_is = ap (λ (l : List PoolShape). length l) shapes

  own_at : (q : ℕ) → q < length pools → is_own nodes (pool q) ≡ true → place_of own q ≡ length (own_pools nodes (take q pools))
  own_at q low passes = place_is q low
      ∙ ap (λ b. cond b (length (own_pools nodes (take q pools))) (length (own_pools nodes pools))) passes

  other_at : (q : ℕ) → q < length pools → is_own nodes (pool q) ≡ false → place_of own q ≡ length (own_pools nodes pools)
  other_at q low no_one = place_is q low
      ∙ ap (λ b. cond b (length (own_pools nodes (take q pools))) (length (own_pools nodes pools))) no_one

  pub owns : (q : ℕ) → q < length pools → is_own nodes (pool q) ≡ true → Owns own q
  owns q low passes = let at = own_at q low passes in let few = before_end (is_own nodes) pools q no_pool low passes in let long = long_is in
      omega (arith, at, few, long)

  owned : (q : ℕ) → q < length pools → Owns own q → is_own nodes (pool q) ≡ true
  owned q low has = ⊎_elim (λ passes. passes)
      (λ none. let at = other_at q low none in let long = long_is in absurd (omega (arith, at, long, has)))
      (cases_Bool (is_own nodes (pool q)))

  pub shape_at : (q : ℕ) → q < length pools → Owns own q → get_or own.shapes (place_of own q) no_pool ≡ pool q
  shape_at q low has = let passes = owned q low has in
      ap (λ (l : List PoolShape). get_or l (place_of own q) no_pool) shapes
      ∙ ap (λ n. get_or (own_pools nodes pools) n no_pool) (own_at q low passes)
      ∙ passes_at (is_own nodes) pools q no_pool low passes

  pub one_place : (q r : ℕ) → q < length pools → r < length pools → Owns own q → place_of own q ≡ place_of own r → q ≡ r
  one_place q r low high has is = let passes = owned q low has in
      let too = owned r high (subst (λ n. n < length own.shapes) is has) in
      same_place (is_own nodes) pools q r no_pool low high passes too (sym (own_at q low passes) ∙ is ∙ own_at r high too)

  pub queue_at : (shape : Shape) → own.free.items ≡ map (free_at_start shape) own.shapes → (q : ℕ) → q < length pools
      → is_own nodes (pool q) ≡ true → queue_of own q ≡ free_at_start shape (pool q)
  queue_at shape free q low passes = let none : Queue = record { free = []; blocks = 0 } in
      ap (λ (l : List Queue). get_or l (place_of own q) none) free
      ∙ get_or-map (free_at_start shape) own.shapes (place_of own q) no_pool none (owns q low passes)
      ∙ ap (free_at_start shape) (shape_at q low (owns q low passes))
