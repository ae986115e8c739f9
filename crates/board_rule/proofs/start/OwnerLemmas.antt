-- Laws of `specs/Owners.antt`: an entry is among its owner's at its slot, and is set there.
use Rattle.std.proofs.Common.{◌≡◌, ℕ, zero, suc, ◌+◌, ◌-◌, ◌<◌, ◌≤◌, Bool, true, false, cond, eqb, List, [], ◌∷◌, ◌++◌, map, take}
use Rattle.std.proofs.Common.{length, get_or, set, replicate, zip, filter, refl, sym, ap, ◌∙◌, subst, arith, eq-eqb, slice_index}
use Rattle.std.specs.Prelude.{sum_by}
use Rattle.std.specs.List.{flat_map}
use Rattle.std.proofs.lemmas.List.{length-append, length-replicate, get_or-replicate}
use Rattle.std.proofs.lemmas.List.Sums.{sum_by-cons, count_by_more_yes}
use Rattle.std.proofs.lemmas.List.Concat.{get_or-flat_map}
use Rattle.board_rule.proofs.activation.RowLemmas.{sum_part}
use Rattle.pw_graph.specs.declared.shape.Shape.{Shape}
use Rattle.pw_graph.specs.declared.pools.PoolShape.{PoolShape}
use Rattle.board_rule.specs.declared.view.BlockView.TheVariants.{Free, Out}
use Rattle.board_rule.specs.buffers.ByNumber.{no_pool}
use Rattle.board_rule.specs.start.StartViews.{is_delayed, blocks_at_first}
use Rattle.board_rule.specs.start.Owners.{own, own_before}

-- the entry at i is the seat's, and s is its slot
pub record SitsAt (k : ℕ) (os : List ℕ) (i s : ℕ) : Type 0 where
  pub inside : i < length os
  pub owner : slice_index os i ≡ k
  pub is : s ≡ own_before k os i

before_more : (k o i : ℕ) (os : List ℕ) → own_before k (o ∷ os) (suc i) ≡ cond (eqb o k) 1 0 + own_before k os i
before_more k o i os = sum_by-cons (λ y. cond (eqb y k) 1 0) o (take i os)

skip : {A : Type 0} (b : Bool) (x : A) (ys : List A) (n : ℕ) (d : A) → get_or (cond b (x ∷ ys) ys) (cond b 1 0 + n) d ≡ get_or ys n d
skip true x ys n d = let one : 1 + n ≡ suc n = omega arith in ap (λ j. get_or (x ∷ ys) j d) one
skip false x ys n d = let same : 0 + n ≡ n = omega arith in ap (λ j. get_or ys j d) same

skip_set : {A : Type 0} (b : Bool) (x y : A) (ys : List A) (n : ℕ)
    → cond b (x ∷ set ys n y) (set ys n y) ≡ set (cond b (x ∷ ys) ys) (cond b 1 0 + n) y
skip_set true x y ys n = let one : suc n ≡ 1 + n = omega arith in ap (λ j. set (x ∷ ys) j y) one
skip_set false x y ys n = let same : n ≡ 0 + n = omega arith in ap (λ j. set ys j y) same

skip_long : {A : Type 0} (b : Bool) (x : A) (ys : List A) (n : ℕ) → n < length ys → cond b 1 0 + n < length (cond b (x ∷ ys) ys)
skip_long true x ys n h = omega arith
skip_long false x ys n h = omega arith

map_by : {A B : Type 0} (f : A → B) (b : Bool) (x : A) (ys : List A) → map f (cond b (x ∷ ys) ys) ≡ cond b (f x ∷ map f ys) (map f ys)
map_by f true x ys = refl
map_by f false x ys = refl

module _ {A : Type 0} (k : ℕ) where
  -- the first entry is the seat's, or it is not
  own_cons : (o : ℕ) (os : List ℕ) (x : A) (xs : List A) → own k (o ∷ os) (x ∷ xs) ≡ cond (eqb o k) (x ∷ own k os xs) (own k os xs)
  own_cons o os x xs = map_by (λ (t : ℕ × A). t.1) (eqb o k) (o, x) (filter (λ (t : ℕ × A). eqb t.0 k) (zip os xs))

  -- what is at its slot
  pub own_at : (os : List ℕ) (xs : List A) (i : ℕ) (d : A) → i < length os → i < length xs → slice_index os i ≡ k
      → get_or (own k os xs) (own_before k os i) d ≡ get_or xs i d
  own_at [] xs i d h l e = absurd (omega arith)
  own_at (o ∷ os) [] i d h l e = absurd (omega arith)
  own_at (o ∷ os) (x ∷ xs) zero d h l e = ap (λ l. get_or l 0 d) (own_cons o os x xs)
      ∙ ap (λ b. get_or (cond b (x ∷ own k os xs) (own k os xs)) 0 d) (eq-eqb o k e)
  own_at (o ∷ os) (x ∷ xs) (suc i) d h l e = ap (λ n. get_or (own k (o ∷ os) (x ∷ xs)) n d) (before_more k o i os)
      ∙ ap (λ l. get_or l (cond (eqb o k) 1 0 + own_before k os i) d) (own_cons o os x xs)
      ∙ skip (eqb o k) x (own k os xs) (own_before k os i) d ∙ own_at os xs i d (omega arith) (omega arith) e

  pub own_inside : (os : List ℕ) (xs : List A) (i : ℕ) → i < length os → i < length xs → slice_index os i ≡ k
      → own_before k os i < length (own k os xs)
  own_inside [] xs i h l e = absurd (omega arith)
  own_inside (o ∷ os) [] i h l e = absurd (omega arith)
  own_inside (o ∷ os) (x ∷ xs) zero h l e =
      subst (λ ys. 0 < length ys) (sym (own_cons o os x xs ∙ ap (λ b. cond b (x ∷ own k os xs) (own k os xs)) (eq-eqb o k e)))
      (omega arith)
  own_inside (o ∷ os) (x ∷ xs) (suc i) h l e =
      subst (λ (t : ℕ × List A). t.0 < length t.1) (λ j. (sym (before_more k o i os) j, sym (own_cons o os x xs) j))
      (skip_long (eqb o k) x (own k os xs) (own_before k os i) (own_inside os xs i (omega arith) (omega arith) e))

  -- one is set
  pub own_set : (os : List ℕ) (xs : List A) (i : ℕ) (y : A) → i < length os → i < length xs → slice_index os i ≡ k
      → own k os (set xs i y) ≡ set (own k os xs) (own_before k os i) y
  own_set [] xs i y h l e = absurd (omega arith)
  own_set (o ∷ os) [] i y h l e = absurd (omega arith)
  own_set (o ∷ os) (x ∷ xs) zero y h l e =
      own_cons o os y xs ∙ ap (λ b. cond b (y ∷ own k os xs) (own k os xs)) (eq-eqb o k e)
      ∙ ap (λ b. set (cond b (x ∷ own k os xs) (own k os xs)) 0 y) (sym (eq-eqb o k e))
      ∙ ap (λ ys. set ys 0 y) (sym (own_cons o os x xs))
  own_set (o ∷ os) (x ∷ xs) (suc i) y h l e =
      own_cons o os x (set xs i y) ∙ ap (λ ys. cond (eqb o k) (x ∷ ys) ys) (own_set os xs i y (omega arith) (omega arith) e)
      ∙ skip_set (eqb o k) x y (own k os xs) (own_before k os i)
      ∙ ap (λ ys. set ys (cond (eqb o k) 1 0 + own_before k os i) y) (sym (own_cons o os x xs))
      ∙ ap (λ n. set (own k (o ∷ os) (x ∷ xs)) n y) (sym (before_more k o i os))

  -- the same by the slot
  pub sits_at : (os : List ℕ) (xs : List A) (i s : ℕ) (d : A) → SitsAt k os i s → i < length xs
      → get_or (own k os xs) s d ≡ get_or xs i d
  sits_at os xs i s d t l = ap (λ n. get_or (own k os xs) n d) t.is ∙ own_at os xs i d t.inside l t.owner

  pub sits_inside : (os : List ℕ) (xs : List A) (i s : ℕ) → SitsAt k os i s → i < length xs → s < length (own k os xs)
  sits_inside os xs i s t l = subst (λ n. n < length (own k os xs)) (sym t.is) (own_inside os xs i t.inside l t.owner)

  pub sits_set : (os : List ℕ) (xs : List A) (i s : ℕ) (y : A) → SitsAt k os i s → i < length xs
      → own k os (set xs i y) ≡ set (own k os xs) s y
  sits_set os xs i s y t l = own_set os xs i y t.inside l t.owner ∙ ap (λ n. set (own k os xs) n y) (sym t.is)

  -- one entry more
  more_by : (b : Bool) (x : A) (us vs : List A) → cond b (x ∷ (us ++ vs)) (us ++ vs) ≡ cond b (x ∷ us) us ++ vs
  more_by true x us vs = refl
  more_by false x us vs = refl

  pub own_more : (os : List ℕ) (xs : List A) (i d : ℕ) (e : A) → i < length os → i < length xs
      → own k (take (i + 1) os) (take (i + 1) xs)
      ≡ own k (take i os) (take i xs) ++ cond (eqb (get_or os i d) k) (get_or xs i e ∷ []) []
  own_more [] xs i d e h l = absurd (omega arith)
  own_more (o ∷ os) [] i d e h l = absurd (omega arith)
  own_more (o ∷ os) (x ∷ xs) zero d e h l = own_cons o [] x []
  own_more (o ∷ os) (x ∷ xs) (suc i) d e h l = let one : suc i + 1 ≡ suc (i + 1) = omega arith in
      ap (λ n. own k (take n (o ∷ os)) (take n (x ∷ xs))) one ∙ own_cons o (take (i + 1) os) x (take (i + 1) xs)
      ∙ ap (λ ys. cond (eqb o k) (x ∷ ys) ys) (own_more os xs i d e (omega arith) (omega arith))
      ∙ more_by (eqb o k) x (own k (take i os) (take i xs)) (cond (eqb (get_or os i d) k) (get_or xs i e ∷ []) [])
      ∙ ap (λ ys. ys ++ cond (eqb (get_or os i d) k) (get_or xs i e ∷ []) []) (sym (own_cons o (take i os) x (take i xs)))

-- a function of each entry
pub own-map : {A B : Type 0} (f : A → B) (k : ℕ) (os : List ℕ) (xs : List A) → map f (own k os xs) ≡ own k os (map f xs)
own-map f k [] xs = refl
own-map f k (o ∷ os) [] = refl
own-map f k (o ∷ os) (x ∷ xs) = ap (map f) (own_cons k o os x xs) ∙ map_by f (eqb o k) x (own k os xs)
    ∙ ap (λ ys. cond (eqb o k) (f x ∷ ys) ys) (own-map f k os xs) ∙ sym (own_cons k o os (f x) (map f xs))

-- entries in a row that are the seat's have their slots in a row
pub own_run : (k : ℕ) (os : List ℕ) (s b : ℕ) → s + b ≤ length os → ((j : ℕ) → j < b → slice_index os (s + j) ≡ k)
    → own_before k os (s + b) ≡ own_before k os s + b
own_run k os s zero h each = let same : s + 0 ≡ s = omega arith in ap (own_before k os) same ∙ (omega arith)
own_run k os s (suc b) h each = let one : s + suc b ≡ (s + b) + 1 = omega arith in
    let rest = own_run k os s b (omega arith) (λ j l. each j (omega arith)) in
    let more : own_before k os (s + b + 1) ≡ own_before k os (s + b) + 1 =
    count_by_more_yes (λ o. eqb o k) os (s + b) 0 (omega arith) (eq-eqb (slice_index os (s + b)) k (each b (omega arith))) in
    ap (own_before k os) one ∙ (omega arith)

-- the owners of the blocks of pools: each block has that of its pool
module _ {A : Type 0} (n f : A → ℕ) where
  abbrev pub rows : List A → List ℕ
  rows xs = flat_map (λ x. replicate (n x) (f x)) xs

  pub rows_long : (xs : List A) → length (rows xs) ≡ sum_by n xs
  rows_long [] = refl
  rows_long (x ∷ xs) = let a = length-append (replicate (n x) (f x)) (rows xs) in let b = length-replicate (n x) (f x) in
      let c = rows_long xs in let d = sum_by-cons n x xs in omega arith

  pub row_inside : (xs : List A) (q b : ℕ) (d : A) → q < length xs → b < n (get_or xs q d) → sum_by n (take q xs) + b < length (rows xs)
  row_inside xs q b d h l = let a = rows_long xs in let s = sum_part n xs q d h in omega arith

  pub row_owner : (xs : List A) (q b : ℕ) (d : A) → q < length xs → b < n (get_or xs q d)
      → slice_index (rows xs) (sum_by n (take q xs) + b) ≡ f (get_or xs q d)
  row_owner xs q b d h l = let x = get_or xs q d in
      let long : length (replicate (n x) (f x)) ≡ n x = length-replicate (n x) (f x) in
      ap (λ s. slice_index (rows xs) (s + b)) (sym (rows_long (take q xs)))
      ∙ get_or-flat_map (λ y. replicate (n y) (f y)) xs q b d 0 h (subst (λ m. b < m) (sym long) l)
      ∙ get_or-replicate (n x) b (f x) 0 l

-- as many blocks begin as have owners
first_long : (shape : Shape) (x : PoolShape) → 0 < x.blocks → length (blocks_at_first shape x) ≡ x.blocks
first_long shape x some = by (is_delayed shape x)
  where
    by : (b : Bool) → length (cond b (Out shape.first ∷ replicate (x.blocks - 1) Free) (replicate x.blocks Free)) ≡ x.blocks
    by true = let l = length-replicate (x.blocks - 1) Free in omega arith
    by false = length-replicate x.blocks Free

pub blocks_long : (shape : Shape) (f : PoolShape → ℕ) (xs : List PoolShape) → ((q : ℕ) → q < length xs → 0 < (get_or xs q no_pool).blocks)
    → length (rows (λ x. x.blocks) f xs) ≡ length (flat_map (blocks_at_first shape) xs)
blocks_long shape f [] some = refl
blocks_long shape f (x ∷ xs) some = let here : 0 < x.blocks = some 0 (omega arith) in
    let a = length-append (replicate x.blocks (f x)) (rows (λ y. y.blocks) f xs) in let b = length-replicate x.blocks (f x) in
    let c = length-append (blocks_at_first shape x) (flat_map (blocks_at_first shape) xs) in let d = first_long shape x here in
    let e = blocks_long shape f xs (λ q h. some (suc q) (omega arith)) in omega arith
