-- The index of a node, as a search over the nodes of a shape finds it; lists of rows, and sums over the first of them.
use Rattle.std.proofs.Common.{◌≡◌, ℕ, zero, suc, ◌+◌, ◌<◌, ◌≤◌, ◌==◌, Bool, true, false, not, cond, List, [], ◌∷◌, ◌++◌}
use Rattle.std.proofs.Common.{map, take, length, get_or, set, get_or-set_same, get_or-set_other, refl, sym, ap, ◌∙◌, subst, arith}
use mathlib.Core.Logic.{dite}
use native.Mathlib.Decide.{ℕ_discrete}
use Rattle.std.specs.Prelude.{unwrap_or, sum_by}
use Rattle.std.proofs.lemmas.List.{get_or-append-add}
use Rattle.std.proofs.lemmas.List.Sums.{sum_by-cons}
use Rattle.std.proofs.Math.ListN.{get_or-append}
use Rattle.std.specs.List.{position, position_or_len}
use Rattle.pw_graph.proofs.HistoryLemmas.{place_or_end as or_end}
use Rattle.pw_graph.specs.declared.shape.Shape.{Shape}
use Rattle.pw_graph.specs.declared.shape.ShapeNode.{ShapeNode}
use Rattle.board_rule.specs.Layout.{index_in}

position-map : (n : ℕ) (xs : List ShapeNode) → position_or_len (λ x. x.node == n) xs ≡ position_or_len (λ k. k == n) (map (λ x. x.node) xs)
position-map n [] = refl
position-map n (x ∷ xs) = by (x.node == n) (position-map n xs)
  where
    by : (b : Bool) {s t : ℕ} → s ≡ t → cond (not b) (1 + s) 0 ≡ cond (not b) (1 + t) 0
    by true e = refl
    by false e = ap (λ k. 1 + k) e

pub place_or_end : (shape : Shape) (n : ℕ) → unwrap_or (position (λ x. x.node == n) shape.nodes) (length shape.nodes) ≡ index_in shape n
place_or_end shape n = or_end (λ x. x.node == n) shape.nodes ∙ position-map n shape.nodes

-- one more entry of a row is written
pub filled : (f : ℕ → ℕ) (xs : List ℕ) (n : ℕ) → n < length xs → ((i : ℕ) → i < n → get_or xs i 0 ≡ f i) → (i : ℕ) → i < n + 1
    → get_or (set xs n (f n)) i 0 ≡ f i
filled f xs n l h i less = dite (ℕ_discrete i n) (λ e. ap (λ k. get_or (set xs n (f n)) k 0) e ∙ get_or-set_same xs n (f n) 0 l
    ∙ ap f (sym e)) (λ e. get_or-set_other xs n i (f n) 0 (λ z. e (omega arith)) ∙ h i (omega arith))

-- a list of rows grows by one
pub row_grown : {A : Type 0} (P : ℕ → A → Type 0) (xs : List A) (x : A) (n : ℕ) → length xs ≡ n
    → ((j : ℕ) (d : A) → j < n → P j (get_or xs j d)) → P n x → (j : ℕ) (d : A) → j < n + 1 → P j (get_or (xs ++ x ∷ []) j d)
row_grown P xs x n long each new j d less = dite (ℕ_discrete j n)
    (λ e. subst (λ (k : ℕ × _). P k.0 k.1) (λ i. (sym e i, sym (here e) i)) new)
    (λ o. subst (P j) (sym (get_or-append xs (x ∷ []) d j (omega arith))) (each j d (omega arith)))
  where
    here : j ≡ n → get_or (xs ++ x ∷ []) j d ≡ x
    here e = let k : j ≡ length xs + 0 = omega arith in ap (λ z. get_or (xs ++ x ∷ []) z d) k ∙ get_or-append-add xs (x ∷ []) 0 d

-- a sum over the first elements, with one more, and as a part of the whole
pub sum_more : {A : Type 0} (f : A → ℕ) (xs : List A) (i : ℕ) (d : A) → i < length xs
    → sum_by f (take (i + 1) xs) ≡ sum_by f (take i xs) + f (get_or xs i d)
sum_more f [] i d h = absurd (omega arith)
sum_more f (x ∷ xs) zero d h = let s = sum_by-cons f x (take 0 xs) in let z : sum_by f (take 0 xs) ≡ 0 = none xs in omega arith
  where
    none : (ys : List _) → sum_by f (take 0 ys) ≡ 0
    none [] = refl
    none (y ∷ ys) = refl
sum_more f (x ∷ xs) (suc i) d h = let one : suc i + 1 ≡ suc (i + 1) = omega arith in let r = sum_more f xs i d (omega arith) in
    let s = sum_by-cons f x (take (i + 1) xs) in let t = sum_by-cons f x (take i xs) in
    ap (λ k. sum_by f (take k (x ∷ xs))) one ∙ (let z : sum_by f (x ∷ take (i + 1) xs) ≡ sum_by f (x ∷ take i xs) + f (get_or xs i d) =
    omega arith in z)

pub sum_part : {A : Type 0} (f : A → ℕ) (xs : List A) (i : ℕ) (d : A) → i < length xs
    → sum_by f (take i xs) + f (get_or xs i d) ≤ sum_by f xs
sum_part f [] i d h = absurd (omega arith)
sum_part f (x ∷ xs) zero d h = let s = sum_by-cons f x xs in let z : sum_by f (take 0 (x ∷ xs)) ≡ 0 = refl in omega arith
sum_part f (x ∷ xs) (suc i) d h = let r = sum_part f xs i d (omega arith) in let s = sum_by-cons f x xs in
    let t = sum_by-cons f x (take i xs) in omega arith
