-- Laws of counts and targets over plain lists.
use Rattle.std.proofs.Common.{◌≡◌, ℕ, zero, suc, ◌+◌, ◌<◌, ◌==◌, ◌&&◌, ◌||◌, List, [], ◌∷◌, ◌++◌, length, get_or}
use Rattle.std.proofs.Common.{map, Bool, true, false, not, cond, refl, sym, ap, ◌∙◌, arith, append-nil, add-one, zero-add}
use Rattle.std.specs.Prelude.{filter, Contains}
use Rattle.std.specs.List.{list_any, range_with_len}
use Rattle.std.specs.List.Sorted.{IsStrictlyIncreasing}
use Rattle.std.proofs.lemmas.List.Elements.{filter-append, filter_passes, All-contains}
use Rattle.std.proofs.lemmas.List.FromFn.{length-range_with_len, get_or-range_with_len}
use Rattle.std.proofs.lemmas.List.Kept.{IsStrictlyIncreasing-filter}
use Rattle.pw_graph.specs.declared.shape.Shape.{Shape}
use Rattle.pw_graph.specs.declared.shape.ShapeNode.{ShapeNode}
use Rattle.pw_graph.specs.Dependencies.{nodes_of, waits}
use Rattle.pw_graph.specs.SoundShape.{IsCounted}
use Rattle.graph_lines.specs.Searching.{is_in, numbers_in}

-- one number more
range_more : (a n : ℕ) → range_with_len a (suc n) ≡ range_with_len a n ++ (a + n) ∷ []
range_more a zero = grind arith
range_more a (suc n) = ap (λ (xs : List ℕ). a ∷ xs) (range_more (a + 1) n) ∙ ap (λ (k : ℕ). a ∷ (range_with_len (a + 1) n ++ k ∷ [])) (grind arith)

pub numbers_more : (here : List Bool) (n : ℕ) → numbers_in here (n + 1) ≡ numbers_in here n ++ cond (is_in here n) (n ∷ []) []
numbers_more here n = ap (filter (is_in here)) (rw add-one (range_more 0 n ∙ ap (λ (k : ℕ). range_with_len 0 n ++ k ∷ []) (zero-add n))) ∙ filter-append (is_in here) (range_with_len 0 n) (n ∷ [])

-- the numbers that are in ascend, and are just those
pub numbers_ascend : (here : List Bool) (n : ℕ) → IsStrictlyIncreasing (numbers_in here n)
numbers_ascend here n = IsStrictlyIncreasing-filter (is_in here) (range_with_len 0 n) (λ k l.
    let below : k + 1 < n = omega (arith, l, length-range_with_len 0 n) in
    let first = get_or-range_with_len 0 n k 0 (omega (arith, below)) in
    let second = get_or-range_with_len 0 n (k + 1) 0 below in
    omega (arith, first, second))

pub contains_numbers : (here : List Bool) (n k : ℕ) → Contains (numbers_in here n) k → is_in here k ≡ true
contains_numbers here n k c = All-contains (λ m. is_in here m ≡ true) (numbers_in here n) k (filter_passes (is_in here) (range_with_len 0 n)) c

one_later : (b : Bool) (y : ℕ) (zs : List ℕ) (x : ℕ) → Contains zs x → Contains (cond b (y ∷ zs) zs) x
one_later true y zs x w = (suc w.0, (let h = w.1 in omega (arith, h)), w.2)
one_later false y zs x w = w

first_kept : (b : Bool) (y : ℕ) (zs : List ℕ) (x : ℕ) → b ≡ true → y ≡ x → Contains (cond b (y ∷ zs) zs) x
first_kept true y zs x e same = (0, omega arith, same)
first_kept false y zs x e same = cc

kept_at : (p : ℕ → Bool) (xs : List ℕ) (x k : ℕ) → k < length xs → get_or xs k x ≡ x → p x ≡ true → Contains (filter p xs) x
kept_at p [] x k l same e = absurd (omega (arith, l))
kept_at p (y ∷ ys) x zero l same e = first_kept (p y) y (filter p ys) x (ap p same ∙ e) same
kept_at p (y ∷ ys) x (suc k) l same e = one_later (p y) y (filter p ys) x (kept_at p ys x k (omega (arith, l)) same e)

pub numbers_contain : (here : List Bool) (n k : ℕ) → k < n → is_in here k ≡ true → Contains (numbers_in here n) k
numbers_contain here n k l e = kept_at (is_in here) (range_with_len 0 n) k k
    (omega (arith, l, length-range_with_len 0 n)) (get_or-range_with_len 0 n k k l ∙ zero-add k) e

-- counts read the numbers of the nodes only
pub counted_again : (shape : Shape) (nodes : List ShapeNode) → map (λ n. n.node) nodes ≡ nodes_of shape → (n : ShapeNode)
    → IsCounted shape n → IsCounted (record shape { nodes = nodes }) n
counted_again shape nodes e n c = (
  c.0 ∙ ap (λ (ns : List ℕ). length (filter (waits shape n.node) ns)) (sym e),
  c.1 ∙ ap (λ (ns : List ℕ). filter (λ m. not (m == shape.driver) && waits shape m n.node) ns ++ shape.driver ∷ []) (sym e),
)

pub numbers_yes : (here : List Bool) (n : ℕ) → is_in here n ≡ true → numbers_in here (n + 1) ≡ numbers_in here n ++ n ∷ []
numbers_yes here n e = numbers_more here n ∙ ap (λ (b : Bool). numbers_in here n ++ cond b (n ∷ []) []) e

pub numbers_no : (here : List Bool) (n : ℕ) → is_in here n ≡ false → numbers_in here (n + 1) ≡ numbers_in here n
numbers_no here n e = numbers_more here n ∙ (ap (λ (b : Bool). numbers_in here n ++ cond b (n ∷ []) []) e ∙ append-nil (numbers_in here n))

-- the numbers of nodes hold a number just where one of the nodes has it
pub any_number : (nodes : List ShapeNode) (n : ℕ) → list_any (λ m. m.node == n) nodes ≡ list_any (λ m. m == n) (map (λ m. m.node) nodes)
any_number [] n = refl
any_number (m ∷ ms) n = ap (λ (b : Bool). (m.node == n) || b) (any_number ms n)
