-- The words that a board begins with: how many there are at least, and what those of the activation records hold.
use Rattle.std.proofs.Common.{◌≡◌, ℕ, suc, ◌+◌, ◌*◌, ◌%◌, ◌<◌, ◌≤◌, ◌==◌, ◌&&◌, ◌||◌, Bool, true, false, cond, List, [], ◌∷◌}
use Rattle.std.proofs.Common.{◌++◌, length, get_or, replicate, refl, ap, ◌∙◌, arith, length-append}
use Rattle.std.specs.Prelude.{count_by, filter}
use Rattle.std.specs.List.{flat_map, list_any}
use Rattle.std.proofs.lemmas.List.{get_or-replicate, get_or-append-add, length-replicate}
use Rattle.std.proofs.lemmas.List.Sums.{sum_by-cons}
use Rattle.std.proofs.Math.ListN.{get_or-append}
use Rattle.pw_graph.specs.declared.shape.Shape.{Shape}
use Rattle.pw_graph.specs.declared.shape.ShapeLink.{ShapeLink}
use Rattle.pw_graph.specs.Words.{not_triggered_word}
use Rattle.pw_graph.specs.Pools.{pools_of}
use Rattle.pw_graph.specs.Layout.{node_count, areas_of, area_count, event_count, event_place, late_place, pending_place, status_place}
use Rattle.pw_graph.specs.Layout.{io_start, pool_start, start_words}
use Rattle.board_rule.specs.Layout.{word_count}

repeated : (k a : ℕ) → length (replicate k a) ≡ k
repeated k a = length-replicate k a

-- a link has as many words as areas
pub two_or_one : (delayed even : Bool) (a b c d e : ℕ) → length (cond delayed (cond even (a ∷ b ∷ []) (c ∷ d ∷ [])) (e ∷ [])) ≡ cond delayed 2 1
two_or_one true true a b c d e = refl
two_or_one true false a b c d e = refl
two_or_one false even a b c d e = refl

pub areas_start : (first : ℕ) (xs : List ShapeLink) → length (flat_map (io_start first) xs) ≡ area_count xs
areas_start first [] = refl
areas_start first (x ∷ xs) = let a = areas_start first xs in let e = sum_by-cons areas_of x xs in
    let c : length (io_start first x) ≡ areas_of x = two_or_one x.delayed (first % 2 == 0) _ _ _ _ _ in
    length-append (io_start first x) (flat_map (io_start first) xs) ∙ (omega arith)

pub count_is : (shape : Shape) → word_count shape ≡ length (start_words shape)
unfolding word_count
count_is shape = refl

module _ (shape : Shape) where
  abbrev n : ℕ
  n = node_count shape

  abbrev rest : List ℕ
  rest = replicate (shape.cycles + event_count shape) 0 ++ flat_map (pool_start shape) (pools_of shape)

  abbrev statuses : List ℕ
  statuses = replicate n (not_triggered_word shape.first) ++ (flat_map (io_start shape.first) shape.links ++ rest)

  pub long_enough : event_place shape (event_count shape) ≤ word_count shape
  long_enough = let z = count_is shape in let a = length-append (replicate n 0) statuses in
      let b = length-append (replicate n (not_triggered_word shape.first)) (flat_map (io_start shape.first) shape.links ++ rest) in
      let c = length-append (flat_map (io_start shape.first) shape.links) rest in
      let d = length-append (replicate (shape.cycles + event_count shape) 0) (flat_map (pool_start shape) (pools_of shape)) in
      let e = repeated n 0 in let f = repeated n (not_triggered_word shape.first) in let g = repeated (shape.cycles + event_count shape) 0 in
      let k = areas_start shape.first shape.links in omega arith

  pub pending_start : (i : ℕ) → i < n → get_or (start_words shape) (pending_place shape i) 0 ≡ 0
  pending_start i l = let e = repeated n 0 in let one : 1 + i ≡ suc i = omega arith in ap (λ k. get_or (start_words shape) k 0) one
      ∙ get_or-append (replicate n 0) statuses 0 i (omega arith) ∙ get_or-replicate n i 0 0 l

  pub status_start : (i : ℕ) → i < n → get_or (start_words shape) (status_place shape i) 0 ≡ not_triggered_word shape.first
  status_start i l = let e = repeated n 0 in let f = repeated n (not_triggered_word shape.first) in
      let one : 1 + n + i ≡ suc (length (replicate n 0) + i) = omega arith in
      ap (λ k. get_or (start_words shape) k 0) one ∙ get_or-append-add (replicate n 0) statuses i 0
      ∙ get_or-append (replicate n (not_triggered_word shape.first)) (flat_map (io_start shape.first) shape.links ++ rest) 0 i
      (omega arith)
      ∙ get_or-replicate n i (not_triggered_word shape.first) 0 l

  -- late sets and events begin with 0
  pub zero_start : (i : ℕ) → i < shape.cycles + event_count shape
      → get_or (start_words shape) (1 + 2 * n + area_count shape.links + i) 0 ≡ 0
  zero_start i l = let areas : List ℕ = flat_map (io_start shape.first) shape.links in
      let zeros : List ℕ = replicate (shape.cycles + event_count shape) 0 in
      let pools : List ℕ = flat_map (pool_start shape) (pools_of shape) in
      let a = repeated n 0 in let b = repeated n (not_triggered_word shape.first) in let c = areas_start shape.first shape.links in
      let d = repeated (shape.cycles + event_count shape) 0 in
      let e : 1 + 2 * n + area_count shape.links + i ≡ suc
      (length (replicate n 0) + (length (replicate n (not_triggered_word shape.first)) + (length areas + i))) = omega arith in
      ap (λ k. get_or (start_words shape) k 0) e ∙ get_or-append-add (replicate n 0) statuses
      (length (replicate n (not_triggered_word shape.first)) + (length areas + i)) 0
      ∙ get_or-append-add (replicate n (not_triggered_word shape.first)) (areas ++ rest) (length areas + i) 0
      ∙ get_or-append-add areas rest i 0 ∙ get_or-append zeros pools 0 i (omega arith)
      ∙ get_or-replicate (shape.cycles + event_count shape) i 0 0 l

  pub late_start : (k : ℕ) → k < shape.cycles → get_or (start_words shape) (late_place shape k) 0 ≡ 0
  late_start k l = zero_start k (omega arith)

  pub event_start : (t : ℕ) → t < event_count shape → get_or (start_words shape) (event_place shape t) 0 ≡ 0
  event_start t l = let e : event_place shape t ≡ 1 + 2 * n + area_count shape.links + (shape.cycles + t) = omega arith in
      ap (λ k. get_or (start_words shape) k 0) e ∙ zero_start (shape.cycles + t) (omega arith)

-- the elements that pass both tests
pub counted_both : {X : Type 0} (p t : X → Bool) (xs : List X) → count_by p (filter t xs) ≡ count_by (λ x. p x && t x) xs
counted_both p t [] = refl
counted_both p t (x ∷ xs) = by (p x) (t x) refl refl (counted_both p t xs)
  where
    and_true : (b : Bool) → cond {A = ℕ} (b && true) 1 0 ≡ cond {A = ℕ} b 1 0
    and_true true = refl
    and_true false = refl

    and_false : (b : Bool) → cond {A = ℕ} (b && false) 1 0 ≡ 0
    and_false true = refl
    and_false false = refl

    by : (b c : Bool) → p x ≡ b → t x ≡ c → count_by p (filter t xs) ≡ count_by (λ y. p y && t y) xs
        → count_by p (cond c (x ∷ filter t xs) (filter t xs)) ≡ count_by (λ y. p y && t y) (x ∷ xs)
    by b true e f r = let u = sum_by-cons (λ y. cond (p y) 1 0) x (filter t xs) in let v = sum_by-cons (λ y. cond (p y && t y) 1 0) x xs in
        let w : cond {A = ℕ} (p x && t x) 1 0 ≡ cond {A = ℕ} (p x) 1 0 = ap (λ z. cond {A = ℕ} (p x && z) 1 0) f ∙ and_true (p x) in omega arith
    by b false e f r = let v = sum_by-cons (λ y. cond (p y && t y) 1 0) x xs in
        let w : cond {A = ℕ} (p x && t x) 1 0 ≡ 0 = ap (λ z. cond {A = ℕ} (p x && z) 1 0) f ∙ and_false (p x) in omega arith

-- one passes where some are counted
pub any_counted : {X : Type 0} (p : X → Bool) (xs : List X) → (count_by p xs ≡ 0 → list_any p xs ≡ false)
    × (0 < count_by p xs → list_any p xs ≡ true)
any_counted p [] = ((λ _. refl), (λ h. absurd (omega arith)))
any_counted p (x ∷ xs) = by (p x) refl (any_counted p xs)
  where
    by : (b : Bool) → p x ≡ b → (count_by p xs ≡ 0 → list_any p xs ≡ false) × (0 < count_by p xs → list_any p xs ≡ true)
        → (count_by p (x ∷ xs) ≡ 0 → (b || list_any p xs) ≡ false) × (0 < count_by p (x ∷ xs) → (b || list_any p xs) ≡ true)
    by true e r = let s = sum_by-cons (λ y. cond (p y) 1 0) x xs in let o : cond {A = ℕ} (p x) 1 0 ≡ 1 = ap (λ z. cond {A = ℕ} z 1 0) e in
        ((λ h. absurd (omega arith)), (λ _. refl))
    by false e r = let s = sum_by-cons (λ y. cond (p y) 1 0) x xs in let o : cond {A = ℕ} (p x) 1 0 ≡ 0 = ap (λ z. cond {A = ℕ} z 1 0) e in
        ((λ h. r.0 (omega arith)), (λ h. r.1 (omega arith)))
