-- Rows that are filled from the front, and rings.
use Rattle.std.proofs.Common.{◌≡◌, ℕ, suc, zero, ◌+◌, ◌-◌, ◌<◌, ◌≤◌, ◌∙◌, min, List, [], ◌∷◌, ◌++◌, length, take}
use Rattle.std.proofs.Common.{drop, refl, sym, ap, ap₂, arith, append_assoc, append-nil, drop_of_length-le, drop-drop, length-append}
use Rattle.std.proofs.Common.{length-drop, take-append-drop, replicate, inl, inr}
use Rattle.std.proofs.lemmas.Grind.{common_steps}
use Rattle.std.proofs.lemmas.List.{take_all, take-append-le, drop-append-le}
use Rattle.std.proofs.Math.Seq.{take-append_seam, drop-append_seam, take-append-add, drop-append-add}
use Rattle.std.proofs.lemmas.Bool.{cases_lt}
use borrow.Rule.Slice.PartMut.{put_mid}
use Rattle.node_state.specs.working.Line.{turned}

-- a row whose front has been filled from a list, as far as it goes
abbrev pub filled_from : {X : Type 0} → List X → List X → List X
filled_from xs ys = take (length ys) xs ++ drop (length xs) ys

-- the first of two lists joined is cut or passed over
pub take_past : {X : Type 0} (xs ys : List X) (n : ℕ) → length xs ≤ n → take n (xs ++ ys) ≡ xs ++ take (n - length xs) ys
take_past xs ys n h =
    let e : n ≡ length xs + (n - length xs) = omega (arith, h) in
    ap (λ k. take k (xs ++ ys)) e ∙ take-append-add xs ys (n - length xs)

pub drop_past : {X : Type 0} (xs ys : List X) (n : ℕ) → length xs ≤ n → drop n (xs ++ ys) ≡ drop (n - length xs) ys
drop_past xs ys n h =
    let e : n ≡ length xs + (n - length xs) = omega (arith, h) in
    ap (λ k. drop k (xs ++ ys)) e ∙ drop-append-add xs ys (n - length xs)

-- the whole of a short row
pub filled_short : {X : Type 0} (xs ys : List X) → length xs ≤ length ys → filled_from xs ys ≡ xs ++ drop (length xs) ys
filled_short xs ys h = ap (λ t. t ++ drop (length xs) ys) (take_all (length ys) xs h)

-- a row too long for the place that there is
pub filled_long : {X : Type 0} (xs ys : List X) → length ys ≤ length xs → filled_from xs ys ≡ take (length ys) xs
filled_long xs ys h = ap (λ t. take (length ys) xs ++ t) (drop_of_length-le ys h) ∙ append-nil (take (length ys) xs)

-- what is before and after the place that has been reached
filled_front : {X : Type 0} (xs ys : List X) (k : ℕ) → k ≡ min (length xs) (length ys) → take k (filled_from xs ys) ≡ take (length ys) xs
filled_front xs ys k e = elim (cases_lt (length xs) (length ys)) [
  | inl h ↦
      let at : k ≡ length xs = omega (arith, h, e) in
      ap (take k) (filled_short xs ys (omega (arith, h))) ∙ ap (λ j. take j (xs ++ drop (length xs) ys)) at
      ∙ take-append_seam xs (drop (length xs) ys) ∙ sym (take_all (length ys) xs (omega (arith, h)))
  | inr h ↦
      ap (take k) (filled_long xs ys h) ∙ take_all k (take (length ys) xs) (grind (arith, common_steps, h, e))
]

filled_back : {X : Type 0} (xs ys : List X) (k : ℕ) → k ≡ min (length xs) (length ys) → drop k (filled_from xs ys) ≡ drop k ys
filled_back xs ys k e = elim (cases_lt (length xs) (length ys)) [
  | inl h ↦
      let at : k ≡ length xs = omega (arith, h, e) in
      ap (drop k) (filled_short xs ys (omega (arith, h))) ∙ ap (λ j. drop j (xs ++ drop (length xs) ys)) at
      ∙ drop-append_seam xs (drop (length xs) ys) ∙ ap (λ j. drop j ys) (sym at)
  | inr h ↦
      ap (drop k) (filled_long xs ys h) ∙ drop_of_length-le (take (length ys) xs) (grind (arith, common_steps, h, e))
      ∙ sym (drop_of_length-le ys (omega (arith, h, e)))
]

-- one list more into the rest of the row
pub filled_more : {X : Type 0} (xs zs ys to new : List X) (k w : ℕ) → k ≡ min (length xs) (length ys) → to ≡ filled_from xs ys
    → new ≡ filled_from zs (drop k to) → length to ≤ k + w
    → put_mid k w to new ≡ filled_from (xs ++ zs) ys
filled_more {X = X} xs zs ys to new k w e t v h =
    let front : take k to ≡ take (length ys) xs = ap (take k) t ∙ filled_front xs ys k e in
    let rest : drop k to ≡ drop k ys = ap (drop k) t ∙ filled_back xs ys k e in
    let none : drop w (drop k to) ≡ [] = drop-drop w k to ∙ drop_of_length-le to (omega (arith, h)) in
    let left : length (drop k ys) ≡ length ys - k = grind (arith, common_steps) in
    let piece : new ≡ take (length ys - k) zs ++ drop (length zs) (drop k ys) = v ∙ ap (filled_from zs) rest
    ∙ ap (λ j. take j zs ++ drop (length zs) (drop k ys)) left in
    ap₂ (λ a b. a ++ (new ++ b)) front none ∙ ap (λ b. take (length ys) xs ++ b) (append-nil new ∙ piece)
    ∙ elim (cases_lt (length xs) (length ys)) [
      | inl g ↦
          let at : k ≡ length xs = omega (arith, g, e) in
          let whole : take (length ys) xs ≡ xs = take_all (length ys) xs (omega (arith, g)) in
          let past : length (xs ++ zs) ≡ length xs + length zs = length-append xs zs in
          ap (λ a. a ++ (take (length ys - k) zs ++ drop (length zs) (drop k ys))) whole
          ∙ ap (λ (j : ℕ). xs ++ (take (length ys - j) zs ++ drop (length zs) (drop j ys))) at
          ∙ sym (append_assoc xs (take (length ys - length xs) zs) (drop (length zs) (drop (length xs) ys)))
          ∙ ap₂ (λ a b. a ++ b) (sym (take_past xs zs (length ys) (omega (arith, g))))
          (drop-drop (length zs) (length xs) ys ∙ ap (λ j. drop j ys) (sym past))
      | inr g ↦
          let at : k ≡ length ys = omega (arith, g, e) in
          let nothing : take (length ys - k) zs ++ drop (length zs) (drop k ys) ≡ [] =
          let zero : length ys - k ≡ 0 = omega (arith, at) in
          let gone : drop k ys ≡ [] = drop_of_length-le ys (omega (arith, at)) in
          ap₂ (λ j r. take j zs ++ drop (length zs) r) zero gone ∙ grind (arith, common_steps) in
          ap (λ b. take (length ys) xs ++ b) nothing ∙ append-nil (take (length ys) xs)
          ∙ sym (filled_long (xs ++ zs) ys (grind (arith, common_steps, g)) ∙ take-append-le (length ys) xs zs g)
    ]

-- the front of the same value again and again
pub replicate_front : {X : Type 0} (n m : ℕ) (z : X) → n ≤ m → take n (replicate m z) ≡ replicate n z
replicate_front zero m z h = refl
replicate_front (suc n) zero z h = absurd (omega (arith, h))
replicate_front (suc n) (suc m) z h = ap (λ t. z ∷ t) (replicate_front n m z (omega (arith, h)))

filled_length : {X : Type 0} (xs ys : List X) → length (filled_from xs ys) ≡ length ys
filled_length xs ys = grind (arith, common_steps)

-- a list, then the same value again and again
pub filled_padded : {X : Type 0} (xs ys to new : List X) (k : ℕ) (z : X) → k ≡ min (length xs) (length ys) → to ≡ filled_from xs ys
    → new ≡ replicate (length to - k) z
    → take k to ++ (new ++ drop (length to - k) (drop k to)) ≡ take (length ys) (xs ++ replicate (length ys) z)
filled_padded xs ys to new k z e t v =
    let same : length to ≡ length ys = ap length t ∙ filled_length xs ys in
    let rest : length (drop k to) ≡ length to - k = length-drop k to in
    let long : length (drop k to) ≤ length (replicate (length ys) z) = grind (arith, common_steps, same) in
    let filled : new ≡ filled_from (replicate (length ys) z) (drop k to) =
    v ∙ ap (λ n. replicate n z) (sym rest) ∙ sym (filled_long (replicate (length ys) z) (drop k to) long
    ∙ replicate_front (length (drop k to)) (length ys) z (grind (arith, common_steps, same))) in
    filled_more xs (replicate (length ys) z) ys to new k (length to - k) e t filled (omega arith)
    ∙ filled_long (xs ++ replicate (length ys) z) ys (grind (arith, common_steps))

-- a ring that is written over whole
pub ring_replaced : {X : Type 0} (ring new a : List X) (oldest : ℕ) → oldest ≤ length ring → length ring ≤ length a
    → new ≡ drop (length a - length ring) a
    → turned 0 new ≡ drop (length a) (turned oldest ring ++ a)
ring_replaced ring new a oldest h g v =
    let size : length (turned oldest ring) ≡ length ring = grind (arith, common_steps, h) in
    append-nil new ∙ v ∙ ap (λ n. drop (length a - n) a) (sym size)
    ∙ sym (drop_past (turned oldest ring) a (length a) (omega (arith, size, g)))

-- a ring that is written on over its end
pub ring_round : {X : Type 0} (ring front back a : List X) (oldest first : ℕ) → oldest ≤ length ring → length a < length ring
    → first ≡ length ring - oldest → first ≤ length a
    → front ≡ take first a → back ≡ filled_from (drop first a) (take oldest ring)
    → turned (length a - first) (back ++ front) ≡ drop (length a) (turned oldest ring ++ a)
ring_round ring front back a oldest first h g e l f b =
    let rest = drop first a in
    let tail = drop (length rest) (take oldest ring) in
    let rest_long : length rest ≡ length a - first = length-drop first a in
    let place : length (take oldest ring) ≡ oldest = grind (arith, common_steps, h) in
    let fits : length rest ≤ length (take oldest ring) = omega (arith, rest_long, place, e, g, l, h) in
    let value : back ≡ rest ++ tail = b ∙ filled_short rest (take oldest ring) fits in
    let row : back ++ front ≡ rest ++ (tail ++ take first a) = ap₂ (λ x y. x ++ y) value f ∙ append_assoc rest tail (take first a) in
    let left : length (drop oldest ring) ≡ first = length-drop oldest ring ∙ sym e in
    ap₂ turned (sym rest_long) row
    ∙ ap₂ (λ x y. x ++ y) (drop-append_seam rest (tail ++ take first a)) (take-append_seam rest (tail ++ take first a))
    ∙ append_assoc tail (take first a) rest ∙ ap (λ t. tail ++ t) (take-append-drop first a)
    ∙ sym (
    ap (drop (length a)) (append_assoc (drop oldest ring) (take oldest ring) a)
    ∙ drop_past (drop oldest ring) (take oldest ring ++ a) (length a) (omega (arith, left, l))
    ∙ ap (λ n. drop n (take oldest ring ++ a)) (ap (λ n. length a - n) left ∙ sym rest_long)
    ∙ drop-append-le (length rest) (take oldest ring) a fits)
