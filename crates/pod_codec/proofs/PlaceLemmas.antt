-- What is at a place of bytes: parts, numbers and ranges.
use Rattle.std.proofs.Common.{◌≡◌, ℕ, ◌+◌, ◌<◌, ◌^◌, get_or, take, drop, List, ◌∷◌, ◌++◌, length, refl, sym, ap, ◌∙◌, arith}
use Rattle.std.proofs.Common.{append_assoc}
use Rattle.std.proofs.lemmas.List.{get_or-drop, drop-drop, drop_at, take_at}
use Rattle.std.proofs.lemmas.Nat.{from_le_bytes-to_le_bytes_4, from_le_bytes-to_le_bytes_8}
use Rattle.std.specs.Int.{w32, w64, to_le_bytes}
use Rattle.std.specs.Prelude.{slice_index, slice_range}
use Rattle.pod_codec.specs.Framing.{u32_bytes, u64_bytes}
use Rattle.pod_codec.specs.Places.{u32_at, u64_at}

-- from p on the bytes begin with these
pub record StandsAt (bytes : List ℕ) (p : ℕ) (xs : List ℕ) : Type 0 where
  pub rest : List ℕ
  pub parts : drop p bytes ≡ xs ++ rest

pub stands_left : (bytes : List ℕ) (p : ℕ) (xs ys : List ℕ) → StandsAt bytes p (xs ++ ys) → StandsAt bytes p xs
stands_left bytes p xs ys s = record { rest = ys ++ s.rest; parts = s.parts ∙ append_assoc xs ys s.rest }

drop_twice : (p n : ℕ) (bytes : List ℕ) → drop (p + n) bytes ≡ drop n (drop p bytes)
drop_twice p n bytes = sym (drop-drop n p bytes)

pub stands_right : (bytes : List ℕ) (p q : ℕ) (xs ys : List ℕ) → q ≡ p + length xs → StandsAt bytes p (xs ++ ys) → StandsAt bytes q ys
stands_right bytes p q xs ys e s = record {
  rest = s.rest;
  parts = ap (λ (n : ℕ). drop n bytes) e ∙ drop_twice p (length xs) bytes ∙ ap (drop (length xs)) (s.parts ∙ append_assoc xs ys s.rest)
      ∙ drop_at xs (ys ++ s.rest) (length xs) refl;
}

at_stands : (bytes : List ℕ) (p i : ℕ) (xs : List ℕ) (s : StandsAt bytes p xs) → slice_index bytes (p + i) ≡ get_or (xs ++ s.rest) i 0
at_stands bytes p i xs s = sym (get_or-drop p bytes i 0) ∙ ap (λ (l : List ℕ). get_or l i 0) s.parts

pub first_stands : (bytes : List ℕ) (p x : ℕ) (xs : List ℕ) → StandsAt bytes p (x ∷ xs) → slice_index bytes p ≡ x
first_stands bytes p x xs s = ap (slice_index bytes) (omega arith) ∙ at_stands bytes p 0 (x ∷ xs) s

pub u32_stands : (bytes : List ℕ) (p n : ℕ) → n < 2 ^ 32 → StandsAt bytes p (u32_bytes n) → u32_at bytes p ≡ n
unfolding u32_at u32_bytes
u32_stands bytes p n small s =
    let first : slice_index bytes p ≡ slice_index (to_le_bytes w32 n) 0 = ap (slice_index bytes) (omega arith)
    ∙ at_stands bytes p 0 (u32_bytes n) s in
    rw (first, at_stands bytes p 1 (u32_bytes n) s, at_stands bytes p 2 (u32_bytes n) s, at_stands bytes p 3 (u32_bytes n) s)
    (from_le_bytes-to_le_bytes_4 n small)

pub u64_stands : (bytes : List ℕ) (p n : ℕ) → n < 2 ^ 64 → StandsAt bytes p (u64_bytes n) → u64_at bytes p ≡ n
unfolding u64_at u64_bytes
u64_stands bytes p n small s =
    let first : slice_index bytes p ≡ slice_index (to_le_bytes w64 n) 0 = ap (slice_index bytes) (omega arith)
    ∙ at_stands bytes p 0 (u64_bytes n) s in
    let at = λ (i : ℕ). at_stands bytes p i (u64_bytes n) s in
    rw (first, at 1, at 2, at 3, at 4, at 5, at 6, at 7) (from_le_bytes-to_le_bytes_8 n small)

pub range_stands : (bytes : List ℕ) (b e : ℕ) (xs : List ℕ) → StandsAt bytes b xs → e ≡ b + length xs → slice_range bytes b e ≡ xs
range_stands bytes b e xs s end = ap (λ (n : ℕ). take n (drop b bytes)) (omega arith) ∙ ap (take (length xs)) s.parts
    ∙ take_at xs s.rest (length xs) refl
