-- One step along the list of chunks.
use Rattle.std.proofs.Common.{◌≡◌, ℕ, zero, suc, ◌+◌, ◌-◌, ◌%◌, ◌<◌, ◌≤◌, Bool, true, false, List, [], ◌∷◌, length, drop}
use Rattle.std.proofs.Common.{refl, sym, ap, ◌∙◌, arith, length-drop, if◌then◌else◌, nat_lt}
use Rattle.std.proofs.lemmas.Bool.Decides.{nat_tests}
use Rattle.wav_files.specs.Chunks.{chunk_at, is_data, after, first_chunks, chunks_of}

-- a test that is known
pub if-true : {X : Type 0} (b : Bool) (x y : X) → b ≡ true → (if b then x else y) ≡ x
if-true true x y h = refl
if-true false x y h = absurd (cc)

pub if-false : {X : Type 0} (b : Bool) (x y : X) → b ≡ false → (if b then x else y) ≡ y
if-false true x y h = absurd (cc)
if-false false x y h = refl

-- what follows a chunk is shorter
pub length-after : (bytes : List ℕ) → 8 ≤ length bytes → length (after (chunk_at bytes)) + 8 ≤ length bytes
length-after bytes h =
    let e = length-drop ((chunk_at bytes).size + (chunk_at bytes).size % 2) (drop 8 bytes) in
    let f = length-drop 8 bytes in
    omega (arith, e, f)

-- a row of bytes with no room for a head
first_chunks-end : (n : ℕ) (bytes : List ℕ) → length bytes < 8 → first_chunks n bytes ≡ []
unfolding first_chunks
first_chunks-end zero bytes short = refl
first_chunks-end (suc n) bytes short = if-true (nat_lt (length bytes) 8) [] _ (grind (arith, nat_tests))

-- more room changes nothing
first_chunks-enough : (n m : ℕ) (bytes : List ℕ) → length bytes ≤ n → length bytes ≤ m → first_chunks n bytes ≡ first_chunks m bytes
unfolding first_chunks
first_chunks-enough zero m bytes p q = sym (first_chunks-end m bytes (omega arith))
first_chunks-enough (suc n) zero bytes p q = first_chunks-end (suc n) bytes (omega arith)
first_chunks-enough (suc n) (suc m) bytes p q =
    elim (nat_lt (length bytes) 8) as (λ (b : Bool). nat_lt (length bytes) 8 ≡ b
    → (if b then [] else chunk_at bytes ∷ (if is_data (chunk_at bytes) then [] else first_chunks n (after (chunk_at bytes))))
    ≡ (if b then [] else chunk_at bytes ∷ (if is_data (chunk_at bytes) then [] else first_chunks m (after (chunk_at bytes))))) [
      | true ↦ λ _. refl
      | false ↦ λ h.
          let long : 8 ≤ length bytes = grind (arith, nat_tests) in
          let shorter = length-after bytes long in
          ap (λ rest. chunk_at bytes ∷ (if is_data (chunk_at bytes) then [] else rest))
          (first_chunks-enough n m (after (chunk_at bytes)) (omega (arith, shorter)) (omega (arith, shorter)))
    ] refl

-- a row of bytes with a head at its front
pub chunks_of-head : (bytes : List ℕ) → 8 ≤ length bytes
    → chunks_of bytes ≡ chunk_at bytes ∷ (if is_data (chunk_at bytes) then [] else chunks_of (after (chunk_at bytes)))
unfolding first_chunks chunks_of
chunks_of-head bytes long =
    let size : length bytes ≡ suc (length bytes - 1) = omega arith in
    let test : nat_lt (length bytes) 8 ≡ false = grind (arith, nat_tests) in
    let shorter = length-after bytes long in
    ap (λ (n : ℕ). first_chunks n bytes) size
    ∙ if-false (nat_lt (length bytes) 8) [] _ test
    ∙ ap (λ rest. chunk_at bytes ∷ (if is_data (chunk_at bytes) then [] else rest))
    (first_chunks-enough (length bytes - 1) (length (after (chunk_at bytes))) (after (chunk_at bytes)) (omega (arith, shorter))
    (omega arith))

-- a row of bytes with no room for a head
pub chunks_of-end : (bytes : List ℕ) → length bytes < 8 → chunks_of bytes ≡ []
unfolding chunks_of
chunks_of-end bytes short = first_chunks-end (length bytes) bytes short
