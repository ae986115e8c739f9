-- What was joined is cut at the same place.
use Rattle.std.proofs.Common.{◌≡◌, ℕ, zero, suc, ◌*◌, ◌<◌, Bool, true, false, not, ◌&&◌, List, [], ◌∷◌, ◌++◌, length, get_or, take, drop}
use Rattle.std.proofs.Common.{replicate, refl, ap, ◌∙◌, arith, append_assoc, length-append, ◌==◌, nat_le}
use Rattle.std.specs.Prelude.{Some, None}
use Rattle.std.specs.List.{list_all}
use Rattle.std.proofs.lemmas.Bool.{and_parts, and_from, not-true, eq-eqb, le-leb, cond-true}
use Rattle.std.proofs.lemmas.List.{get_or_append_left, get_or_at, take_at, drop_at, length-replicate}
use Rattle.std.proofs.lemmas.List.Folds.{list_all-append}
use Rattle.std.proofs.lemmas.List.Sums.{position_or_len_is}
use Rattle.dump_reading.specs.working.Cutting.{front_len, parted, cut_at, behind_spaces}
use Rattle.dump_reading.specs.working.Lines.{with_rest, line_in, line_said}

-- no byte is the mark
abbrev pub is_free : ℕ → List ℕ → Bool
is_free mark text = list_all (λ b. not (b == mark)) text

pub free_both : (mark : ℕ) (a b : List ℕ) → is_free mark a ≡ true → is_free mark b ≡ true → is_free mark (a ++ b) ≡ true
free_both mark a b h k = list_all-append (λ c. not (c == mark)) a b ∙ and_from (is_free mark a) (is_free mark b) h k

free_at : (mark : ℕ) (front : List ℕ) (k : ℕ) → is_free mark front ≡ true → k < length front → (get_or front k 0 == mark) ≡ false
free_at mark [] k h l = absurd (omega arith)
free_at mark (b ∷ bs) zero h l = not-true (b == mark) (and_parts (not (b == mark)) (is_free mark bs) h).0
free_at mark (b ∷ bs) (suc k) h l = free_at mark bs k (and_parts (not (b == mark)) (is_free mark bs) h).1 (omega arith)

place : (mark : ℕ) (front rest : List ℕ) → is_free mark front ≡ true → front_len mark (front ++ mark ∷ rest) ≡ length front
place mark front rest h = position_or_len_is (λ b. b == mark) (front ++ mark ∷ rest) (length front) 0
    (omega (arith, length-append front (mark ∷ rest)))
    (λ k l. ap (λ b. b == mark) (get_or_append_left front (mark ∷ rest) 0 k l) ∙ free_at mark front k h l)
    (λ l. ap (λ b. b == mark) (get_or_at front mark rest 0 (length front) refl) ∙ eq-eqb mark mark refl)

pub cut_back : (mark : ℕ) (front rest : List ℕ) → is_free mark front ≡ true → cut_at mark (front ++ mark ∷ rest) ≡ Some (front, rest)
unfolding cut_at
cut_back mark front rest h =
    let xs = front ++ mark ∷ rest in
    ap (λ n. parted (take n xs) (drop n xs)) (place mark front rest h)
    ∙ (λ i. parted (take_at front (mark ∷ rest) (length front) refl i) (drop_at front (mark ∷ rest) (length front) refl i))

all_spaces : (n : ℕ) → list_all (λ b. b == 32) (replicate n 32) ≡ true
all_spaces zero = refl
all_spaces (suc n) = all_spaces n

spaces_free : (n : ℕ) → is_free 10 (replicate n 32) ≡ true
spaces_free zero = refl
spaces_free (suc n) = spaces_free n

indent_back : (n : ℕ) (words : List ℕ) → behind_spaces n (replicate n 32 ++ words) ≡ Some words
unfolding behind_spaces
indent_back n words =
    let xs : List ℕ = replicate n 32 ++ words in
    let front : take n xs ≡ replicate n 32 = take_at (replicate n 32) words n (length-replicate n 32) in
    let back : drop n xs ≡ words = drop_at (replicate n 32) words n (length-replicate n 32) in
    let long : nat_le n (length xs) ≡ true =
    le-leb n (length xs) (omega (arith, length-append (replicate n 32) words, length-replicate {A = ℕ} n 32)) in
    let all : list_all (λ b. b == 32) (take n xs) ≡ true = ap (list_all (λ b. b == 32)) front ∙ all_spaces n in
    cond-true (nat_le n (length xs) && list_all (λ b. b == 32) (take n xs)) (Some (drop n xs)) None
    (and_from (nat_le n (length xs)) (list_all (λ b. b == 32) (take n xs)) long all)
    ∙ ap Some back

-- a line that is written is read
pub line_back : (level : ℕ) (words rest : List ℕ) → is_free 10 words ≡ true
    → line_said level ((replicate (2 * level) 32 ++ (words ++ 10 ∷ [])) ++ rest) ≡ Some (words, rest)
unfolding line_said
line_back level words rest h =
    let spaces : List ℕ = replicate (2 * level) 32 in
    let same : (spaces ++ (words ++ 10 ∷ [])) ++ rest ≡ (spaces ++ words) ++ 10 ∷ rest = simp append_assoc in
    ap (λ t. line_in level (cut_at 10 t)) same
    ∙ ap (line_in level) (cut_back 10 (spaces ++ words) rest (free_both 10 spaces words (spaces_free (2 * level)) h))
    ∙ ap (with_rest rest) (indent_back (2 * level) words)
