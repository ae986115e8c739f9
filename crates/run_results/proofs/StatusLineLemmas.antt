-- Laws of `specs/StatusLine.antt`: a number's digits, and a line by its first number.
use Rattle.std.proofs.Common.{◌≡◌, ℕ, ◌+◌, ◌/◌, ◌%◌, ◌^◌, ◌<◌, ◌≤◌, List, [], ◌∷◌, ◌++◌, length, sym, ap, ◌∙◌}
use Rattle.std.proofs.Common.{append_assoc, length-append, arith}
use Rattle.std.specs.Fmt.{decimal}
use Rattle.std.proofs.lemmas.Fmt.{decimal_digit, decimal_step, length-decimal-le}

pub decimal_one : (line : List ℕ) (n : ℕ) → n < 10 → line ++ (48 + n) ∷ [] ≡ line ++ decimal n
decimal_one line n h = ap (λ d. line ++ d) (sym (decimal_digit n h))

pub decimal_more : (line : List ℕ) (n : ℕ) → 10 ≤ n → n < 2 ^ 64 → (line ++ decimal (n / 10)) ++ (48 + n % 10) ∷ [] ≡ line ++ decimal n
decimal_more line n h k = append_assoc line (decimal (n / 10)) _ ∙ ap (λ d. line ++ d) (sym (decimal_step n h k))

pub length-decimal_more : (n : ℕ) → 10 ≤ n → n < 2 ^ 64 → length (decimal n) ≡ length (decimal (n / 10)) + 1
length-decimal_more n h k = ap length (decimal_step n h k) ∙ length-append (decimal (n / 10)) ((48 + n % 10) ∷ [])

pub length-decimal_one : (n : ℕ) → n < 10 → length (decimal n) ≡ 1
length-decimal_one n h = ap length (decimal_digit n h)

pub length-decimal_u32 : (n : ℕ) → n < 2 ^ 32 → length (decimal n) ≤ 10
length-decimal_u32 n h = length-decimal-le 10 n (omega arith) (omega arith) (omega arith)
