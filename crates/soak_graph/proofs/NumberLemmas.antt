-- A number in its range is read from the word that it is written as.
use Rattle.std.proofs.Common.{◌≡◌, ℕ, zero, suc, ◌+◌, ◌-◌, ◌*◌, ◌^◌, ◌<◌, ◌≤◌, ◌&&◌, ◌||◌, Bool, true, false, not, List, [], ◌∷◌, length, get_or}
use Rattle.std.proofs.Common.{refl, ap, ◌∙◌, subst, arith, decimal}
use Rattle.std.specs.Prelude.{fold, nat_le, ◌==◌, ◌≤ℤ◌, Some, None, option_map, Ok, ok_or, All, ℤ, pos, negsuc, neg_ℤ, if◌then◌else◌}
use Rattle.std.specs.List.{list_all, range_with_len}
use Rattle.std.specs.Fmt.{signed_decimal}
use Rattle.std.proofs.lemmas.Bool.{and_parts, and_from, leb-true, le-leb, eqb-true, eq-eqb}
use Rattle.std.proofs.lemmas.Fmt.{digits_decimal, digits_value-decimal, decimal_nonempty, decimal_digit, first_decimal, length-decimal-le}
use Rattle.std.proofs.lemmas.Int.{ints}
use Rattle.std.proofs.lemmas.List.Elements.{All-nil, All-cons}
use Rattle.std.proofs.lemmas.List.FromFn.{get_or-range_with_len}
use Rattle.std.proofs.lemmas.Str.Parse.{IsDigitsTest, IsNumeralModel, numerals_by_fold}
use Rattle.graph_script.specs.declared.fault.ScriptWhy.TheVariants as W
use Rattle.graph_script.specs.Arguments.{is_within, is_digit, is_numeral, digits_number, number_of, integer_of}
use Rattle.graph_script.specs.Checked.{number_arg, integer_arg}
use Rattle.graph_script.proofs.TextLemmas.{IsWordByte, IsWord}
use Rattle.soak_graph.proofs.ReadingLemmas.{word_bytes}

-- the digits of a number
are_digits : IsDigitsTest (λ ds. list_all is_digit ds ≡ true)
are_digits = record {
  empty = refl;
  parts = λ c cs e. let k = and_parts (is_digit c) (list_all is_digit cs) e in
      let m = and_parts (nat_le 0x30 c) (nat_le c 0x39) k.0 in ((leb-true 48 c m.0, leb-true c 57 m.1), k.1);
  more = λ c cs k e. and_from (is_digit c) (list_all is_digit cs)
      (and_from (nat_le 0x30 c) (nat_le c 0x39) (le-leb 48 c k.0) (le-leb c 57 k.1)) e;
}

numerals : IsNumeralModel (λ ds. list_all is_digit ds ≡ true) digits_number
numerals = numerals_by_fold (λ ds. list_all is_digit ds ≡ true) are_digits (λ n ds. fold (λ m b. m * 10 + (b - 0x30)) n ds)
    (record { empty = λ n. refl; more = λ n c cs k. refl })

digits : (n : ℕ) → n < 2 ^ 64 → list_all is_digit (decimal n) ≡ true
digits n small = digits_decimal numerals n small

digit_byte : (b : ℕ) → is_digit b ≡ true → IsWordByte b
digit_byte b e =
    let m = and_parts (nat_le 0x30 b) (nat_le b 0x39) e in
    let low = leb-true 48 b m.0 in
    let high = leb-true b 57 m.1 in
    let same : 48 + (b - 48) ≡ b = omega arith in
    subst IsWordByte (get_or-range_with_len 48 10 (b - 48) 0 (omega arith) ∙ same)
    (word_bytes (range_with_len 48 10) refl (b - 48) 0 (omega arith))

digit_bytes : (ds : List ℕ) → list_all is_digit ds ≡ true → All IsWordByte ds
digit_bytes [] e = All-nil IsWordByte
digit_bytes (b ∷ ds) e =
    let p = and_parts (is_digit b) (list_all is_digit ds) e in
    All-cons IsWordByte b ds (digit_byte b p.0) (digit_bytes ds p.1)

-- it is a word, with a sign too
pub decimal-word : (n : ℕ) → n < 2 ^ 64 → IsWord (decimal n)
decimal-word n small = record { some = decimal_nonempty n small; bytes = digit_bytes (decimal n) (digits n small) }

pub signed-word : (high : ℕ) (z : ℤ) → high < 2 ^ 63 → neg_ℤ (pos high) ≤ℤ z → z ≤ℤ pos high → IsWord (signed_decimal z)
signed-word high (pos n) small below above = decimal-word n (omega (arith, ints))
signed-word high (negsuc n) small below above =
    let word = decimal-word (suc n) (omega (arith, ints)) in
    record {
      some = omega arith;
      bytes = All-cons IsWordByte 45 (decimal (suc n)) (word_bytes (45 ∷ []) refl 0 0 (omega arith)) word.bytes;
    }

-- a short one, where the number is small
pub signed-short : (z : ℤ) → neg_ℤ (pos 256) ≤ℤ z → z ≤ℤ pos 256 → length (signed_decimal z) ≤ 4
signed-short (pos n) below above = let small : n ≤ 256 = omega (arith, ints) in length-decimal-le 4 n (omega arith) (omega arith) (omega arith)
signed-short (negsuc n) below above =
    let small : n ≤ 255 = omega (arith, ints) in
    let few = length-decimal-le 3 (suc n) (omega arith) (omega arith) (omega arith) in
    omega arith

-- it has no leading zero
numeral_from : (ds : List ℕ) → list_all is_digit ds ≡ true → 0 < length ds → (get_or ds 0 0 ≡ 48 → length ds ≡ 1)
    → is_numeral ds ≡ true
numeral_from [] e some lead = absurd (omega arith)
numeral_from (c ∷ cs) e some lead =
    and_from (list_all is_digit (c ∷ cs)) (not (c == 0x30) || length cs == 0) e (at (c == 0x30) refl)
  where
    at : (b : Bool) → (c == 0x30) ≡ b → (not b || length cs == 0) ≡ true
    at true is = let one = lead (eqb-true c 48 is) in eq-eqb (length cs) 0 (omega arith)
    at false is = refl

lead_of : (n : ℕ) → n < 2 ^ 64 → get_or (decimal n) 0 0 ≡ 48 → length (decimal n) ≡ 1
lead_of zero small e = ap length (decimal_digit 0 (omega arith))
lead_of (suc n) small e = let first = first_decimal (suc n) (omega arith) small in absurd (omega arith)

numeral : (n : ℕ) → n < 2 ^ 64 → is_numeral (decimal n) ≡ true
numeral n small = numeral_from (decimal n) (digits n small) (decimal_nonempty n small) (lead_of n small)

-- so it is read as the number
number_of-decimal : (low high n : ℕ) → high < 2 ^ 64 → low ≤ n → n ≤ high → number_of low high (decimal n) ≡ Some n
number_of-decimal low high n small below above =
    let word = decimal n in
    let value : digits_number word ≡ n = digits_value-decimal numerals n (omega arith) in
    let within = and_from (nat_le low n) (nat_le n high) (le-leb low n below) (le-leb n high above) in
    ap (λ m. if is_numeral word && is_within low high m then Some m else None) value
    ∙ ap (λ b. if b && is_within low high n then Some n else None) (numeral n (omega arith))
    ∙ ap (λ b. if b then Some n else None) within

pub number_arg-decimal : (low high n : ℕ) → high < 2 ^ 64 → low ≤ n → n ≤ high → number_arg low high (decimal n) ≡ Ok n
number_arg-decimal low high n small below above = ap (λ o. ok_or o W.Number) (number_of-decimal low high n small below above)

-- one without a sign, and one with it
plain-integer : (high n : ℕ) (word : List ℕ) → list_all is_digit word ≡ true → number_of 0 high word ≡ Some n
    → integer_of high word ≡ Some (pos n)
plain-integer high n [] e is = cc
plain-integer high n (c ∷ cs) e is = at (c == 0x2D) refl
  where
    at : (b : Bool) → (c == 0x2D) ≡ b → integer_of high (c ∷ cs) ≡ Some (pos n)
    at true same =
        let p = and_parts (is_digit c) (list_all is_digit cs) e in
        let m = and_parts (nat_le 0x30 c) (nat_le c 0x39) p.0 in
        let low = leb-true 48 c m.0 in
        let here = eqb-true c 0x2D same in
        absurd (omega arith)
    at false same =
        ap (λ b. if b then option_map (λ m. neg_ℤ (pos m)) (number_of 1 high cs) else option_map (λ m. pos m) (number_of 0 high (c ∷ cs))) same
        ∙ ap (λ o. option_map (λ m. pos m) o) is

integer_of-decimal : (high : ℕ) (z : ℤ) → high < 2 ^ 63 → neg_ℤ (pos high) ≤ℤ z → z ≤ℤ pos high
    → integer_of high (signed_decimal z) ≡ Some z
integer_of-decimal high (pos n) small below above =
    plain-integer high n (decimal n) (digits n (omega (arith, ints))) (number_of-decimal 0 high n (omega arith) (omega arith) (omega (arith, ints)))
integer_of-decimal high (negsuc n) small below above =
    ap (λ o. option_map (λ m. neg_ℤ (pos m)) o) (number_of-decimal 1 high (suc n) (omega arith) (omega arith) (omega (arith, ints)))

pub integer_arg-decimal : (high : ℕ) (z : ℤ) → high < 2 ^ 63 → neg_ℤ (pos high) ≤ℤ z → z ≤ℤ pos high
    → integer_arg high (signed_decimal z) ≡ Ok z
integer_arg-decimal high z small below above = ap (λ o. ok_or o W.Number) (integer_of-decimal high z small below above)
