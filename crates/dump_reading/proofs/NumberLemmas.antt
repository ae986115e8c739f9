-- Numbers that are written are read back.
use Rattle.std.proofs.Common.{◌≡◌, ℕ, ℤ, zero, suc, ◌+◌, ◌-◌, ◌*◌, ◌^◌, ◌<◌, ◌≤◌, ◌%◌, true, not, ◌&&◌, ◌||◌, inl, inr}
use Rattle.std.proofs.Common.{List, [], ◌∷◌, ◌++◌, length, get_or, refl, ap, ◌∙◌, arith, decimal, pos, negsuc, neg_ℤ}
use Rattle.std.specs.Prelude.{fold, nat_le, ◌==◌, Some, None, option_map}
use Rattle.std.specs.List.{list_all}
use Rattle.std.specs.Fmt.{signed_decimal}
use Rattle.std.proofs.lemmas.Bool.{and_parts, and_from, or_left, or_right, leb-true, le-leb, eqb-true, eq-eqb, ne_eqb, not_from_false, cases_Bool, cond-true, cond-false}
use Rattle.std.proofs.lemmas.Fmt.{digits_decimal, digits_value-decimal, decimal_by_steps, decimal_digit, decimal_nonempty, first_decimal}
use Rattle.std.proofs.lemmas.Str.Parse.{IsDigitsTest, IsNumeralModel, numerals_by_fold}
use lib.Signed.{mag}
use Rattle.dump_reading.specs.working.Numerals.{is_digit, is_numeral, digits_number, number_of}
use Rattle.dump_reading.specs.working.Numbers.{number_said, both, pair_in, pair_said, with_pair, triple_in, triple_said, integer_said}
use Rattle.dump_reading.proofs.CuttingLemmas.{is_free, free_both, cut_back}

are_digits : IsDigitsTest (λ ds. list_all is_digit ds ≡ true)
are_digits = record {
  empty = refl;
  parts = λ c cs e. let k = and_parts (is_digit c) (list_all is_digit cs) e in
      let m = and_parts (nat_le 0x30 c) (nat_le c 0x39) k.0 in ((leb-true 48 c m.0, leb-true c 57 m.1), k.1);
  more = λ c cs k e. and_from (is_digit c) (list_all is_digit cs)
      (and_from (nat_le 0x30 c) (nat_le c 0x39) (le-leb 48 c k.0) (le-leb c 57 k.1)) e;
}

numerals : IsNumeralModel (λ ds. list_all is_digit ds ≡ true) digits_number
numerals = numerals_by_fold (λ ds. list_all is_digit ds ≡ true) are_digits (λ n ds. fold (λ m b. m * 10 + (b - 0x30)) n ds)
    (record { empty = λ n. refl; more = λ n c cs k. refl })

lead : (n : ℕ) → n < 2 ^ 64 → get_or (decimal n) 0 0 ≡ 48 → length (decimal n) ≡ 1
lead zero small e = ap length (decimal_digit 0 (omega arith))
lead (suc n) small e = absurd (omega (arith, first_decimal (suc n) (omega arith) small))

numeral_from : (ds : List ℕ) → list_all is_digit ds ≡ true → 0 < length ds → (get_or ds 0 0 ≡ 48 → length ds ≡ 1) → is_numeral ds ≡ true
numeral_from [] h some one = absurd (omega arith)
numeral_from (d ∷ ds) h some one =
    and_from (list_all is_digit (d ∷ ds)) (not (d == 0x30) || length ds == 0) h
    (elim (cases_Bool (d == 0x30)) [
      | inl e ↦ or_right (not (d == 0x30)) (length ds == 0) (eq-eqb (length ds) 0 (omega (arith, one (eqb_same d e))))
      | inr e ↦ or_left (not (d == 0x30)) (length ds == 0) (not_from_false (d == 0x30) e)
    ])
  where
    eqb_same : (c : ℕ) → (c == 0x30) ≡ true → c ≡ 48
    eqb_same c e = eqb-true c 48 e

is_numeral-decimal : (n : ℕ) → n < 2 ^ 64 → is_numeral (decimal n) ≡ true
is_numeral-decimal n small = numeral_from (decimal n) (digits_decimal numerals n small) (decimal_nonempty n small) (lead n small)

pub number_of-decimal : (low high n : ℕ) → low ≤ n → n ≤ high → n < 2 ^ 64 → number_of low high (decimal n) ≡ Some n
number_of-decimal low high n l h small =
    let v = digits_number (decimal n) in
    let is : v ≡ n = digits_value-decimal numerals n small in
    let within : (nat_le low v && nat_le v high) ≡ true =
    and_from (nat_le low v) (nat_le v high) (le-leb low v (omega arith)) (le-leb v high (omega arith)) in
    cond-true (is_numeral (decimal n) && (nat_le low v && nat_le v high)) (Some v) None
    (and_from (is_numeral (decimal n)) (nat_le low v && nat_le v high) (is_numeral-decimal n small) within)
    ∙ ap Some is

pub number_back : (n : ℕ) → n < 2 ^ 32 → number_said (decimal n) ≡ Some n
unfolding number_said
number_back n h = number_of-decimal 0 4294967295 n (omega arith) (omega arith) (omega arith)

-- a mark that is no digit is in no number
pub free_of : (mark n : ℕ) → n < 2 ^ 64 → ((d : ℕ) → 48 ≤ d → d ≤ 57 → d ≡ mark → ⊥) → is_free mark (decimal n) ≡ true
free_of mark n small other = decimal_by_steps (λ m ds. is_free mark ds ≡ true)
    (λ m l. alone (48 + m) (omega arith) (omega arith))
    (λ m ds l h. free_both mark ds ((48 + m % 10) ∷ []) h (alone (48 + m % 10) (omega arith) (omega arith)))
    n small
  where
    alone : (d : ℕ) → 48 ≤ d → d ≤ 57 → is_free mark (d ∷ []) ≡ true
    alone d l h = and_from (not (d == mark)) true (not_from_false (d == mark) (ne_eqb d mark (other d l h))) refl

pub pair_back : (mark a b : ℕ) → ((d : ℕ) → 48 ≤ d → d ≤ 57 → d ≡ mark → ⊥) → a < 2 ^ 32 → b < 2 ^ 32
    → pair_said mark (decimal a ++ mark ∷ decimal b) ≡ Some (a, b)
unfolding pair_said
pair_back mark a b other h k =
    ap pair_in (cut_back mark (decimal a) (decimal b) (free_of mark a (omega arith) other))
    ∙ (λ i. both (number_back a h i) (number_back b k i))

pub space_other : (d : ℕ) → 48 ≤ d → d ≤ 57 → d ≡ 32 → ⊥
space_other d l h e = omega arith

pub triple_back : (a b c : ℕ) → a < 2 ^ 32 → b < 2 ^ 32 → c < 2 ^ 32
    → triple_said (decimal a ++ 32 ∷ (decimal b ++ 32 ∷ decimal c)) ≡ Some (a, b, c)
unfolding triple_said
triple_back a b c h k l =
    ap triple_in (cut_back 32 (decimal a) (decimal b ++ 32 ∷ decimal c) (free_of 32 a (omega arith) space_other))
    ∙ (λ i. with_pair (number_back a h i) (pair_back 32 b c space_other k l i))

-- signed numbers
positive : (high n : ℕ) (ds : List ℕ) → list_all is_digit ds ≡ true → 0 < length ds → number_of 0 high ds ≡ Some n
    → integer_said high ds ≡ Some (pos n)
unfolding integer_said
positive high n [] d some e = absurd (omega arith)
positive high n (c ∷ cs) d some e =
    let digit = (and_parts (is_digit c) (list_all is_digit cs) d).0 in
    let low = leb-true 48 c (and_parts (nat_le 0x30 c) (nat_le c 0x39) digit).0 in
    cond-false (c == 0x2D) (option_map (λ m. neg_ℤ (pos m)) (number_of 1 (high + 1) cs))
    (option_map (λ m. pos m) (number_of 0 high (c ∷ cs))) (ne_eqb c 45 (λ x. omega arith))
    ∙ ap (option_map (λ m. pos m)) e

pub integer_back : (high : ℕ) (z : ℤ) → high < 2 ^ 63 → mag z ≤ high → integer_said high (signed_decimal z) ≡ Some z
unfolding integer_said
integer_back high (pos n) small h =
    positive high n (decimal n) (digits_decimal numerals n (omega arith)) (decimal_nonempty n (omega arith))
    (number_of-decimal 0 high n (omega arith) (omega arith) (omega arith))
integer_back high (negsuc n) small h =
    ap (option_map (λ m. neg_ℤ (pos m))) (number_of-decimal 1 (high + 1) (suc n) (omega arith) (omega arith) (omega arith))

-- signed numbers have no line feed
pub free_signed : (z : ℤ) → mag z < 2 ^ 63 → is_free 10 (signed_decimal z) ≡ true
free_signed (pos n) h = free_of 10 n (omega arith) (λ d l k e. omega arith)
free_signed (negsuc n) h = free_of 10 (suc n) (omega arith) (λ d l k e. omega arith)

pub free_number : (n : ℕ) → n < 2 ^ 32 → is_free 10 (decimal n) ≡ true
free_number n h = free_of 10 n (omega arith) (λ d l k e. omega arith)
