-- A number that is read is written back as the word that it was read from.
use Rattle.std.proofs.Common.{◌≡◌, ℕ, zero, suc, ◌+◌, ◌-◌, ◌*◌, ◌^◌, ◌<◌, ◌≤◌, ◌&&◌, ◌||◌, Bool, true, false, cond, not, List, [], ◌∷◌, length, get_or, map}
use Rattle.std.proofs.Common.{refl, sym, ap, ◌∙◌, arith, decimal}
use Rattle.std.specs.Prelude.{fold, nat_le, ◌==◌, Option, Some, None, option_map, is_some, Ok, ℤ, pos, neg_ℤ}
use Rattle.std.specs.List.{list_all, slice_split, join_with_byte}
use Rattle.std.specs.Fmt.{signed_decimal}
use Rattle.std.proofs.lemmas.Bool.{and_parts, and_from, leb-true, le-leb, eqb-true, eq-eqb}
use Rattle.std.proofs.lemmas.Fmt.{decimal-digits_value}
use Rattle.std.proofs.lemmas.Str.Parse.{IsDigitsTest, IsNumeralModel, numerals_by_fold}
use Rattle.std.proofs.lemmas.List.Splits.{join_with_byte-slice_split}
use Rattle.graph_script.specs.declared.fault.ScriptWhy.TheVariants as W
use Rattle.graph_script.specs.Arguments.{is_within, is_digit, is_numeral, digits_number, number_of, integer_of, is_channel, is_comma, channel_list}
use Rattle.graph_script.specs.Checked.{number_arg, integer_arg, list_arg}
use Rattle.graph_script.specs.Printing.{list_word}
use Rattle.graph_script.proofs.CheckedLemmas.{from_some, from_choice, from_map}
use Rattle.graph_script.proofs.RangeLemmas.{number_of-within, digits_number-number_of}

are_digits : IsDigitsTest (λ ds. list_all is_digit ds ≡ true)
are_digits = record {
  empty = refl;
  parts = λ c cs e. let k = and_parts (is_digit c) (list_all is_digit cs) e in
      let m = and_parts (nat_le 0x30 c) (nat_le c 0x39) k.0 in ((leb-true 48 c m.0, leb-true c 57 m.1), k.1);
  more = λ c cs k e. and_from (is_digit c) (list_all is_digit cs)
      (and_from (nat_le 0x30 c) (nat_le c 0x39) (le-leb 48 c k.0) (le-leb c 57 k.1)) e;
}

numerals : IsNumeralModel (λ ds. list_all is_digit ds ≡ true) digits_number
numerals = numerals_by_fold (λ ds. list_all is_digit ds ≡ true) are_digits (λ n ds. fold (λ m b. m * 10 + (b - 0x30)) n ds)
    (record { empty = λ n. refl; more = λ n c cs k. refl })

decimal-numeral : (word : List ℕ) → is_numeral word ≡ true → digits_number word < 2 ^ 64 → decimal (digits_number word) ≡ word
decimal-numeral [] e small = cc
decimal-numeral (first ∷ rest) e small =
    let p = and_parts (list_all is_digit (first ∷ rest)) (not (first == 0x30) || length rest == 0) e in
    decimal-digits_value numerals (first ∷ rest) p.0 (omega arith) (alone p.1) small
  where
    at : (b : Bool) → (first == 0x30) ≡ b → (not b || length rest == 0) ≡ true → first ≡ 48 → length (first ∷ rest) ≡ 1
    at true is e h = let none : length rest ≡ 0 = eqb-true (length rest) 0 e in omega arith
    at false is e h = cc (eq-eqb first 48 h)

    alone : (not (first == 0x30) || length rest == 0) ≡ true → get_or (first ∷ rest) 0 0 ≡ 48 → length (first ∷ rest) ≡ 1
    alone e h = at (first == 0x30) refl e h

-- so is a number from low to high
decimal-number_of : (low high n : ℕ) (word : List ℕ) → high < 2 ^ 64 → number_of low high word ≡ Some n → decimal n ≡ word
decimal-number_of low high n word small e =
    let t = from_choice (is_numeral word && is_within low high (digits_number word)) (digits_number word) n e in
    let p = and_parts (is_numeral word) (is_within low high (digits_number word)) t.0 in
    let within = number_of-within low high n word e in
    let same : digits_number word ≡ n = t.1 in
    ap decimal (sym same) ∙ decimal-numeral word p.0 (omega arith)

pub decimal-number_arg : (low high n : ℕ) (word : List ℕ) → high < 2 ^ 64 → number_arg low high word ≡ Ok n → decimal n ≡ word
decimal-number_arg low high n word small e = decimal-number_of low high n word small (from_some (number_of low high word) W.Number n e)

-- and one that may have a sign
negative-decimal : (n : ℕ) → 1 ≤ n → signed_decimal (neg_ℤ (pos n)) ≡ 0x2D ∷ decimal n
negative-decimal zero h = absurd (omega arith)
negative-decimal (suc n) h = refl

decimal-integer_of : (high : ℕ) (z : ℤ) (word : List ℕ) → high < 2 ^ 64 → integer_of high word ≡ Some z → signed_decimal z ≡ word
decimal-integer_of high z [] small e = cc
decimal-integer_of high z (first ∷ digits) small e = at (first == 0x2D) refl e
  where
    at : (b : Bool) → (first == 0x2D) ≡ b → cond b (option_map (λ n. neg_ℤ (pos n)) (number_of 1 high digits))
        (option_map (λ n. pos n) (number_of 0 high (first ∷ digits))) ≡ Some z → signed_decimal z ≡ first ∷ digits
    at true is e =
        let n = from_map (λ n. neg_ℤ (pos n)) (number_of 1 high digits) z e in
        let within = number_of-within 1 high n.0 digits n.1 in
        ap signed_decimal (sym n.2) ∙ negative-decimal n.0 within.0
        ∙ (λ i. sym (eqb-true first 0x2D is) i ∷ decimal-number_of 1 high n.0 digits small n.1 i)
    at false is e =
        let n = from_map (λ n. pos n) (number_of 0 high (first ∷ digits)) z e in
        ap signed_decimal (sym n.2) ∙ decimal-number_of 0 high n.0 (first ∷ digits) small n.1

pub decimal-integer_arg : (high : ℕ) (z : ℤ) (word : List ℕ) → high < 2 ^ 64 → integer_arg high word ≡ Ok z → signed_decimal z ≡ word
decimal-integer_arg high z word small e = decimal-integer_of high z word small (from_some (integer_of high word) W.Number z e)

-- and a list of channels
decimal-item : (channels : ℕ) (item : List ℕ) (o : Option ℕ) → channels - 1 < 2 ^ 64 → number_of 0 (channels - 1) item ≡ o
    → is_some o ≡ true → decimal (digits_number item) ≡ item
decimal-item channels item None small e h = cc
decimal-item channels item (Some n) small e h =
    ap decimal (digits_number-number_of 0 (channels - 1) n item e) ∙ decimal-number_of 0 (channels - 1) n item small e

decimal-items : (channels : ℕ) (items : List (List ℕ)) → channels - 1 < 2 ^ 64 → list_all (is_channel channels) items ≡ true
    → map decimal (map digits_number items) ≡ items
decimal-items channels [] small e = refl
decimal-items channels (item ∷ items) small e =
    let p = and_parts (is_channel channels item) (list_all (is_channel channels) items) e in
    (λ i. decimal-item channels item (number_of 0 (channels - 1) item) small refl p.0 i ∷ decimal-items channels items small p.1 i)

pub list_word-list_arg : (channels : ℕ) (list : List ℕ) (word : List ℕ) → channels - 1 < 2 ^ 64 → list_arg channels word ≡ Ok list
    → list_word list ≡ word
list_word-list_arg channels list word small e =
    let items = slice_split is_comma word in
    let t = from_choice (list_all (is_channel channels) items && nat_le (length items) 8) (map digits_number items) list
    (from_some (channel_list channels word) W.Number list e) in
    let p = and_parts (list_all (is_channel channels) items) (nat_le (length items) 8) t.0 in
    ap list_word (sym t.1) ∙ ap (join_with_byte 0x2C) (decimal-items channels items small p.0) ∙ join_with_byte-slice_split 0x2C word
