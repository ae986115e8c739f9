-- Numbers that are read are in their ranges.
use Rattle.std.proofs.Common.{◌≡◌, ℕ, ◌-◌, ◌<◌, ◌≤◌, Bool, true, false, cond, ◌&&◌, List, [], ◌∷◌, length, map, refl, subst, arith}
use Rattle.std.specs.Prelude.{Option, Some, None, option_map, is_some, All, nat_le, ◌==◌, Ok, ℤ, pos, neg_ℤ, ◌≤ℤ◌}
use Rattle.std.specs.List.{list_all, slice_split}
use Rattle.std.proofs.lemmas.Bool.{and_parts, leb-true}
use Rattle.std.proofs.lemmas.Int.{ints}
use Rattle.std.proofs.lemmas.List.Elements.{All-nil, All-cons}
use Rattle.std.proofs.lemmas.List.Splits.{length-slice_split}
use Rattle.pw_graph.specs.SoundShape.{IsBetween}
use Rattle.pw_lists.specs.Limits.{channels_limit}
use Rattle.graph_script.specs.declared.fault.ScriptWhy.TheVariants as W
use Rattle.graph_script.specs.Arguments.{number_of, integer_of, is_within, is_numeral, digits_number, is_channel, channel_list, is_comma}
use Rattle.graph_script.specs.Checked.{number_arg, integer_arg, list_arg}
use Rattle.graph_script.proofs.CheckedLemmas.{from_some, from_choice, from_map}

pub number_of-within : (low high n : ℕ) (word : List ℕ) → number_of low high word ≡ Some n → IsBetween low high n
number_of-within low high n word e =
    let t = from_choice (is_numeral word && is_within low high (digits_number word)) (digits_number word) n e in
    let p = and_parts (is_numeral word) (is_within low high (digits_number word)) t.0 in
    let q = and_parts (nat_le low (digits_number word)) (nat_le (digits_number word) high) p.1 in
    (subst (λ m. low ≤ m) t.1 (leb-true _ _ q.0), subst (λ m. m ≤ high) t.1 (leb-true _ _ q.1))

pub number-within : (low high n : ℕ) (word : List ℕ) → number_arg low high word ≡ Ok n → IsBetween low high n
number-within low high n word e = number_of-within low high n word (from_some (number_of low high word) W.Number n e)

integer_of-within : (high : ℕ) (z : ℤ) (word : List ℕ) → integer_of high word ≡ Some z → (neg_ℤ (pos high) ≤ℤ z) × (z ≤ℤ pos high)
integer_of-within high z [] e = cc
integer_of-within high z (first ∷ digits) e = at (first == 0x2D) e
  where
    at : (b : Bool) → cond b (option_map (λ n. neg_ℤ (pos n)) (number_of 1 high digits))
        (option_map (λ n. pos n) (number_of 0 high (first ∷ digits))) ≡ Some z → (neg_ℤ (pos high) ≤ℤ z) × (z ≤ℤ pos high)
    at true e =
        let n = from_map (λ n. neg_ℤ (pos n)) (number_of 1 high digits) z e in
        let w = number_of-within 1 high n.0 digits n.1 in
        subst (λ y. (neg_ℤ (pos high) ≤ℤ y) × (y ≤ℤ pos high)) n.2 (omega (arith, ints, w.1), omega (arith, ints, w.1))
    at false e =
        let n = from_map (λ n. pos n) (number_of 0 high (first ∷ digits)) z e in
        let w = number_of-within 0 high n.0 (first ∷ digits) n.1 in
        subst (λ y. (neg_ℤ (pos high) ≤ℤ y) × (y ≤ℤ pos high)) n.2 (omega (arith, ints, w.1), omega (arith, ints, w.1))

pub integer-within : (high : ℕ) (z : ℤ) (word : List ℕ) → integer_arg high word ≡ Ok z → (neg_ℤ (pos high) ≤ℤ z) × (z ≤ℤ pos high)
integer-within high z word e = integer_of-within high z word (from_some (integer_of high word) W.Number z e)

pub digits_number-number_of : (low high n : ℕ) (word : List ℕ) → number_of low high word ≡ Some n → digits_number word ≡ n
digits_number-number_of low high n word e =
    (from_choice (is_numeral word && is_within low high (digits_number word)) (digits_number word) n e).1

channel-below : (channels : ℕ) (item : List ℕ) (o : Option ℕ) → 1 ≤ channels → number_of 0 (channels - 1) item ≡ o → is_some o ≡ true
    → digits_number item < channels
channel-below channels item None some e h = cc
channel-below channels item (Some n) some e h =
    let within = number_of-within 0 (channels - 1) n item e in
    let same = digits_number-number_of 0 (channels - 1) n item e in
    omega (arith, within.1, same)

channels-below : (channels : ℕ) (items : List (List ℕ)) → 1 ≤ channels → list_all (is_channel channels) items ≡ true
    → All (λ n. n < channels) (map digits_number items)
channels-below channels [] some e = All-nil _
channels-below channels (item ∷ items) some e =
    let p = and_parts (is_channel channels item) (list_all (is_channel channels) items) e in
    All-cons (λ n. n < channels) (digits_number item) (map digits_number items)
    (channel-below channels item (number_of 0 (channels - 1) item) some refl p.0) (channels-below channels items some p.1)

length-mapped : (items : List (List ℕ)) → length (map digits_number items) ≡ length items
length-mapped [] = refl
length-mapped (item ∷ items) = rw (length-mapped items) refl

pub list-within : (channels : ℕ) (list : List ℕ) (word : List ℕ) → 1 ≤ channels → list_arg channels word ≡ Ok list
    → IsBetween 1 8 (length list) × All (λ n. n < channels) list
list-within channels list word least e =
    let items = slice_split is_comma word in
    let t = from_choice (list_all (is_channel channels) items && nat_le (length items) channels_limit) (map digits_number items) list
    (from_some (channel_list channels word) W.Number list e) in
    let p = and_parts (list_all (is_channel channels) items) (nat_le (length items) channels_limit) t.0 in
    let few : length items ≤ 8 = leb-true _ _ p.1 in
    let same : length (map digits_number items) ≡ length items = length-mapped items in
    let some = length-slice_split is_comma word in
    subst (λ xs. IsBetween 1 8 (length xs) × All (λ n. n < channels) xs) t.1
    ((omega (arith, some), omega arith), channels-below channels items least p.0)
