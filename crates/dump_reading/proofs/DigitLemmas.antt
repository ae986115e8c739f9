-- Bytes that are written as two digits are read back.
use Rattle.std.proofs.Common.{◌≡◌, ℕ, zero, suc, ◌+◌, ◌*◌, ◌/◌, ◌%◌, ◌^◌, ◌<◌, ◌≤◌, true, not, List, [], ◌∷◌, ◌++◌}
use Rattle.std.proofs.Common.{refl, ap, ◌∙◌, arith, ◌==◌, nat_le}
use Rattle.std.specs.Prelude.{Some, codes, slice_index, option_and_then}
use Rattle.std.specs.Int.{w32, w64, to_be_bytes}
use Rattle.std.proofs.lemmas.Bool.{and_from, leb-true, ne_eqb, not_from_false}
use Rattle.std.proofs.lemmas.List.Concat.{flat_map-cons}
use Rattle.std.proofs.lemmas.Nat.{from_be_bytes-to_be_bytes_4, from_be_bytes-to_be_bytes_8}
use Rattle.pod_codec.specs.DumpWords.{hex_digits, hex}
use Rattle.dump_reading.specs.working.Bytes.{digit_said, byte_of, byte_said, onto, hex_said, four_said, eight_said, float_said, double_said}
use Rattle.dump_reading.specs.working.Bytes.{inner_of, unquoted, quoted_hex_said}
use Rattle.dump_reading.specs.WellFormed.{AreBytes}
use Rattle.dump_reading.proofs.CuttingLemmas.{is_free, free_both, cut_back}

-- the digit of a number
abbrev pub digit_of : ℕ → ℕ
digit_of k = slice_index (codes "0123456789abcdef") k

pub digit_back : (k : ℕ) → k < 16 → digit_said (digit_of k) ≡ Some k
unfolding digit_said
digit_back zero h = refl
digit_back (suc zero) h = refl
digit_back (suc (suc zero)) h = refl
digit_back (suc (suc (suc zero))) h = refl
digit_back (suc (suc (suc (suc zero)))) h = refl
digit_back (suc (suc (suc (suc (suc zero))))) h = refl
digit_back (suc (suc (suc (suc (suc (suc zero)))))) h = refl
digit_back (suc (suc (suc (suc (suc (suc (suc zero))))))) h = refl
digit_back (suc (suc (suc (suc (suc (suc (suc (suc zero)))))))) h = refl
digit_back (suc (suc (suc (suc (suc (suc (suc (suc (suc zero))))))))) h = refl
digit_back (suc (suc (suc (suc (suc (suc (suc (suc (suc (suc zero)))))))))) h = refl
digit_back (suc (suc (suc (suc (suc (suc (suc (suc (suc (suc (suc zero))))))))))) h = refl
digit_back (suc (suc (suc (suc (suc (suc (suc (suc (suc (suc (suc (suc zero)))))))))))) h = refl
digit_back (suc (suc (suc (suc (suc (suc (suc (suc (suc (suc (suc (suc (suc zero))))))))))))) h = refl
digit_back (suc (suc (suc (suc (suc (suc (suc (suc (suc (suc (suc (suc (suc (suc zero)))))))))))))) h = refl
digit_back (suc (suc (suc (suc (suc (suc (suc (suc (suc (suc (suc (suc (suc (suc (suc zero))))))))))))))) h = refl
digit_back (suc (suc (suc (suc (suc (suc (suc (suc (suc (suc (suc (suc (suc (suc (suc (suc n)))))))))))))))) h = absurd (omega arith)

least : (k : ℕ) → k < 16 → nat_le 48 (digit_of k) ≡ true
least zero h = refl
least (suc zero) h = refl
least (suc (suc zero)) h = refl
least (suc (suc (suc zero))) h = refl
least (suc (suc (suc (suc zero)))) h = refl
least (suc (suc (suc (suc (suc zero))))) h = refl
least (suc (suc (suc (suc (suc (suc zero)))))) h = refl
least (suc (suc (suc (suc (suc (suc (suc zero))))))) h = refl
least (suc (suc (suc (suc (suc (suc (suc (suc zero)))))))) h = refl
least (suc (suc (suc (suc (suc (suc (suc (suc (suc zero))))))))) h = refl
least (suc (suc (suc (suc (suc (suc (suc (suc (suc (suc zero)))))))))) h = refl
least (suc (suc (suc (suc (suc (suc (suc (suc (suc (suc (suc zero))))))))))) h = refl
least (suc (suc (suc (suc (suc (suc (suc (suc (suc (suc (suc (suc zero)))))))))))) h = refl
least (suc (suc (suc (suc (suc (suc (suc (suc (suc (suc (suc (suc (suc zero))))))))))))) h = refl
least (suc (suc (suc (suc (suc (suc (suc (suc (suc (suc (suc (suc (suc (suc zero)))))))))))))) h = refl
least (suc (suc (suc (suc (suc (suc (suc (suc (suc (suc (suc (suc (suc (suc (suc zero))))))))))))))) h = refl
least (suc (suc (suc (suc (suc (suc (suc (suc (suc (suc (suc (suc (suc (suc (suc (suc n)))))))))))))))) h = absurd (omega arith)

pub byte_back : (b : ℕ) → b < 256 → byte_said (digit_of (b / 16)) (digit_of (b % 16)) ≡ Some b
unfolding byte_said
byte_back b h =
    let whole : 16 * (b / 16) + b % 16 ≡ b = omega arith in
    (λ i. byte_of (digit_back (b / 16) (omega arith) i) (digit_back (b % 16) (omega arith) i)) ∙ ap Some whole

pub hex_back : (bytes : List ℕ) → AreBytes bytes → hex_said (hex bytes) ≡ Some bytes
unfolding hex_said hex_digits
hex_back [] h = refl
hex_back (b ∷ bs) h =
    ap hex_said (flat_map-cons hex_digits b bs) ∙ (λ i. onto (byte_back b h.0 i) (hex_back bs h.1 i))

-- digits are no mark below them
digit_free : (mark k : ℕ) → mark < 48 → k < 16 → not (digit_of k == mark) ≡ true
digit_free mark k low h =
    let l : 48 ≤ digit_of k = leb-true 48 (digit_of k) (least k h) in
    not_from_false (digit_of k == mark) (ne_eqb (digit_of k) mark (λ e. omega arith))

pub digits_free : (mark b : ℕ) → mark < 48 → b < 256 → is_free mark (hex_digits b) ≡ true
unfolding hex_digits
digits_free mark b low h =
    and_from (not (digit_of (b / 16) == mark)) (is_free mark (digit_of (b % 16) ∷ [])) (digit_free mark (b / 16) low (omega arith))
    (and_from (not (digit_of (b % 16) == mark)) true (digit_free mark (b % 16) low (omega arith)) refl)

pub hex_free : (mark : ℕ) (bytes : List ℕ) → mark < 48 → AreBytes bytes → is_free mark (hex bytes) ≡ true
hex_free mark [] low h = refl
hex_free mark (b ∷ bs) low h =
    ap (is_free mark) (flat_map-cons hex_digits b bs)
    ∙ free_both mark (hex_digits b) (hex bs) (digits_free mark b low h.0) (hex_free mark bs low h.1)

pub four_bytes : (n : ℕ) → n < 2 ^ 32 → AreBytes (to_be_bytes w32 n)
four_bytes n h = (omega arith, (omega arith, (omega arith, (omega arith, tt))))

pub eight_bytes : (n : ℕ) → n < 2 ^ 64 → AreBytes (to_be_bytes w64 n)
eight_bytes n h = (omega arith, (omega arith, (omega arith, (omega arith, (omega arith, (omega arith, (omega arith, (omega arith, tt))))))))

pub float_back : (n : ℕ) → n < 2 ^ 32 → float_said (hex (to_be_bytes w32 n)) ≡ Some n
unfolding float_said
float_back n h = ap (option_and_then four_said) (hex_back (to_be_bytes w32 n) (four_bytes n h)) ∙ ap Some (from_be_bytes-to_be_bytes_4 n h)

pub double_back : (n : ℕ) → n < 2 ^ 64 → double_said (hex (to_be_bytes w64 n)) ≡ Some n
unfolding double_said
double_back n h = ap (option_and_then eight_said) (hex_back (to_be_bytes w64 n) (eight_bytes n h)) ∙ ap Some (from_be_bytes-to_be_bytes_8 n h)

-- what is between quotes
pub quotes_back : (inner : List ℕ) → is_free 34 inner ≡ true → unquoted (34 ∷ (inner ++ 34 ∷ [])) ≡ Some inner
unfolding unquoted
quotes_back inner h = ap inner_of (cut_back 34 inner [] h)

pub quoted_hex_back : (bytes : List ℕ) → AreBytes bytes → quoted_hex_said (34 ∷ (hex bytes ++ 34 ∷ [])) ≡ Some bytes
unfolding quoted_hex_said
quoted_hex_back bytes h = ap (option_and_then hex_said) (quotes_back (hex bytes) (hex_free 34 bytes (omega arith) h)) ∙ hex_back bytes h
