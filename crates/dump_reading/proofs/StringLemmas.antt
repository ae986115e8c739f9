-- Strings that are written are read back.
use Rattle.std.proofs.Common.{◌≡◌, ℕ, ◌+◌, ◌*◌, ◌/◌, ◌%◌, ◌<◌, ◌≤◌, true, false, cond, not, ◌&&◌, inl, inr, List, [], ◌∷◌, ◌++◌}
use Rattle.std.proofs.Common.{refl, sym, ap, ◌∙◌, arith, append_assoc, append-nil, ◌==◌, nat_le}
use Rattle.std.specs.Prelude.{Option, Some, None, option_map, option_and_then, codes, fold}
use Rattle.std.specs.List.{flat_map}
use Rattle.std.proofs.lemmas.Bool.{and_parts, and_from, leb-true, ne_eqb, not-true, not_from_false, cases_Bool, cond-true, cond-false}
use Rattle.std.proofs.lemmas.List.Concat.{flat_map-cons}
use Rattle.pod_codec.specs.DumpWords.{is_plain, escaped, hex_digits}
use Rattle.dump_reading.specs.working.Strings.{high_of, low_of, pushed, read_byte, whole, string_said, quoted_said}
use Rattle.dump_reading.specs.WellFormed.{AreBytes}
use Rattle.dump_reading.specs.declared.strings.Escape.{Escape}
use Rattle.dump_reading.specs.declared.strings.Escape.TheVariants as E
use Rattle.dump_reading.proofs.CuttingLemmas.{is_free, free_both}
use Rattle.dump_reading.proofs.DigitLemmas.{digit_of, digit_back, digits_free, quotes_back}

-- what a plain byte is not
plain_parts : (b : ℕ) → is_plain b ≡ true → (32 ≤ b) × ((b == 34) ≡ false) × ((b == 92) ≡ false)
plain_parts b h =
    let low = nat_le 0x20 b in
    let high = nat_le b 0x7E in
    let all = and_parts (low && high && not (b == 34)) (not (b == 92)) h in
    let most = and_parts (low && high) (not (b == 34)) all.0 in
    (leb-true 32 b (and_parts low high most.0).0, not-true (b == 34) most.1, not-true (b == 92) all.1)

-- a byte that is shown as it is
one_plain : (b : ℕ) (out : List ℕ) → is_plain b ≡ true → read_byte (Some (E.Outside, out)) b ≡ Some (E.Outside, out ++ b ∷ [])
one_plain b out h =
    let p = plain_parts b h in
    ap (option_map (λ (n : Escape × Option ℕ). (n.0, pushed out n.1)))
    (cond-false (b == 92) (Some (E.Slash, None)) (cond (is_plain b) (Some (E.Outside, Some b)) None) p.2
    ∙ cond-true (is_plain b) (Some (E.Outside, Some b)) None h)

-- one that is escaped
one_high : (k : ℕ) (out : List ℕ) → k < 16 → read_byte (Some (E.Mark, out)) (digit_of k) ≡ Some (E.High k, out)
one_high k out h = ap (λ (o : Option ℕ). option_map (λ (n : Escape × Option ℕ). (n.0, pushed out n.1)) (high_of o)) (digit_back k h)

one_low : (b : ℕ) (out : List ℕ) → b < 256 → is_plain b ≡ false
    → read_byte (Some (E.High (b / 16), out)) (digit_of (b % 16)) ≡ Some (E.Outside, out ++ b ∷ [])
one_low b out small h =
    let same : 16 * (b / 16) + b % 16 ≡ b = omega arith in
    ap (λ (o : Option ℕ). option_map (λ (n : Escape × Option ℕ). (n.0, pushed out n.1)) (low_of (b / 16) o)) (digit_back (b % 16) (omega arith))
    ∙ ap (λ (c : ℕ). option_map (λ (n : Escape × Option ℕ). (n.0, pushed out n.1)) (cond (is_plain c) None (Some (E.Outside, Some c)))) same
    ∙ ap (option_map (λ (n : Escape × Option ℕ). (n.0, pushed out n.1)))
    (cond-false (is_plain b) None (Some (E.Outside, Some b)) h)

one_escaped : (b : ℕ) (out rest : List ℕ) → b < 256 → is_plain b ≡ false
    → fold read_byte (Some (E.Outside, out)) ((codes "\\x" ++ hex_digits b) ++ rest)
    ≡ fold read_byte (Some (E.Outside, out ++ b ∷ [])) rest
unfolding hex_digits
one_escaped b out rest small h =
    ap (λ (s : Option (Escape × List ℕ)). fold read_byte (read_byte s (digit_of (b % 16))) rest) (one_high (b / 16) out (omega arith))
    ∙ ap (λ (s : Option (Escape × List ℕ)). fold read_byte s rest) (one_low b out small h)

one_byte : (b : ℕ) (out rest : List ℕ) → b < 256
    → fold read_byte (Some (E.Outside, out)) (escaped b ++ rest) ≡ fold read_byte (Some (E.Outside, out ++ b ∷ [])) rest
unfolding escaped
one_byte b out rest small =
    elim (cases_Bool (is_plain b)) [
      | inl h ↦ ap (λ (t : List ℕ). fold read_byte (Some (E.Outside, out)) (t ++ rest))
          (cond-true (is_plain b) (b ∷ []) (codes "\\x" ++ hex_digits b) h)
          ∙ ap (λ (s : Option (Escape × List ℕ)). fold read_byte s rest) (one_plain b out h)
      | inr h ↦ ap (λ (t : List ℕ). fold read_byte (Some (E.Outside, out)) (t ++ rest))
          (cond-false (is_plain b) (b ∷ []) (codes "\\x" ++ hex_digits b) h)
          ∙ one_escaped b out rest small h
    ]

all_bytes : (text out : List ℕ) → AreBytes text
    → fold read_byte (Some (E.Outside, out)) (flat_map escaped text) ≡ Some (E.Outside, out ++ text)
all_bytes [] out h = ap (λ (t : List ℕ). Some (E.Outside, t)) (sym (append-nil out))
all_bytes (b ∷ bs) out h =
    ap (λ (t : List ℕ). fold read_byte (Some (E.Outside, out)) t) (flat_map-cons escaped b bs)
    ∙ one_byte b out (flat_map escaped bs) h.0
    ∙ all_bytes bs (out ++ b ∷ []) h.1
    ∙ ap (λ (t : List ℕ). Some (E.Outside, t)) (append_assoc out (b ∷ []) bs)

pub string_back : (text : List ℕ) → AreBytes text → string_said (flat_map escaped text) ≡ Some text
unfolding string_said
string_back text h = ap whole (all_bytes text [] h)

-- a quote, and a line feed, are never shown as they are
byte_free : (mark b : ℕ) → mark < 48 → (is_plain b ≡ true → (b == mark) ≡ false) → b < 256 → is_free mark (escaped b) ≡ true
unfolding escaped
byte_free mark b low other small =
    elim (cases_Bool (is_plain b)) [
      | inl h ↦ ap (is_free mark) (cond-true (is_plain b) (b ∷ []) (codes "\\x" ++ hex_digits b) h)
          ∙ and_from (not (b == mark)) true (not_from_false (b == mark) (other h)) refl
      | inr h ↦ ap (is_free mark) (cond-false (is_plain b) (b ∷ []) (codes "\\x" ++ hex_digits b) h)
          ∙ free_both mark (codes "\\x") (hex_digits b)
          (and_from (not (92 == mark)) (not (120 == mark) && true)
          (not_from_false (92 == mark) (ne_eqb 92 mark (λ e. omega arith)))
          (and_from (not (120 == mark)) true (not_from_false (120 == mark) (ne_eqb 120 mark (λ e. omega arith))) refl))
          (digits_free mark b low small)
    ]

text_free : (mark : ℕ) (text : List ℕ) → mark < 48 → ((b : ℕ) → is_plain b ≡ true → (b == mark) ≡ false) → AreBytes text
    → is_free mark (flat_map escaped text) ≡ true
text_free mark [] low other h = refl
text_free mark (b ∷ bs) low other h =
    ap (is_free mark) (flat_map-cons escaped b bs)
    ∙ free_both mark (escaped b) (flat_map escaped bs) (byte_free mark b low (other b) h.0) (text_free mark bs low other h.1)

pub line_free : (text : List ℕ) → AreBytes text → is_free 10 (flat_map escaped text) ≡ true
line_free text h = text_free 10 text (omega arith) (λ b p. ne_eqb b 10 (λ e. omega (arith, (plain_parts b p).0))) h

pub quoted_back : (text : List ℕ) → AreBytes text → quoted_said (34 ∷ (flat_map escaped text ++ 34 ∷ [])) ≡ Some text
unfolding quoted_said
quoted_back text h =
    ap (option_and_then string_said)
    (quotes_back (flat_map escaped text) (text_free 34 text (omega arith) (λ b p. (plain_parts b p).1) h))
    ∙ string_back text h
