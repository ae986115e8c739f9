-- Lines that are read one after the other, each with what it says.
use Rattle.std.proofs.Common.{◌≡◌, ℕ, ◌+◌, ◌*◌, ◌≤◌, ◌&&◌, Bool, true, false, not, List, [], ◌∷◌, ◌++◌, length, map}
use Rattle.std.proofs.Common.{refl, ap, ◌∙◌, arith, append_assoc, length-append}
use Rattle.std.specs.Prelude.{Some, None, Result, Ok, Err, All, nat_lt, if◌then◌else◌}
use Rattle.graph_script.specs.declared.fault.ScriptWhy.TheVariants as W
use Rattle.graph_script.specs.Checked.{checked_map}
use Rattle.std.specs.List.{list_all}
use Rattle.std.proofs.lemmas.Bool.{and_parts, ltb-true}
use Rattle.std.proofs.lemmas.List.Elements.{All-nil, All-cons, All-weaker}
use Rattle.std.proofs.lemmas.List.Splits.{slice_split_at}
use Rattle.graph_script.specs.declared.command.Command.TheVariants as C
use Rattle.graph_script.specs.Earlier.{saying}
use Rattle.graph_script.specs.Lexical.{is_allowed, is_line_feed, is_blank, lines_of, words_of, say_nothing}
use Rattle.graph_script.specs.Commands.{meaning_of_words}
use Rattle.graph_script.specs.Grammar.{meaning_of_line, reading_after, reading_with, script_from, start}
use Rattle.graph_script.specs.Printing.{spaced}
use Rattle.graph_script.proofs.GrammarLemmas.{goes_on, ends}
use Rattle.graph_script.proofs.TextLemmas.{IsLineByte, IsWordByte, IsWord, joined_bytes, allowed_all, words_joined}
use Rattle.soak_graph.specs.SoakText.{text_of_lines}

-- what lines have said, and what one says, as the grammar has them
abbrev type_of : {A : Type 0} → A → Type 0
type_of {A} a = A

abbrev type_in : {A B : Type 0} → Result A B → Type 0
type_in {A} {B} r = A

abbrev pub Reading : Type 0
Reading = type_of start

abbrev pub ParsedLine : Type 0
ParsedLine = type_in (saying C.Drain)

-- a short line without a line feed, and what it says after those before it
abbrev pub line_limit : ℕ
line_limit = 40

pub record IsParsedLine (reading : Reading) (line : List ℕ) (parsed : ParsedLine) : Type 0 where
  pub short : length line ≤ line_limit
  pub feedless : All (λ b. is_line_feed b ≡ false) line
  pub means : meaning_of_line reading line ≡ Ok (Some parsed)

abbrev pub AreParsedLines : ℕ → Reading → List (List ℕ × ParsedLine) → Type 0
AreParsedLines n reading [] = Unit {0}
AreParsedLines n reading (p ∷ ps) = IsParsedLine reading p.0 p.1 × AreParsedLines (n + 1) (reading_after n reading (Some p.1)) ps

abbrev pub after : ℕ → Reading → List (List ℕ × ParsedLine) → Reading
after n reading [] = reading
after n reading (p ∷ ps) = after (n + 1) (reading_after n reading (Some p.1)) ps

empty_means : (reading : Reading) → meaning_of_line reading [] ≡ Ok None
unfolding meaning_of_line
empty_means reading = refl

-- THE TEXT of such lines is read as what they say
pub reads : (n : ℕ) (reading : Reading) (ps : List (List ℕ × ParsedLine)) → AreParsedLines n reading ps
    → script_from n reading (lines_of (text_of_lines (map (λ (p : List ℕ × ParsedLine). p.0) ps))) ≡ Ok (after n reading ps).script
reads n reading [] parsed =
    goes_on n reading reading [] (lines_of []) [] refl (ap (reading_with n reading) (empty_means reading)) ∙ ends (n + 1) reading
reads n reading (p ∷ ps) parsed =
    let next = reading_after n reading (Some p.1) in
    let rest = text_of_lines (map (λ (q : List ℕ × ParsedLine). q.0) ps) in
    let cut = ap lines_of (append_assoc p.0 (0x0A ∷ []) rest) ∙ slice_split_at is_line_feed p.0 0x0A rest parsed.0.feedless refl in
    goes_on n reading next p.0 (lines_of ((p.0 ++ 0x0A ∷ []) ++ rest)) (lines_of rest) cut (ap (reading_with n reading) parsed.0.means)
    ∙ reads (n + 1) next ps parsed.1

-- few short lines are a short text
pub short_text : (n : ℕ) (reading : Reading) (ps : List (List ℕ × ParsedLine)) → AreParsedLines n reading ps
    → length (text_of_lines (map (λ (p : List ℕ × ParsedLine). p.0) ps)) ≤ (line_limit + 1) * length ps
short_text n reading [] parsed = omega arith
short_text n reading (p ∷ ps) parsed =
    let rest = text_of_lines (map (λ (q : List ℕ × ParsedLine). q.0) ps) in
    let line = length-append p.0 (0x0A ∷ []) in
    let whole = length-append (p.0 ++ 0x0A ∷ []) rest in
    let more = short_text (n + 1) (reading_after n reading (Some p.1)) ps parsed.1 in
    let here = parsed.0.short in
    omega arith

-- a byte and a word that may be in a line, by computation
abbrev pub is_word_byte : ℕ → Bool
is_word_byte b = (is_allowed b && not (is_line_feed b)) && not (is_blank b)

no : (b : Bool) → not b ≡ true → b ≡ false
no true e = cc
no false e = refl

word_byte : (b : ℕ) → is_word_byte b ≡ true → IsWordByte b
word_byte b e =
    let p = and_parts (is_allowed b && not (is_line_feed b)) (not (is_blank b)) e in
    let q = and_parts (is_allowed b) (not (is_line_feed b)) p.0 in
    record { line = record { allowed = q.0; in_line = no (is_line_feed b) q.1 }; no_blank = no (is_blank b) p.1 }

pub word_bytes : (word : List ℕ) → list_all is_word_byte word ≡ true → All IsWordByte word
word_bytes [] e = All-nil IsWordByte
word_bytes (b ∷ word) e =
    let p = and_parts (is_word_byte b) (list_all is_word_byte word) e in
    All-cons IsWordByte b word (word_byte b p.0) (word_bytes word p.1)

abbrev pub is_word : List ℕ → Bool
is_word word = nat_lt 0 (length word) && list_all is_word_byte word

pub word_is : (word : List ℕ) → is_word word ≡ true → IsWord word
word_is word e =
    let p = and_parts (nat_lt 0 (length word)) (list_all is_word_byte word) e in
    record { some = ltb-true 0 (length word) p.0; bytes = word_bytes word p.1 }

pub words_are : (words : List (List ℕ)) → list_all is_word words ≡ true → All IsWord words
words_are [] e = All-nil IsWord
words_are (word ∷ words) e =
    let p = and_parts (is_word word) (list_all is_word words) e in
    All-cons IsWord word words (word_is word p.0) (words_are words p.1)

line_means : (reading : Reading) (line : List ℕ) (parsed : ParsedLine) → list_all is_allowed line ≡ true → say_nothing (words_of line) ≡ false
    → meaning_of_words reading (words_of line) ≡ Ok parsed → meaning_of_line reading line ≡ Ok (Some parsed)
unfolding meaning_of_line
line_means reading line parsed allowed says means =
    ap (λ b. if not b then Err W.Byte
    else (if say_nothing (words_of line) then Ok None else checked_map (λ s. Some s) (meaning_of_words reading (words_of line)))) allowed
    ∙ ap (λ b. if b then Ok None else checked_map (λ s. Some s) (meaning_of_words reading (words_of line))) says
    ∙ ap (λ r. checked_map (λ s. Some s) r) means

-- a line of words, and what the words mean
pub parsed_of_words : (reading : Reading) (first : List ℕ) (others : List (List ℕ)) (parsed : ParsedLine) → length (first ++ spaced others) ≤ line_limit
    → IsWord first → All IsWord others → say_nothing (first ∷ others) ≡ false
    → meaning_of_words reading (first ∷ others) ≡ Ok parsed → IsParsedLine reading (first ++ spaced others) parsed
parsed_of_words reading first others parsed short h hs says means =
    let bytes = joined_bytes first others h hs in
    let same = words_joined first others h hs in
    record {
      short = short;
      feedless = All-weaker IsLineByte (λ b. is_line_feed b ≡ false) (λ b q. q.in_line) (first ++ spaced others) bytes;
      means = line_means reading (first ++ spaced others) parsed (allowed_all (first ++ spaced others) bytes)
          (ap say_nothing same ∙ says) (ap (meaning_of_words reading) same ∙ means);
    }
