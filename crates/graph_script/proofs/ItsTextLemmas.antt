-- The text of a script is read as the script, and no text that is read as it is shorter.
use Rattle.std.proofs.Common.{◌≡◌, ℕ, suc, ◌+◌, ◌-◌, ◌<◌, ◌≤◌, Bool, true, false, not, List, [], ◌∷◌, ◌++◌, length, map, replicate}
use Rattle.std.proofs.Common.{refl, sym, ap, ◌∙◌, subst, arith, append-nil, length-append, append_assoc}
use Rattle.std.specs.Prelude.{Option, Some, None, option_map, option_to_list, Result, Ok, Err, All, if◌then◌else◌}
use Rattle.std.specs.List.{list_all, enumerate_from}
use Rattle.std.proofs.lemmas.List.Elements.{All-nil, All-cons, All-head, All-tail, All-weaker}
use Rattle.std.proofs.lemmas.List.Splits.{slice_split_none, slice_split_at}
use Rattle.pw_graph.specs.declared.kind.Kind.{Kind}
use Rattle.graph_script.specs.declared.fault.ScriptWhy.{ScriptWhy}
use Rattle.graph_script.specs.declared.fault.ScriptWhy.TheVariants as W
use Rattle.graph_script.specs.declared.script.Line.{Line}
use Rattle.graph_script.specs.declared.script.Script.{Script}
use Rattle.graph_script.specs.declared.reading.ParsedLine.{ParsedLine}
use Rattle.graph_script.specs.declared.reading.Reading.{Reading}
use Rattle.graph_script.specs.Lexical.{is_allowed, is_line_feed, lines_of, words_of, say_nothing}
use Rattle.graph_script.specs.Checked.{checked_map}
use Rattle.graph_script.specs.Commands.{meaning_of_words}
use Rattle.graph_script.specs.CommandWords.{command_word}
use Rattle.graph_script.specs.Grammar.{meaning_of_line, reading_after, reading_with, and_then, script_from, script_of, start}
use Rattle.graph_script.specs.Kinds.{HasPorts}
use Rattle.graph_script.specs.Printable.{AreFrom, AreWritable}
use Rattle.graph_script.specs.Ranges.{HasNodes}
use Rattle.graph_script.specs.Printing.{spaced, args_of, line_text, text_from, kinds_of, text_of_script}
use Rattle.graph_script.specs.working.Progress.{AreBefore}
use Rattle.graph_script.specs.working.Sound.{IsSound}
use Rattle.graph_script.proofs.GrammarLemmas.{goes_on, ends}
use Rattle.graph_script.proofs.SoundLemmas.{reading_after-sound, before-more, before-after, from_words, start-sound}
use Rattle.graph_script.proofs.WordLemmas.{IsFront}
use Rattle.graph_script.proofs.SpelledLemmas.{IsFrontAfter, words_spelled}
use Rattle.graph_script.proofs.TextLemmas.{IsLineByte, IsWord, IsPieceByte, pieces_all, words-are, line_bytes, allowed_all, joined_bytes}
use Rattle.graph_script.proofs.TextLemmas.{words_joined, length_split, joined_shorter}

-- lines that were read one after the other, up to the final reading
abbrev pub Ran : ℕ → Reading → List (List ℕ) → Reading → Type 0
Ran n reading [] final = reading ≡ final
Ran n reading (line ∷ lines) final =
    (o : Option ParsedLine) × (meaning_of_line reading line ≡ Ok o) × Ran (n + 1) (reading_after n reading o) lines final

pub record HasRun (n : ℕ) (reading : Reading) (lines : List (List ℕ)) (script : Script) : Type 0 where
  pub final : Reading
  pub is : final.script ≡ script
  pub ran : Ran n reading lines final

pub has_run : (n : ℕ) (reading : Reading) (lines : List (List ℕ)) (script : Script) → script_from n reading lines ≡ Ok script
    → HasRun n reading lines script
unfolding script_from
has_run n reading [] script e = record { final = reading; is = cc; ran = refl }
has_run n reading (line ∷ lines) script e =
    at (meaning_of_line reading line) refl (λ o h. has_run (n + 1) (reading_after n reading o) lines script h) e
  where
    at : (m : Result (Option ParsedLine) ScriptWhy) → meaning_of_line reading line ≡ m
        → ((o : Option ParsedLine) → script_from (n + 1) (reading_after n reading o) lines ≡ Ok script
        → HasRun (n + 1) (reading_after n reading o) lines script)
        → and_then (reading_with n reading m) (λ next. script_from (n + 1) next lines) ≡ Ok script
        → HasRun n reading (line ∷ lines) script
    at (Err why) is more e = cc
    at (Ok o) is more e = let r = more o e in record { final = r.final; is = r.is; ran = (o, is, r.ran) }

-- the lines of the script that they said
abbrev pub rest_of : (n : ℕ) (reading : Reading) (lines : List (List ℕ)) (final : Reading) → Ran n reading lines final → List Line
rest_of n reading [] final ran = []
rest_of n reading (line ∷ lines) final (None, means, ran) = rest_of (n + 1) reading lines final ran
rest_of n reading (line ∷ lines) final (Some parsed, means, ran) =
    record { line = n; command = parsed.command } ∷ rest_of (n + 1) (reading_after n reading (Some parsed)) lines final ran

pub rest_later : (n : ℕ) (reading : Reading) (lines : List (List ℕ)) (final : Reading) (ran : Ran n reading lines final)
    → All (λ l. n ≤ l.line) (rest_of n reading lines final ran)
rest_later n reading [] final ran = All-nil (λ l. n ≤ l.line)
rest_later n reading (line ∷ lines) final (None, means, ran) =
    All-weaker (λ l. n + 1 ≤ l.line) (λ l. n ≤ l.line) (λ l h. omega arith) (rest_of (n + 1) reading lines final ran)
    (rest_later (n + 1) reading lines final ran)
rest_later n reading (line ∷ lines) final (Some parsed, means, ran) =
    let next = reading_after n reading (Some parsed) in
    All-cons (λ l. n ≤ l.line) (record { line = n; command = parsed.command }) (rest_of (n + 1) next lines final ran) (omega arith)
    (All-weaker (λ l. n + 1 ≤ l.line) (λ l. n ≤ l.line) (λ l h. omega arith) (rest_of (n + 1) next lines final ran)
    (rest_later (n + 1) next lines final ran))

pub rest_is : (n : ℕ) (reading : Reading) (lines : List (List ℕ)) (final : Reading) (ran : Ran n reading lines final)
    → final.script.lines ≡ reading.script.lines ++ rest_of n reading lines final ran
rest_is n reading [] final ran = ap (λ r. r.script.lines) (sym ran) ∙ sym (append-nil reading.script.lines)
rest_is n reading (line ∷ lines) final (None, means, ran) = rest_is (n + 1) reading lines final ran
rest_is n reading (line ∷ lines) final (Some parsed, means, ran) =
    let next = reading_after n reading (Some parsed) in
    rest_is (n + 1) next lines final ran
    ∙ append_assoc reading.script.lines (record { line = n; command = parsed.command } ∷ []) (rest_of (n + 1) next lines final ran)

-- their numbers do not fall
from_weaker : (n : ℕ) (lines : List Line) → AreFrom (n + 1) lines → AreFrom n lines
from_weaker n [] h = tt
from_weaker n (x ∷ xs) h = (omega (arith, h.0), h.1)

rest_from : (n : ℕ) (reading : Reading) (lines : List (List ℕ)) (final : Reading) (ran : Ran n reading lines final)
    → AreFrom n (rest_of n reading lines final ran)
rest_from n reading [] final ran = tt
rest_from n reading (line ∷ lines) final (None, means, ran) =
    from_weaker n (rest_of (n + 1) reading lines final ran) (rest_from (n + 1) reading lines final ran)
rest_from n reading (line ∷ lines) final (Some parsed, means, ran) =
    let next = reading_after n reading (Some parsed) in
    (omega arith, from_weaker n (rest_of (n + 1) next lines final ran) (rest_from (n + 1) next lines final ran))

-- what a line keeps
pub record IsGood (n : ℕ) (reading : Reading) : Type 0 where
  pub one : 1 ≤ n
  pub before : AreBefore n reading
  pub sound : IsSound reading

good_after : (n : ℕ) (reading : Reading) (line : List ℕ) (parsed : ParsedLine) → meaning_of_line reading line ≡ Ok (Some parsed)
    → IsGood n reading → IsGood (n + 1) (reading_after n reading (Some parsed))
good_after n reading line parsed means good = record {
  one = omega arith;
  before = before-after n reading parsed good.before;
  sound = reading_after-sound n reading parsed good.one good.before good.sound (from_words reading line parsed means);
}

good_more : (n : ℕ) (reading : Reading) → IsGood n reading → IsGood (n + 1) reading
good_more n reading good = record { one = omega arith; before = before-more n reading good.before; sound = good.sound }

pub good_final : (n : ℕ) (reading : Reading) (lines : List (List ℕ)) (final : Reading) → IsGood n reading → Ran n reading lines final
    → IsSound final
good_final n reading [] final good ran = subst IsSound ran good.sound
good_final n reading (line ∷ lines) final good (None, means, ran) = good_final (n + 1) reading lines final (good_more n reading good) ran
good_final n reading (line ∷ lines) final good (Some parsed, means, ran) =
    good_final (n + 1) (reading_after n reading (Some parsed)) lines final (good_after n reading line parsed means good) ran

-- the final names and kinds begin with those so far
front : (n : ℕ) (reading : Reading) (lines : List (List ℕ)) (final : Reading) → IsGood n reading → Ran n reading lines final
    → IsFront reading final.script.names final.kinds
front n reading [] final good ran = record {
  more_names = [];
  names_are = ap (λ r. r.script.names) (sym ran) ∙ sym (append-nil reading.script.names);
  more_kinds = [];
  kinds_are = ap (λ r. r.kinds) (sym ran) ∙ sym (append-nil reading.kinds);
  named = good.sound.named;
}
front n reading (line ∷ lines) final good (None, means, ran) = front (n + 1) reading lines final (good_more n reading good) ran
front n reading (line ∷ lines) final good (Some parsed, means, ran) =
    let next = front (n + 1) (reading_after n reading (Some parsed)) lines final (good_after n reading line parsed means good) ran in
    let name = option_to_list (option_map (λ m. m.name) parsed.made) in
    let kind = option_to_list (option_map (λ m. m.kind) parsed.made) in
    record {
      more_names = name ++ next.more_names;
      names_are = next.names_are ∙ append_assoc reading.script.names name next.more_names;
      more_kinds = kind ++ next.more_kinds;
      kinds_are = next.kinds_are ∙ append_assoc reading.kinds kind next.more_kinds;
      named = good.sound.named;
    }

-- what a line's words mean, and its bytes
pub record Means (reading : Reading) (line : List ℕ) (parsed : ParsedLine) : Type 0 where
  pub allowed : list_all is_allowed line ≡ true
  pub says : say_nothing (words_of line) ≡ false
  pub words : meaning_of_words reading (words_of line) ≡ Ok parsed

means_line : (reading : Reading) (line : List ℕ) (parsed : ParsedLine) → meaning_of_line reading line ≡ Ok (Some parsed) → Means reading line parsed
unfolding meaning_of_line
means_line reading line parsed = at_bytes (list_all is_allowed line) refl
  where
    at_map : (r : Result ParsedLine ScriptWhy) → meaning_of_words reading (words_of line) ≡ r → checked_map (λ s. Some s) r ≡ Ok (Some parsed)
        → meaning_of_words reading (words_of line) ≡ Ok parsed
    at_map (Err why) is e = cc
    at_map (Ok s) is e = let same : s ≡ parsed = cc in is ∙ ap (λ x. Ok x) same

    at_words : (b : Bool) → say_nothing (words_of line) ≡ b → list_all is_allowed line ≡ true
        → (if b then Ok None else checked_map (λ s. Some s) (meaning_of_words reading (words_of line))) ≡ Ok (Some parsed)
        → Means reading line parsed
    at_words true is allowed e = cc
    at_words false is allowed e = record { allowed = allowed; says = is; words = at_map (meaning_of_words reading (words_of line)) refl e }

    at_bytes : (b : Bool) → list_all is_allowed line ≡ b → (if not b then Err W.Byte
        else (if say_nothing (words_of line) then Ok None else checked_map (λ s. Some s) (meaning_of_words reading (words_of line))))
        ≡ Ok (Some parsed) → Means reading line parsed
    at_bytes false is e = cc
    at_bytes true is e = at_words (say_nothing (words_of line)) refl is e

line_means : (reading : Reading) (line : List ℕ) (parsed : ParsedLine) → Means reading line parsed → meaning_of_line reading line ≡ Ok (Some parsed)
unfolding meaning_of_line
line_means reading line parsed means =
    ap (λ b. if not b then Err W.Byte
    else (if say_nothing (words_of line) then Ok None else checked_map (λ s. Some s) (meaning_of_words reading (words_of line)))) means.allowed
    ∙ ap (λ b. if b then Ok None else checked_map (λ s. Some s) (meaning_of_words reading (words_of line))) means.says
    ∙ ap (λ r. checked_map (λ s. Some s) r) means.words

empty_means : (reading : Reading) → meaning_of_line reading [] ≡ Ok None
unfolding meaning_of_line
empty_means reading = refl

-- THE LINE that is written of what a line says: it has no line feed, means the same, and is not longer
pub record IsRewritten (reading : Reading) (line text : List ℕ) (parsed : ParsedLine) : Type 0 where
  pub bytes : All (λ b. is_line_feed b ≡ false) text
  pub means : meaning_of_line reading text ≡ Ok (Some parsed)
  pub shorter : length text ≤ length line

rewritten_words : (reading : Reading) (line first : List ℕ) (others : List (List ℕ)) (parsed : ParsedLine) → All (λ b. is_line_feed b ≡ false) line
    → Means reading line parsed → first ∷ others ≡ words_of line → IsRewritten reading line (first ++ spaced others) parsed
rewritten_words reading line first others parsed feedless means e =
    let all = subst (All IsWord) (sym e) (words-are line (line_bytes line means.allowed feedless)) in
    let h = All-head IsWord first others all in
    let hs = All-tail IsWord first others all in
    let bytes = joined_bytes first others h hs in
    let same : words_of (first ++ spaced others) ≡ words_of line = words_joined first others h hs ∙ e in
    record {
      bytes = All-weaker IsLineByte (λ b. is_line_feed b ≡ false) (λ b q. q.in_line) (first ++ spaced others) bytes;
      means = line_means reading (first ++ spaced others) parsed (record {
        allowed = allowed_all (first ++ spaced others) bytes;
        says = ap say_nothing same ∙ means.says;
        words = ap (meaning_of_words reading) same ∙ means.words;
      });
      shorter = joined_shorter line first others (sym e);
    }

rewritten : (n : ℕ) (reading : Reading) (line : List ℕ) (lines : List (List ℕ)) (final : Reading) (parsed : ParsedLine) → IsGood n reading
    → All (λ b. is_line_feed b ≡ false) line → meaning_of_line reading line ≡ Ok (Some parsed)
    → Ran (n + 1) (reading_after n reading (Some parsed)) lines final
    → IsRewritten reading line (line_text final.script.names final.kinds parsed.command) parsed
rewritten n reading line lines final parsed good feedless means ran =
    let m = means_line reading line parsed means in
    let f = front (n + 1) (reading_after n reading (Some parsed)) lines final (good_after n reading line parsed means good) ran in
    let here : IsFrontAfter reading parsed final.script.names final.kinds = record {
      more_names = f.more_names;
      names_are = f.names_are;
      more_kinds = f.more_kinds;
      kinds_are = f.kinds_are;
      named = f.named;
    } in
    rewritten_words reading line (command_word parsed.command) (args_of final.script.names final.kinds parsed.command) parsed feedless m
    (words_spelled reading final.script.names final.kinds (words_of line) parsed m.words here)

-- one line of a text, and the text of the lines after it
step : (names : List (List ℕ)) (kinds : List Kind) (n : ℕ) (reading : Reading) (line : List ℕ) (o : Option ParsedLine) (rest : List Line)
    → All (λ b. is_line_feed b ≡ false) line → All (λ l. n + 1 ≤ l.line) rest → meaning_of_line reading line ≡ Ok o
    → script_from n reading (lines_of (line ++ text_from names kinds n rest))
    ≡ script_from (n + 1) (reading_after n reading o) (lines_of (text_from names kinds (n + 1) rest))
step names kinds n reading line o [] feedless later means =
    let next = reading_after n reading o in
    let cut : lines_of (line ++ []) ≡ line ∷ [] = ap lines_of (append-nil line) ∙ slice_split_none is_line_feed line feedless in
    goes_on n reading next line (lines_of (line ++ [])) [] cut (ap (reading_with n reading) means)
    ∙ ends (n + 1) next
    ∙ sym (goes_on (n + 1) next next [] (lines_of []) [] refl (ap (reading_with (n + 1) next) (empty_means next)) ∙ ends (n + 1 + 1) next)
step names kinds n reading line o (x ∷ xs) feedless later means =
    let next = reading_after n reading o in
    let above : n + 1 ≤ x.line = All-head (λ l. n + 1 ≤ l.line) x xs later in
    let count : x.line - n ≡ suc (x.line - (n + 1)) = omega arith in
    let more : text_from names kinds n (x ∷ xs) ≡ 0x0A ∷ text_from names kinds (n + 1) (x ∷ xs) =
    ap (λ k. replicate k 0x0A ++ line_text names kinds x.command ++ text_from names kinds x.line xs) count in
    let cut : lines_of (line ++ text_from names kinds n (x ∷ xs)) ≡ line ∷ lines_of (text_from names kinds (n + 1) (x ∷ xs)) =
    ap (λ t. lines_of (line ++ t)) more
    ∙ slice_split_at is_line_feed line 0x0A (text_from names kinds (n + 1) (x ∷ xs)) feedless refl in
    goes_on n reading next line (lines_of (line ++ text_from names kinds n (x ∷ xs)))
    (lines_of (text_from names kinds (n + 1) (x ∷ xs))) cut (ap (reading_with n reading) means)

pub again : (n : ℕ) (reading : Reading) (lines : List (List ℕ)) (final : Reading) → IsGood n reading
    → All (All (λ b. is_line_feed b ≡ false)) lines → (ran : Ran n reading lines final)
    → script_from n reading (lines_of (text_from final.script.names final.kinds n (rest_of n reading lines final ran))) ≡ Ok final.script
again n reading [] final good feedless ran =
    goes_on n reading reading [] (lines_of []) [] refl (ap (reading_with n reading) (empty_means reading)) ∙ ends (n + 1) reading
    ∙ ap (λ r. Ok r.script) ran
again n reading (line ∷ lines) final good feedless (None, means, ran) =
    let names = final.script.names in
    let tail = All-tail (All (λ b. is_line_feed b ≡ false)) line lines feedless in
    step names final.kinds n reading [] None (rest_of (n + 1) reading lines final ran) (All-nil (λ b. is_line_feed b ≡ false))
    (rest_later (n + 1) reading lines final ran) (empty_means reading)
    ∙ again (n + 1) reading lines final (good_more n reading good) tail ran
again n reading (line ∷ lines) final good feedless (Some parsed, means, ran) =
    let names = final.script.names in
    let next = reading_after n reading (Some parsed) in
    let rest = rest_of (n + 1) next lines final ran in
    let tail = All-tail (All (λ b. is_line_feed b ≡ false)) line lines feedless in
    let here = rewritten n reading line lines final parsed good (All-head (All (λ b. is_line_feed b ≡ false)) line lines feedless) means ran in
    let none : n - n ≡ 0 = omega arith in
    ap (λ k. script_from n reading (lines_of (replicate k 0x0A ++ line_text names final.kinds parsed.command
    ++ text_from names final.kinds n rest))) none
    ∙ step names final.kinds n reading (line_text names final.kinds parsed.command) (Some parsed) rest here.bytes
    (rest_later (n + 1) next lines final ran) here.means
    ∙ again (n + 1) next lines final (good_after n reading line parsed means good) tail ran

-- how long the text of further lines is, with the line feed before it
abbrev pub further : List (List ℕ) → List Kind → ℕ → List Line → ℕ
further names kinds n [] = 0
further names kinds n (x ∷ xs) = 1 + length (text_from names kinds n (x ∷ xs))

further_later : (names : List (List ℕ)) (kinds : List Kind) (n : ℕ) (rest : List Line) → All (λ l. n + 1 ≤ l.line) rest
    → length (text_from names kinds n rest) ≡ further names kinds (n + 1) rest
further_later names kinds n [] later = refl
further_later names kinds n (x ∷ xs) later =
    let above : n + 1 ≤ x.line = All-head (λ l. n + 1 ≤ l.line) x xs later in
    let count : x.line - n ≡ suc (x.line - (n + 1)) = omega arith in
    ap (λ k. length (replicate k 0x0A ++ line_text names kinds x.command ++ text_from names kinds x.line xs)) count ∙ omega arith

further_less : (names : List (List ℕ)) (kinds : List Kind) (n : ℕ) (rest : List Line) → All (λ l. n + 1 ≤ l.line) rest
    → further names kinds n rest ≤ 1 + further names kinds (n + 1) rest
further_less names kinds n [] later = omega arith
further_less names kinds n (x ∷ xs) later = let e = further_later names kinds n (x ∷ xs) later in omega arith

pub shorter : (n : ℕ) (reading : Reading) (lines : List (List ℕ)) (final : Reading) → IsGood n reading
    → All (All (λ b. is_line_feed b ≡ false)) lines → (ran : Ran n reading lines final)
    → further final.script.names final.kinds n (rest_of n reading lines final ran) ≤ length (spaced lines)
shorter n reading [] final good feedless ran = omega arith
shorter n reading (line ∷ lines) final good feedless (None, means, ran) =
    let names = final.script.names in
    let rest = rest_of (n + 1) reading lines final ran in
    let tail = All-tail (All (λ b. is_line_feed b ≡ false)) line lines feedless in
    let less = further_less names final.kinds n rest (rest_later (n + 1) reading lines final ran) in
    let more = shorter (n + 1) reading lines final (good_more n reading good) tail ran in
    let whole = length-append line (spaced lines) in
    omega arith
shorter n reading (line ∷ lines) final good feedless (Some parsed, means, ran) =
    let names = final.script.names in
    let next = reading_after n reading (Some parsed) in
    let rest = rest_of (n + 1) next lines final ran in
    let tail = All-tail (All (λ b. is_line_feed b ≡ false)) line lines feedless in
    let here = rewritten n reading line lines final parsed good (All-head (All (λ b. is_line_feed b ≡ false)) line lines feedless) means ran in
    let text = line_text names final.kinds parsed.command in
    let none : n - n ≡ 0 = omega arith in
    let first : length (text_from names final.kinds n (record { line = n; command = parsed.command } ∷ rest))
    ≡ length text + length (text_from names final.kinds n rest) =
    ap (λ k. length (replicate k 0x0A ++ text ++ text_from names final.kinds n rest)) none
    ∙ length-append text (text_from names final.kinds n rest) in
    let last = further_later names final.kinds n rest (rest_later (n + 1) next lines final ran) in
    let more = shorter (n + 1) next lines final (good_after n reading line parsed means good) tail ran in
    let whole = length-append line (spaced lines) in
    let few = here.shorter in
    omega arith

-- the kinds of a sound reading are those that its lines make
kinds_enumerated : (n : ℕ) (kinds : List Kind) → map (λ (m : ℕ × Kind). m.1) (enumerate_from n kinds) ≡ kinds
kinds_enumerated n [] = refl
kinds_enumerated n (kind ∷ kinds) = ap (λ ks. kind ∷ ks) (kinds_enumerated (n + 1) kinds)

pub sound_kinds_of : (reading : Reading) → IsSound reading → kinds_of reading.script.lines ≡ reading.kinds
sound_kinds_of reading sound = ap (λ ms. map (λ (m : ℕ × Kind). m.1) ms) sound.made ∙ kinds_enumerated 0 reading.kinds

feedless_all : (bytes : List ℕ) → All (All (λ b. is_line_feed b ≡ false)) (lines_of bytes)
feedless_all bytes =
    All-weaker (All (IsPieceByte (λ b. Unit {0}) is_line_feed)) (All (λ b. is_line_feed b ≡ false))
    (λ line h. All-weaker (IsPieceByte (λ b. Unit {0}) is_line_feed) (λ b. is_line_feed b ≡ false) (λ b q. q.no_mark) line h)
    (lines_of bytes) (pieces_all (λ b. Unit {0}) is_line_feed bytes (λ k d lt. tt))

start-good : IsGood 1 start
start-good = record { one = omega arith; before = All-nil (λ l. l.line < 1); sound = start-sound }

writable : (names : List (List ℕ)) (kinds : List Kind) (lines : List Line) → All (λ l. HasNodes (length names) l.command) lines
    → All (λ l. HasPorts kinds l.command) lines → AreWritable names kinds lines
writable names kinds [] nodes ports = tt
writable names kinds (x ∷ xs) nodes ports = (
  All-head (λ l. HasNodes (length names) l.command) x xs nodes,
  All-head (λ l. HasPorts kinds l.command) x xs ports,
  writable names kinds xs (All-tail (λ l. HasNodes (length names) l.command) x xs nodes) (All-tail (λ l. HasPorts kinds l.command) x xs ports),
)

-- THE TEXT of a script that was read
pub record IsItsText (bytes : List ℕ) (script : Script) : Type 0 where
  pub again : script_of (text_of_script script) ≡ Ok script
  pub shorter : length (text_of_script script) ≤ length bytes
  pub numbered : AreFrom 1 script.lines
  pub writable : AreWritable script.names (kinds_of script.lines) script.lines
  pub same : length (kinds_of script.lines) ≡ length script.names

text_at : (script : Script) (final : Reading) (rest : List Line) → final.script ≡ script → final.script.lines ≡ rest
    → kinds_of final.script.lines ≡ final.kinds → text_from final.script.names final.kinds 1 rest ≡ text_of_script script
text_at script final rest is lines kinds =
    (λ i. text_from final.script.names (sym kinds i) 1 (sym lines i)) ∙ ap text_of_script is

no_further : (names : List (List ℕ)) (kinds : List Kind) (n : ℕ) (rest : List Line)
    → length (text_from names kinds n rest) ≤ further names kinds n rest - 1
no_further names kinds n [] = omega arith
no_further names kinds n (x ∷ xs) = omega arith

pub its_text : (bytes : List ℕ) (script : Script) → script_of bytes ≡ Ok script → IsItsText bytes script
unfolding script_of
its_text bytes script e =
    let run = has_run 1 start (lines_of bytes) script e in
    let rest = rest_of 1 start (lines_of bytes) run.final run.ran in
    let sound = good_final 1 start (lines_of bytes) run.final start-good run.ran in
    let lines : run.final.script.lines ≡ rest = rest_is 1 start (lines_of bytes) run.final run.ran in
    let kinds = sound_kinds_of run.final sound in
    let same = text_at script run.final rest run.is lines kinds in
    let less = shorter 1 start (lines_of bytes) run.final start-good (feedless_all bytes) run.ran in
    let cut = length_split is_line_feed bytes in
    let own = no_further run.final.script.names run.final.kinds 1 rest in
    record {
      again = ap (λ t. script_from 1 start (lines_of t)) (sym same)
          ∙ again 1 start (lines_of bytes) run.final start-good (feedless_all bytes) run.ran ∙ ap (λ s. Ok s) run.is;
      shorter = subst (λ t. length t ≤ length bytes) same (omega arith);
      numbered = subst (λ (x : Script). AreFrom 1 x.lines) run.is (subst (AreFrom 1) (sym lines)
          (rest_from 1 start (lines_of bytes) run.final run.ran));
      writable = subst (λ (x : Script). AreWritable x.names (kinds_of x.lines) x.lines) run.is
          (subst (λ ks. AreWritable run.final.script.names ks run.final.script.lines) (sym kinds)
          (writable run.final.script.names run.final.kinds run.final.script.lines sound.script.nodes sound.ports));
      same = subst (λ (x : Script). length (kinds_of x.lines) ≡ length x.names) run.is (ap length kinds ∙ sound.named);
    }
