-- Laws of `specs/working/Sound.antt`: a line that has a meaning keeps what holds of the lines before it.
use Rattle.std.proofs.Common.{◌≡◌, ◌≢◌, ℕ, ◌+◌, ◌<◌, ◌≤◌, Bool, true, false, not, List, [], ◌∷◌, ◌++◌, length}
use Rattle.std.proofs.Common.{refl, sym, ap, ◌∙◌, arith, append-nil, length-append}
use Rattle.std.specs.Prelude.{Option, Some, None, option_map, option_to_list, Result, Ok, Err, All, AllPairs, IsTrue, IfSome, codes}
use Rattle.std.specs.Prelude.{if◌then◌else◌}
use Rattle.std.specs.List.{list_all}
use Rattle.std.proofs.lemmas.List.Elements.{All-push, All-nil}
use Rattle.std.proofs.lemmas.List.Quantifiers.{all_pairs_push}
use Rattle.graph_script.specs.declared.fault.ScriptWhy.{ScriptWhy}
use Rattle.graph_script.specs.declared.fault.ScriptWhy.TheVariants as W
use Rattle.graph_script.specs.declared.script.Line.{Line}
use Rattle.graph_script.specs.declared.reading.Made.{Made}
use Rattle.graph_script.specs.declared.reading.ParsedLine.{ParsedLine}
use Rattle.graph_script.specs.declared.reading.Reading.{Reading}
use Rattle.graph_script.specs.Limits.{nodes_limit}
use Rattle.graph_script.specs.Lexical.{words_of, say_nothing, is_allowed}
use Rattle.graph_script.specs.Arguments.{is_node_name}
use Rattle.graph_script.specs.Checked.{checked_map}
use Rattle.graph_script.specs.Commands.{meaning_of_words}
use Rattle.graph_script.specs.Grammar.{meaning_of_line, reading_after, start}
use Rattle.graph_script.specs.working.Progress.{AreBefore}
use Rattle.graph_script.specs.Ranges.{IsInRange, HasNodes}
use Rattle.graph_script.specs.Making.{grown, all_grown}
use Rattle.graph_script.specs.Order.{HasOrder}
use Rattle.graph_script.specs.Kinds.{HasKinds, HasPorts}
use Rattle.graph_script.specs.working.Sound.{IsSound}
use Rattle.graph_script.proofs.NodeLemmas.{IsNew}
use Rattle.graph_script.proofs.FitLemmas.{added, IsFit, meaning_of_words-fits}
use Rattle.graph_script.proofs.HasNodesLemmas.{HasNodes-more, HasPorts-more, made-after}
use Rattle.graph_script.proofs.EarlierLemmas.{epochs-push}
use Rattle.graph_script.proofs.MakingLemmas.{names-push, all_grown-push, grown-added, fit-makes}

-- the names and the kinds after a line: as many more as it adds
length-added : {X : Type 0} (xs : List X) (f : Made → X) (made : Option Made)
    → length (xs ++ option_to_list (option_map f made)) ≡ length xs + added made
length-added xs f None = length-append xs []
length-added xs f (Some m) = length-append xs (f m ∷ [])

-- what a new node of a line is, if it makes one
abbrev pub IsMade : Reading → Option Made → Type 0
IsMade reading made = IfSome made (λ m. IsNew reading m.name (length reading.script.names)
    × (length reading.script.names < nodes_limit))

names-after : (reading : Reading) (made : Option Made) → All (λ name. IsTrue (is_node_name name)) reading.script.names
    → IsMade reading made
    → All (λ name. IsTrue (is_node_name name)) (reading.script.names ++ option_to_list (option_map (λ m. m.name) made))
names-after reading None all h = rw (append-nil reading.script.names) all
names-after reading (Some m) all h = All-push (λ name. IsTrue (is_node_name name)) reading.script.names m.name all h.0.form

other-after : (reading : Reading) (made : Option Made) → All (λ name. name ≢ codes "dummy") reading.script.names → IsMade reading made
    → All (λ name. name ≢ codes "dummy") (reading.script.names ++ option_to_list (option_map (λ m. m.name) made))
other-after reading None all h = rw (append-nil reading.script.names) all
other-after reading (Some m) all h = All-push (λ name. name ≢ codes "dummy") reading.script.names m.name all h.0.other

distinct-after : (reading : Reading) (made : Option Made) → AllPairs (λ a b. a ≢ b) reading.script.names → IsMade reading made
    → AllPairs (λ a b. a ≢ b) (reading.script.names ++ option_to_list (option_map (λ m. m.name) made))
distinct-after reading None all h = rw (append-nil reading.script.names) all
distinct-after reading (Some m) all h =
    all_pairs_push (λ a b. a ≢ b) reading.script.names m.name all (λ k d lt. h.0.alone k d lt)

count-after : (reading : Reading) (made : Option Made) → length reading.script.names ≤ 63 → IsMade reading made
    → length reading.script.names + added made ≤ 63
count-after reading None le h = omega arith
count-after reading (Some m) le h = omega (arith, h.1)

-- the order of lines and names after one more
order-after : (number : ℕ) (reading : Reading) (parsed : ParsedLine) → AreBefore number reading → HasOrder reading.script → IsFit reading parsed
    → all_grown 0 reading.script.lines ≡ length reading.script.names
    → HasOrder (reading_after number reading (Some parsed)).script
order-after number reading parsed before order fit grown =
    let line : Line = record { line = number; command = parsed.command } in
    record {
      ascend = all_pairs_push (λ a b. a.line < b.line) reading.script.lines line order.ascend (λ k d lt. before k d lt);
      distinct = distinct-after reading parsed.made order.distinct fit.form;
      other = other-after reading parsed.made order.other fit.form;
      epochs = epochs-push reading.script.lines line order.epochs fit.epochs;
      made = names-push 0 reading.script.lines line order.made (rw grown (fit-makes reading parsed fit));
    }

pub reading_after-sound : (number : ℕ) (reading : Reading) (parsed : ParsedLine) → 1 ≤ number → AreBefore number reading → IsSound reading
    → IsFit reading parsed → IsSound (reading_after number reading (Some parsed))
reading_after-sound number reading parsed one before sound fit =
    let count = length reading.script.names in
    let line : Line = record { line = number; command = parsed.command } in
    let more = option_to_list (option_map (λ m. m.kind) parsed.made) in
    let grown_names : length (reading.script.names ++ option_to_list (option_map (λ m. m.name) parsed.made)) ≡ count + added parsed.made =
    length-added reading.script.names (λ m. m.name) parsed.made in
    record {
      script = record {
        numbered = All-push (λ l. 1 ≤ l.line) reading.script.lines line sound.script.numbered one;
        ranges = All-push (λ l. IsInRange l.command) reading.script.lines line sound.script.ranges fit.range;
        nodes = rw grown_names (All-push (λ l. HasNodes (count + added parsed.made) l.command) reading.script.lines line
            (λ k d lt. HasNodes-more count (count + added parsed.made) _ (omega arith) (sound.script.nodes k d lt)) fit.nodes);
        count = rw grown_names (count-after reading parsed.made sound.script.count fit.form);
        names = names-after reading parsed.made sound.script.names fit.form;
      };
      order = order-after number reading parsed before sound.order fit sound.grown;
      made = made-after reading.script.lines line reading.kinds parsed.made sound.made (rw sound.named fit.made);
      grown = all_grown-push 0 reading.script.lines line ∙ ap (λ n. grown n parsed.command) sound.grown
          ∙ grown-added reading parsed fit ∙ sym grown_names;
      named = length-added reading.kinds (λ m. m.kind) parsed.made ∙ ap (λ n. n + added parsed.made) sound.named ∙ sym grown_names;
      ports = All-push (λ l. HasPorts (reading.kinds ++ more) l.command) reading.script.lines line
          (λ k d lt. HasPorts-more reading.kinds more _ (rw sound.named (sound.script.nodes k d lt)) (sound.ports k d lt))
          fit.ports;
    }

-- the lines so far, and one more, have numbers below the next
pub before-more : (number : ℕ) (reading : Reading) → AreBefore number reading → AreBefore (number + 1) reading
before-more number reading before = λ k d lt. omega (arith, before k d lt)

pub before-after : (number : ℕ) (reading : Reading) (parsed : ParsedLine) → AreBefore number reading
    → AreBefore (number + 1) (reading_after number reading (Some parsed))
before-after number reading parsed before =
    All-push (λ l. l.line < number + 1) reading.script.lines (record { line = number; command = parsed.command })
    (before-more number reading before) (omega arith)

-- a line that has a meaning says nothing, or what its words mean
pub from_words : (reading : Reading) (line : List ℕ) (parsed : ParsedLine) → meaning_of_line reading line ≡ Ok (Some parsed)
    → IsFit reading parsed
unfolding meaning_of_line
from_words reading line parsed = at_bytes (not (list_all is_allowed line))
  where
    at_map : (r : Result ParsedLine ScriptWhy) → meaning_of_words reading (words_of line) ≡ r
        → checked_map (λ s. Some s) r ≡ Ok (Some parsed) → IsFit reading parsed
    at_map (Err why) is e = cc
    at_map (Ok s) is e = let same : s ≡ parsed = cc in
        meaning_of_words-fits reading (words_of line) parsed (is ∙ ap (λ x. Ok x) same)

    at_words : (b : Bool) → (if b then Ok None else checked_map (λ s. Some s) (meaning_of_words reading (words_of line)))
        ≡ Ok (Some parsed) → IsFit reading parsed
    at_words true e = cc
    at_words false e = at_map (meaning_of_words reading (words_of line)) refl e

    at_bytes : (b : Bool) → (if b then Err W.Byte
        else (if say_nothing (words_of line) then Ok None else checked_map (λ s. Some s) (meaning_of_words reading (words_of line))))
        ≡ Ok (Some parsed) → IsFit reading parsed
    at_bytes true e = cc
    at_bytes false e = at_words (say_nothing (words_of line)) e

pub start-sound : IsSound start
start-sound = record {
  script = record { numbered = All-nil _; ranges = All-nil _; nodes = All-nil _; count = omega arith; names = All-nil _ };
  order = record {
    ascend = λ i j d l m. absurd (omega (arith, m));
    distinct = λ i j d l m. absurd (omega (arith, m));
    other = All-nil _;
    epochs = omega arith;
    made = tt;
  };
  made = refl;
  grown = refl;
  named = refl;
  ports = All-nil _;
}

-- what holds of the lines holds of the script
pub sound-kinds : (reading : Reading) → IsSound reading → HasKinds reading.script
sound-kinds reading sound = record { kinds = reading.kinds; made = sound.made; named = sound.named; ports = sound.ports }
