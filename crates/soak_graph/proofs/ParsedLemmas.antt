-- What each line of the script says.
use Rattle.std.proofs.Common.{◌≡◌, ℕ, ◌≤◌, ◌&&◌, Bool, true, false, not, List, [], ◌∷◌, ◌++◌, length}
use Rattle.std.proofs.Common.{refl, ap, ◌∙◌, subst, arith, append-nil, length-append, codes, decimal}
use Rattle.std.specs.Prelude.{Some, None, Ok, Err, ok_or, ◌≤ℤ◌, All, ℤ, pos, neg_ℤ, position, bytes_eq, nat_le, if◌then◌else◌}
use Rattle.std.specs.Fmt.{signed_decimal}
use Rattle.std.specs.List.{list_all}
use Rattle.std.proofs.lemmas.Bool.{and_parts, leb-true}
use Rattle.std.proofs.lemmas.Fmt.{length-decimal-le}
use Rattle.std.proofs.lemmas.Int.{ints}
use Rattle.std.proofs.lemmas.List.Elements.{All-nil, All-cons}
use Rattle.pw_graph.specs.declared.kind.Kind.{Kind}
use Rattle.pw_graph.specs.declared.kind.Kind.TheVariants as K
use Rattle.graph_script.specs.declared.command.Command.{Command}
use Rattle.graph_script.specs.declared.command.Command.TheVariants as C
use Rattle.graph_script.specs.CommandWords.{names}
use Rattle.graph_script.specs.Commands.{meaning_of_words, meaning_of_command}
use Rattle.graph_script.specs.Checked.{◌>>=◌, number_arg, integer_arg}
use Rattle.graph_script.specs.Earlier.{making, saying}
use Rattle.graph_script.specs.Arguments.{is_node_name}
use Rattle.graph_script.specs.Limits.{gain_limit, delay_limit}
use Rattle.graph_script.specs.Nodes.{new_arg, node_arg, node_called}
use Rattle.graph_script.specs.Printing.{spaced}
use Rattle.graph_script.specs.declared.fault.ScriptWhy.TheVariants as W
use Rattle.graph_script.specs.Grammar.{meaning_of_line}
use Rattle.graph_script.specs.Lexical.{is_line_feed}
use Rattle.graph_script.proofs.TextLemmas.{IsWord}
use Rattle.soak_graph.specs.SoakChains.{source_node, gain_node, delay_node}
use Rattle.soak_graph.specs.SoakText.{digit, source_line, gain_line, delay_line}
use Rattle.soak_graph.proofs.ReadingLemmas.{Reading, ParsedLine, IsParsedLine, is_word, word_is, parsed_of_words, line_limit}
use Rattle.soak_graph.proofs.NumberLemmas.{signed-word, signed-short, decimal-word, number_arg-decimal, integer_arg-decimal}

-- a line that makes a node, and one that makes no node
abbrev pub made_parsed : List ℕ → Command → List ℕ → Kind → List ℕ × ParsedLine
made_parsed line command name kind = (line, record { command = command; made = Some (record { name = name; kind = kind }) })

abbrev pub plain_parsed : List ℕ → Command → List ℕ × ParsedLine
plain_parsed line command = (line, record { command = command; made = None })

abbrev pub chain_parsed : ℕ → ℤ → ℕ → List (List ℕ × ParsedLine)
chain_parsed i g d =
    made_parsed (source_line i) (C.Source (source_node i) (codes "s" ++ digit i ++ codes ".wav")) (codes "s" ++ digit i) K.Source
    ∷ made_parsed (gain_line i g) (C.Gain (gain_node i) g) (codes "g" ++ digit i) (K.Gain g)
    ∷ made_parsed (delay_line i d) (C.Delay (delay_node i) d) (codes "d" ++ digit i) (K.Delay d) ∷ []

-- a line that has no number but a chain's is read by computation
abbrev is_in_line : ℕ → Bool
is_in_line b = not (is_line_feed b)

no : (b : Bool) → not b ≡ true → b ≡ false
no true e = cc
no false e = refl

pub feedless : (line : List ℕ) → list_all is_in_line line ≡ true → All (λ b. is_line_feed b ≡ false) line
feedless [] e = All-nil (λ b. is_line_feed b ≡ false)
feedless (b ∷ line) e =
    let p = and_parts (is_in_line b) (list_all is_in_line line) e in
    All-cons (λ c. is_line_feed c ≡ false) b line (no (is_line_feed b) p.0) (feedless line p.1)

pub is_read : (reading : Reading) (line : List ℕ) (parsed : ParsedLine) → (nat_le (length line) line_limit && list_all is_in_line line) ≡ true
    → meaning_of_line reading line ≡ Ok (Some parsed) → IsParsedLine reading line parsed
is_read reading line parsed e means =
    let p = and_parts (nat_le (length line) line_limit) (list_all is_in_line line) e in
    record { short = leb-true (length line) line_limit p.0; feedless = feedless line p.1; means = means }

-- a line with a gain or a delay, in the place of the next node
pub gain_read : (reading : Reading) (i node : ℕ) (g : ℤ) (parsed : ParsedLine) → is_word (codes "g" ++ digit i) ≡ true
    → (neg_ℤ (pos 256) ≤ℤ g) × (g ≤ℤ pos 256) → new_arg reading (codes "g" ++ digit i) ≡ Ok node
    → making reading (C.Gain node g) (codes "g" ++ digit i) (K.Gain g) ≡ Ok parsed → IsParsedLine reading (gain_line i g) parsed
unfolding meaning_of_command names
gain_read reading i node g parsed word range new made =
    let name = codes "g" ++ digit i in
    let z = signed_decimal g in
    let low : neg_ℤ (pos gain_limit) ≤ℤ g = omega (arith, ints, range.0) in
    let high : g ≤ℤ pos gain_limit = omega (arith, ints, range.1) in
    let means : meaning_of_words reading (codes "gain" ∷ name ∷ z ∷ []) ≡ Ok parsed =
    ap (λ r. r >>= (λ n. integer_arg gain_limit z >>= (λ f. making reading (C.Gain n f) name (K.Gain f)))) new
    ∙ ap (λ r. r >>= (λ f. making reading (C.Gain node f) name (K.Gain f))) (integer_arg-decimal gain_limit g (omega arith) low high) ∙ made in
    let short : length (codes "gain" ++ spaced (name ∷ z ∷ [])) ≤ line_limit =
    omega (arith, signed-short g range.0 range.1, length-append z []) in
    let words = All-cons IsWord name (z ∷ []) (word_is name word)
    (All-cons IsWord z [] (signed-word gain_limit g (omega arith) low high) (All-nil IsWord)) in
    let same : codes "gain" ++ spaced (name ∷ z ∷ []) ≡ gain_line i g = ap (λ w. codes "gain " ++ name ++ codes " " ++ w) (append-nil z) in
    subst (λ line. IsParsedLine reading line parsed) same
    (parsed_of_words reading (codes "gain") (name ∷ z ∷ []) parsed short (word_is (codes "gain") refl) words refl means)

pub delay_read : (reading : Reading) (i node d : ℕ) (parsed : ParsedLine) → is_word (codes "d" ++ digit i) ≡ true → d ≤ 1024
    → new_arg reading (codes "d" ++ digit i) ≡ Ok node
    → making reading (C.Delay node d) (codes "d" ++ digit i) (K.Delay d) ≡ Ok parsed → IsParsedLine reading (delay_line i d) parsed
unfolding meaning_of_command names
delay_read reading i node d parsed word range new made =
    let name = codes "d" ++ digit i in
    let z = decimal d in
    let means : meaning_of_words reading (codes "delay" ∷ name ∷ z ∷ []) ≡ Ok parsed =
    ap (λ r. r >>= (λ n. number_arg 0 delay_limit z >>= (λ f. making reading (C.Delay n f) name (K.Delay f)))) new
    ∙ ap (λ r. r >>= (λ f. making reading (C.Delay node f) name (K.Delay f)))
    (number_arg-decimal 0 delay_limit d (omega arith) (omega arith) (omega arith)) ∙ made in
    let short : length (codes "delay" ++ spaced (name ∷ z ∷ [])) ≤ line_limit =
    omega (arith, length-decimal-le 5 d (omega arith) (omega arith) (omega arith), length-append z []) in
    let words = All-cons IsWord name (z ∷ []) (word_is name word) (All-cons IsWord z [] (decimal-word d (omega arith)) (All-nil IsWord)) in
    let same : codes "delay" ++ spaced (name ∷ z ∷ []) ≡ delay_line i d = ap (λ w. codes "delay " ++ name ++ codes " " ++ w) (append-nil z) in
    subst (λ line. IsParsedLine reading line parsed) same
    (parsed_of_words reading (codes "delay") (name ∷ z ∷ []) parsed short (word_is (codes "delay") refl) words refl means)

-- a source by its number, and the lines that take it off and on
pub record IsNamed (names : List (List ℕ)) (k : ℕ) : Type 0 where
  pub word : is_word (codes "s" ++ digit k) ≡ true
  pub form : is_node_name (codes "s" ++ digit k) ≡ true
  pub place : position (bytes_eq (codes "s" ++ digit k)) names ≡ Some (source_node k)

node_parsed : (reading : Reading) (k : ℕ) → IsNamed reading.script.names k → node_arg reading (codes "s" ++ digit k) ≡ Ok (source_node k)
node_parsed reading k named =
    let name = codes "s" ++ digit k in
    ap (λ b. if not b then Err W.NameForm else ok_or (node_called reading name) W.NameUnknown) named.form
    ∙ ap (λ o. ok_or o W.NameUnknown) named.place

pub off_read : (reading : Reading) (k : ℕ) → IsNamed reading.script.names k
    → IsParsedLine reading (codes "off s" ++ digit k) (plain_parsed [] (C.Off (source_node k))).1
unfolding meaning_of_command names
off_read reading k named =
    let name = codes "s" ++ digit k in
    parsed_of_words reading (codes "off") (name ∷ []) (plain_parsed [] (C.Off (source_node k))).1 (omega arith) (word_is (codes "off") refl)
    (All-cons IsWord name [] (word_is name named.word) (All-nil IsWord)) refl
    (ap (λ r. r >>= (λ node. saying (C.Off node))) (node_parsed reading k named))

pub on_read : (reading : Reading) (k : ℕ) → IsNamed reading.script.names k
    → IsParsedLine reading (codes "on s" ++ digit k) (plain_parsed [] (C.On (source_node k))).1
unfolding meaning_of_command names
on_read reading k named =
    let name = codes "s" ++ digit k in
    parsed_of_words reading (codes "on") (name ∷ []) (plain_parsed [] (C.On (source_node k))).1 (omega arith) (word_is (codes "on") refl)
    (All-cons IsWord name [] (word_is name named.word) (All-nil IsWord)) refl
    (ap (λ r. r >>= (λ node. saying (C.On node))) (node_parsed reading k named))
