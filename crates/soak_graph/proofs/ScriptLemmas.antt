-- The text of a number is read as its script.
use Rattle.std.proofs.Common.{◌≡◌, ℕ, ◌+◌, ◌<◌, ◌≤◌, List, [], ◌∷◌, ◌++◌, length}
use Rattle.std.proofs.Common.{refl, sym, ap, ◌∙◌, subst, arith, codes}
use Rattle.std.specs.Prelude.{flat_map, Ok, Err, ◌≤ℤ◌, All, ℤ, pos, neg_ℤ}
use Rattle.std.specs.List.{range_with_len}
use Rattle.std.proofs.lemmas.List.Elements.{All-nil, All-cons}
use Rattle.std.proofs.lemmas.List.FromFn.{get_or-range_with_len}
use Rattle.pw_graph.specs.declared.kind.Kind.TheVariants as K
use Rattle.graph_script.specs.declared.command.Command.TheVariants as C
use Rattle.graph_script.specs.declared.fault.ScriptWhy.{ScriptWhy}
use Rattle.graph_script.specs.declared.fault.ScriptFault.{ScriptFault}
use Rattle.graph_script.specs.declared.fault.ScriptFault.TheVariants as F
use Rattle.graph_script.specs.declared.script.Script.{Script}
use Rattle.graph_script.specs.CommandWords.{names}
use Rattle.graph_script.specs.Commands.{meaning_of_command}
use Rattle.graph_script.specs.Grammar.{meaning_of_line, script_from, script_of, start, IsRead}
use Rattle.graph_script.specs.Lexical.{lines_of}
use Rattle.soak_graph.specs.SoakChains.{chains, source_node, gain_node, delay_node, gain, delay, off}
use Rattle.soak_graph.specs.SoakText.{digit, gain_link, delay_link, mix_link, level_link, all_lines, text_of_lines, soak_text}
use Rattle.soak_graph.specs.SoakScript.{mix_node, level_node, port, all_commands, numbered, all_names, soak_script}
use Rattle.soak_graph.proofs.DrawnLemmas.{gain_range, delay_range, off_range}
use Rattle.soak_graph.proofs.ReadingLemmas.{ParsedLine, AreParsedLines, reads, short_text}
use Rattle.soak_graph.proofs.ParsedLemmas.{made_parsed, plain_parsed, chain_parsed, is_read, gain_read, delay_read, IsNamed, off_read, on_read}

-- all lines, with what they say
abbrev ends_parsed : List (List ℕ × ParsedLine)
ends_parsed =
    made_parsed (codes "sink mix mix.wav") (C.Sink mix_node (codes "mix.wav")) (codes "mix") K.Sink
    ∷ made_parsed (codes "meter level") (C.Meter level_node) (codes "level") K.Meter
    ∷ plain_parsed (codes "driver mix 1") (C.Driver mix_node 1) ∷ []

abbrev link_parsed : ℕ → List (List ℕ × ParsedLine)
link_parsed i =
    plain_parsed (gain_link i) (C.Link (port (source_node i) 0) (port (gain_node i) 0))
    ∷ plain_parsed (delay_link i) (C.Link (port (gain_node i) 1) (port (delay_node i) 0))
    ∷ plain_parsed (mix_link i) (C.Link (port (delay_node i) 1) (port mix_node 0))
    ∷ plain_parsed (level_link i) (C.Link (port (delay_node i) 1) (port level_node 0)) ∷ []

abbrev play_parsed : ℕ → List (List ℕ × ParsedLine)
play_parsed k =
    plain_parsed (codes "cycles 100") (C.Cycles 100) ∷ plain_parsed (codes "off s" ++ digit k) (C.Off (source_node k))
    ∷ plain_parsed (codes "cycles 50") (C.Cycles 50) ∷ plain_parsed (codes "on s" ++ digit k) (C.On (source_node k))
    ∷ plain_parsed (codes "drain") C.Drain ∷ []

abbrev all_parsed : (ℕ → ℤ) → (ℕ → ℕ) → ℕ → List (List ℕ × ParsedLine)
all_parsed gains delays k =
    plain_parsed (codes "quantum 256") (C.Quantum 256)
    ∷ flat_map (λ i. chain_parsed i (gains i) (delays i)) (range_with_len 0 chains)
    ++ ends_parsed ++ flat_map link_parsed (range_with_len 0 chains) ++ play_parsed k

-- the sources by their numbers
all_named : All (IsNamed all_names) (range_with_len 0 8)
all_named = All-cons (IsNamed all_names) 0 (1 ∷ 2 ∷ 3 ∷ 4 ∷ 5 ∷ 6 ∷ 7 ∷ []) (record { word = refl; form = refl; place = refl })
    (All-cons (IsNamed all_names) 1 (2 ∷ 3 ∷ 4 ∷ 5 ∷ 6 ∷ 7 ∷ []) (record { word = refl; form = refl; place = refl })
    (All-cons (IsNamed all_names) 2 (3 ∷ 4 ∷ 5 ∷ 6 ∷ 7 ∷ []) (record { word = refl; form = refl; place = refl })
    (All-cons (IsNamed all_names) 3 (4 ∷ 5 ∷ 6 ∷ 7 ∷ []) (record { word = refl; form = refl; place = refl })
    (All-cons (IsNamed all_names) 4 (5 ∷ 6 ∷ 7 ∷ []) (record { word = refl; form = refl; place = refl })
    (All-cons (IsNamed all_names) 5 (6 ∷ 7 ∷ []) (record { word = refl; form = refl; place = refl })
    (All-cons (IsNamed all_names) 6 (7 ∷ []) (record { word = refl; form = refl; place = refl })
    (All-cons (IsNamed all_names) 7 ([]) (record { word = refl; form = refl; place = refl })
    (All-nil (IsNamed all_names)))))))))

named : (k : ℕ) → k < 8 → IsNamed all_names k
named k below =
    let same : 0 + k ≡ k = omega arith in
    subst (IsNamed all_names) (get_or-range_with_len 0 8 k 0 below ∙ same) (all_named k 0 below)

-- a line that is read, and those after it
infixr 5 ◌▸◌
abbrev ◌▸◌ : {A B : Type 0} → A → B → A × B
a ▸ b = (a, b)

all_read : (gains : ℕ → ℤ) (delays : ℕ → ℕ) (k : ℕ) → ((i : ℕ) → (neg_ℤ (pos 256) ≤ℤ gains i) × (gains i ≤ℤ pos 256))
    → ((i : ℕ) → delays i ≤ 1024) → k < 8 → AreParsedLines 1 start (all_parsed gains delays k)
unfolding meaning_of_line meaning_of_command names
all_read gains delays k g d below =
    is_read _ _ _ refl refl
    ▸ is_read _ _ _ refl refl ▸ gain_read _ 0 1 (gains 0) _ refl (g 0) refl refl ▸ delay_read _ 0 2 (delays 0) _ refl (d 0) refl refl
    ▸ is_read _ _ _ refl refl ▸ gain_read _ 1 4 (gains 1) _ refl (g 1) refl refl ▸ delay_read _ 1 5 (delays 1) _ refl (d 1) refl refl
    ▸ is_read _ _ _ refl refl ▸ gain_read _ 2 7 (gains 2) _ refl (g 2) refl refl ▸ delay_read _ 2 8 (delays 2) _ refl (d 2) refl refl
    ▸ is_read _ _ _ refl refl ▸ gain_read _ 3 10 (gains 3) _ refl (g 3) refl refl ▸ delay_read _ 3 11 (delays 3) _ refl (d 3) refl refl
    ▸ is_read _ _ _ refl refl ▸ gain_read _ 4 13 (gains 4) _ refl (g 4) refl refl ▸ delay_read _ 4 14 (delays 4) _ refl (d 4) refl refl
    ▸ is_read _ _ _ refl refl ▸ gain_read _ 5 16 (gains 5) _ refl (g 5) refl refl ▸ delay_read _ 5 17 (delays 5) _ refl (d 5) refl refl
    ▸ is_read _ _ _ refl refl ▸ gain_read _ 6 19 (gains 6) _ refl (g 6) refl refl ▸ delay_read _ 6 20 (delays 6) _ refl (d 6) refl refl
    ▸ is_read _ _ _ refl refl ▸ gain_read _ 7 22 (gains 7) _ refl (g 7) refl refl ▸ delay_read _ 7 23 (delays 7) _ refl (d 7) refl refl
    ▸ is_read _ _ _ refl refl ▸ is_read _ _ _ refl refl ▸ is_read _ _ _ refl refl
    ▸ is_read _ _ _ refl refl ▸ is_read _ _ _ refl refl ▸ is_read _ _ _ refl refl ▸ is_read _ _ _ refl refl
    ▸ is_read _ _ _ refl refl ▸ is_read _ _ _ refl refl ▸ is_read _ _ _ refl refl ▸ is_read _ _ _ refl refl
    ▸ is_read _ _ _ refl refl ▸ is_read _ _ _ refl refl ▸ is_read _ _ _ refl refl ▸ is_read _ _ _ refl refl
    ▸ is_read _ _ _ refl refl ▸ is_read _ _ _ refl refl ▸ is_read _ _ _ refl refl ▸ is_read _ _ _ refl refl
    ▸ is_read _ _ _ refl refl ▸ is_read _ _ _ refl refl ▸ is_read _ _ _ refl refl ▸ is_read _ _ _ refl refl
    ▸ is_read _ _ _ refl refl ▸ is_read _ _ _ refl refl ▸ is_read _ _ _ refl refl ▸ is_read _ _ _ refl refl
    ▸ is_read _ _ _ refl refl ▸ is_read _ _ _ refl refl ▸ is_read _ _ _ refl refl ▸ is_read _ _ _ refl refl
    ▸ is_read _ _ _ refl refl ▸ is_read _ _ _ refl refl ▸ is_read _ _ _ refl refl ▸ is_read _ _ _ refl refl
    ▸ is_read _ _ _ refl refl ▸ off_read _ k (named k below) ▸ is_read _ _ _ refl refl ▸ on_read _ k (named k below) ▸ is_read _ _ _ refl refl
    ▸ tt

-- THE SCRIPT that such lines are, and how long they are
commands_read : (gains : ℕ → ℤ) (delays : ℕ → ℕ) (k : ℕ) → AreParsedLines 1 start (all_parsed gains delays k)
    → script_from 1 start (lines_of (text_of_lines (all_lines gains delays k)))
    ≡ Ok (record { lines = numbered 1 (all_commands gains delays k); names = all_names })
commands_read gains delays k parsed = reads 1 start (all_parsed gains delays k) parsed

commands_short : (gains : ℕ → ℤ) (delays : ℕ → ℕ) (k : ℕ) → AreParsedLines 1 start (all_parsed gains delays k)
    → length (text_of_lines (all_lines gains delays k)) ≤ 2665
commands_short gains delays k parsed = short_text 1 start (all_parsed gains delays k) parsed

parsed_of : (number : ℕ) → AreParsedLines 1 start (all_parsed (gain number) (delay number) (off number))
parsed_of number = all_read (gain number) (delay number) (off number) (gain_range number) (delay_range number) (off_range number)

-- THE TEXT of a number is accepted, as its script
pub text_is_read : (number : ℕ) → script_of (soak_text number) ≡ Ok (soak_script number)
unfolding script_of soak_text
text_is_read number = commands_read (gain number) (delay number) (off number) (parsed_of number)

pub text_is_short : (number : ℕ) → length (soak_text number) ≤ 2665
unfolding soak_text
text_is_short number = commands_short (gain number) (delay number) (off number) (parsed_of number)

-- so a result of reading it is that script, and no fault
pub read_as : (number : ℕ) (bytes : List ℕ) (script : Script) → bytes ≡ soak_text number → script_of bytes ≡ Ok script
    → script ≡ soak_script number
read_as number bytes script same e =
    let is : Ok script ≡ Ok (soak_script number) = sym e ∙ ap script_of same ∙ text_is_read number in cc

pub not_refused : (number : ℕ) (bytes : List ℕ) (line : ℕ) (why : ScriptWhy) (fault : ScriptFault) → bytes ≡ soak_text number
    → fault ≡ F.At line why → IsRead (script_of bytes) (Err fault) → ⊥
not_refused number bytes line why fault same at read =
    let e : script_of bytes ≡ Err (F.At line why) = subst (λ f. IsRead (script_of bytes) (Err f)) at read in
    let is : Err (F.At line why) ≡ Ok (soak_script number) = sym e ∙ ap script_of same ∙ text_is_read number in cc
