-- Names of nodes have no space: a name is one word.
use Rattle.std.proofs.Common.{◌≡◌, ℕ, ◌==◌, ◌&&◌, true, false, List, [], ◌∷◌, length, refl, sym, ap, ◌∙◌, IsTrue}
use Rattle.std.specs.Prelude.{All, nat_le}
use Rattle.std.specs.List.{list_all}
use Rattle.std.proofs.lemmas.Bool.{true≢false, and_parts, eqb-true, false_from_ne_true}
use Rattle.std.proofs.lemmas.List.Elements.{All-nil, All-cons, All-weaker}
use Rattle.std.proofs.lemmas.List.Sums.{AllPass-from_list_all}
use Rattle.graph_script.specs.Arguments.{is_letter, is_name_byte, is_node_name}
use Rattle.graph_script.specs.Limits.{name_rest_limit}

letter_whole : (b : ℕ) → is_letter b ≡ true → (b == 32) ≡ false
letter_whole b h = false_from_ne_true (b == 32) (λ t. let no : is_letter 32 ≡ false = refl in
    true≢false (sym h ∙ ap is_letter (eqb-true b 32 t) ∙ no))

byte_whole : (b : ℕ) → is_name_byte b ≡ true → (b == 32) ≡ false
byte_whole b h = false_from_ne_true (b == 32) (λ t. let no : is_name_byte 32 ≡ false = refl in
    true≢false (sym h ∙ ap is_name_byte (eqb-true b 32 t) ∙ no))

pub name_whole : (name : List ℕ) → IsTrue (is_node_name name) → All (λ b. (b == 32) ≡ false) name
name_whole [] h = All-nil (λ b. (b == 32) ≡ false)
name_whole (first ∷ rest) h =
    let p = and_parts (is_letter first && nat_le (length rest) name_rest_limit) (list_all is_name_byte rest) h in
    let q = and_parts (is_letter first) (nat_le (length rest) name_rest_limit) p.0 in
    All-cons (λ b. (b == 32) ≡ false) first rest (letter_whole first q.0)
    (All-weaker (λ b. is_name_byte b ≡ true) (λ b. (b == 32) ≡ false) byte_whole rest (AllPass-from_list_all is_name_byte rest p.1))
