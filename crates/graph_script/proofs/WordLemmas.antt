-- A name, a port and an endpoint that are read are written back as the words that they were read from, also after
-- more nodes.
use Rattle.std.proofs.Common.{◌≡◌, ℕ, ◌+◌, ◌<◌, true, not, List, [], ◌∷◌, ◌++◌, length, get_or, refl, sym, ap, ◌∙◌, subst, arith}
use Rattle.std.specs.Prelude.{Option, Some, ok_or, position, bytes_eq, Result, Ok, Err}
use Rattle.std.specs.List.{slice_split, join_with_byte}
use Rattle.std.proofs.lemmas.List.{get_or_append_left, get_or-append-add}
use Rattle.std.proofs.lemmas.List.Quantifiers.{position-Some}
use Rattle.std.proofs.lemmas.List.Splits.{join_with_byte-slice_split}
use Rattle.std.proofs.lemmas.Slice.Eq.{bytes_eq-Decides}
use Rattle.pw_graph.specs.declared.ids.PortId.{PortId}
use Rattle.pw_graph.specs.declared.kind.Kind.{Kind}
use Rattle.pw_graph.specs.KindPorts.{input_names, output_names, input_count, port_name}
use Rattle.graph_script.specs.declared.fault.ScriptWhy.{ScriptWhy}
use Rattle.graph_script.specs.declared.fault.ScriptWhy.TheVariants as W
use Rattle.graph_script.specs.declared.reading.Reading.{Reading}
use Rattle.graph_script.specs.Arguments.{is_node_name, is_dot, two_of, endpoint_parts}
use Rattle.graph_script.specs.Checked.{checked_map, one_arg, two_args, three_args, four_args, five_args, no_args}
use Rattle.graph_script.specs.Nodes.{node_called, kind_at, node_arg, port_called, output_called, input_called, port_arg, endpoint_arg}
use Rattle.graph_script.specs.Kinds.{kind_in}
use Rattle.graph_script.specs.Printing.{node_word, port_word, endpoint_word}
use Rattle.graph_script.proofs.CheckedLemmas.{from_bind, from_some, from_refusal, from_map}
use Rattle.graph_script.proofs.HasNodesLemmas.{kind_in-more}

-- the words of arguments that were counted
from_checked_map : {A B : Type 0} (f : A → B) (r : Result A ScriptWhy) (y : B) → checked_map f r ≡ Ok y → (x : A) × (r ≡ Ok x) × (f x ≡ y)
from_checked_map f (Err why) y e = cc
from_checked_map f (Ok x) y e = (x, refl, cc)

pub no_args-words : (words : List (List ℕ)) (x : Unit {0}) → no_args words ≡ Ok x → words ≡ []
no_args-words [] x e = refl
no_args-words (a ∷ more) x e = cc

pub one_arg-words : (words : List (List ℕ)) (a : List ℕ) → one_arg words ≡ Ok a → words ≡ a ∷ []
one_arg-words [] a e = cc
one_arg-words (b ∷ []) a e = cc
one_arg-words (b ∷ c ∷ more) a e = cc

pub two_args-words : (words : List (List ℕ)) (a : List ℕ × List ℕ) → two_args words ≡ Ok a → words ≡ a.0 ∷ a.1 ∷ []
two_args-words [] a e = cc
two_args-words (b ∷ more) a e =
    let rest = from_checked_map (λ c. (b, c)) (one_arg more) a e in
    let same : (b, rest.0) ≡ a = rest.2 in
    ap (λ ws. b ∷ ws) (one_arg-words more rest.0 rest.1) ∙ ap (λ (x : List ℕ × List ℕ). x.0 ∷ x.1 ∷ []) same

pub three_args-words : (words : List (List ℕ)) (a : List ℕ × List ℕ × List ℕ) → three_args words ≡ Ok a → words ≡ a.0 ∷ a.1 ∷ a.2 ∷ []
three_args-words [] a e = cc
three_args-words (b ∷ more) a e =
    let rest = from_checked_map (λ (c : List ℕ × List ℕ). (b, c.0, c.1)) (two_args more) a e in
    ap (λ ws. b ∷ ws) (two_args-words more rest.0 rest.1)
    ∙ ap (λ (x : List ℕ × List ℕ × List ℕ). x.0 ∷ x.1 ∷ x.2 ∷ []) rest.2

pub four_args-words : (words : List (List ℕ)) (a : List ℕ × List ℕ × List ℕ × List ℕ) → four_args words ≡ Ok a
    → words ≡ a.0 ∷ a.1 ∷ a.2 ∷ a.3 ∷ []
four_args-words [] a e = cc
four_args-words (b ∷ more) a e =
    let rest = from_checked_map (λ (c : List ℕ × List ℕ × List ℕ). (b, c.0, c.1, c.2)) (three_args more) a e in
    ap (λ ws. b ∷ ws) (three_args-words more rest.0 rest.1)
    ∙ ap (λ (x : List ℕ × List ℕ × List ℕ × List ℕ). x.0 ∷ x.1 ∷ x.2 ∷ x.3 ∷ []) rest.2

pub five_args-words : (words : List (List ℕ)) (a : List ℕ × List ℕ × List ℕ × List ℕ × List ℕ) → five_args words ≡ Ok a
    → words ≡ a.0 ∷ a.1 ∷ a.2 ∷ a.3 ∷ a.4 ∷ []
five_args-words [] a e = cc
five_args-words (b ∷ more) a e =
    let rest = from_checked_map (λ (c : List ℕ × List ℕ × List ℕ × List ℕ). (b, c.0, c.1, c.2, c.3)) (four_args more) a e in
    ap (λ ws. b ∷ ws) (four_args-words more rest.0 rest.1)
    ∙ ap (λ (x : List ℕ × List ℕ × List ℕ × List ℕ × List ℕ). x.0 ∷ x.1 ∷ x.2 ∷ x.3 ∷ x.4 ∷ []) rest.2

-- the final names and kinds begin with those that are read so far
pub record IsFront (reading : Reading) (names : List (List ℕ)) (kinds : List Kind) : Type 0 where
  pub more_names : List (List ℕ)
  pub names_are : names ≡ reading.script.names ++ more_names
  pub more_kinds : List Kind
  pub kinds_are : kinds ≡ reading.kinds ++ more_kinds
  pub named : length reading.kinds ≡ length reading.script.names

same_bytes : (xs ys : List ℕ) → bytes_eq xs ys ≡ true → xs ≡ ys
same_bytes xs ys e = (bytes_eq-Decides xs ys).0 e

found : (names : List (List ℕ)) (name : List ℕ) (k : ℕ) → position (bytes_eq name) names ≡ Some k → (k < length names)
    × (get_or names k [] ≡ name)
found names name k e =
    let p = position-Some (bytes_eq name) names k [] e in (p.0, sym (same_bytes name (get_or names k []) p.1))

pub record IsNamed (reading : Reading) (names : List (List ℕ)) (node : ℕ) (word : List ℕ) : Type 0 where
  pub there : node < length reading.script.names
  pub word_is : node_word names node ≡ word

pub node_arg-word : (reading : Reading) (names : List (List ℕ)) (kinds : List Kind) (word : List ℕ) (node : ℕ)
    → IsFront reading names kinds → node_arg reading word ≡ Ok node → IsNamed reading names node word
node_arg-word reading names kinds word node front e =
    let form = from_refusal (not (is_node_name word)) W.NameForm _ node e in
    let at = found reading.script.names word node (from_some (node_called reading word) W.NameUnknown node form.1) in
    record {
      there = at.0;
      word_is = ap (λ ns. get_or ns node []) front.names_are
          ∙ get_or_append_left reading.script.names front.more_names [] node at.0 ∙ at.1;
    }

kind_is : (reading : Reading) (names : List (List ℕ)) (kinds : List Kind) (node : ℕ) → IsFront reading names kinds
    → node < length reading.script.names → kind_in kinds node ≡ kind_at reading node
kind_is reading names kinds node front lt =
    ap (λ ks. kind_in ks node) front.kinds_are ∙ kind_in-more reading.kinds front.more_kinds node (omega (arith, front.named))

-- the name of a port that was looked up
port_called-word : (kind : Kind) (name : List ℕ) (port : ℕ) → port_called kind name ≡ Some port → port_name kind port ≡ name
port_called-word kind name port e = (found (input_names kind ++ output_names kind) name port e).1

pub input_called-word : (kind : Kind) (name : List ℕ) (port : ℕ) → input_called kind name ≡ Some port → port_name kind port ≡ name
input_called-word kind name port e =
    let at = found (input_names kind) name port e in
    get_or_append_left (input_names kind) (output_names kind) [] port at.0 ∙ at.1

pub output_called-word : (kind : Kind) (name : List ℕ) (port : ℕ) → output_called kind name ≡ Some port → port_name kind port ≡ name
output_called-word kind name port e =
    let place = from_map (λ place. input_count kind + place) (position (bytes_eq name) (output_names kind)) port e in
    let at = found (output_names kind) name place.0 place.1 in
    ap (λ p. port_name kind p) (sym place.2)
    ∙ get_or-append-add (input_names kind) (output_names kind) place.0 [] ∙ at.1

pub port_arg-words : (reading : Reading) (names : List (List ℕ)) (kinds : List Kind) (name pname : List ℕ) (port : PortId)
    → IsFront reading names kinds → port_arg reading name pname ≡ Ok port
    → (node_word names port.node ≡ name) × (port_word kinds port ≡ pname)
port_arg-words reading names kinds name pname port front e =
    let node = from_bind (node_arg reading name) _ port e in
    let place = from_bind (ok_or (port_called (kind_at reading node.0) pname) W.PortUnknown) _ port node.2 in
    let same : record { node = node.0; port = place.0 } ≡ port = cc (place.2) in
    let named = node_arg-word reading names kinds name node.0 front node.1 in
    subst (λ (p : PortId). (node_word names p.node ≡ name) × (port_word kinds p ≡ pname)) same (
      named.word_is,
      ap (λ k. port_name k place.0) (kind_is reading names kinds node.0 front named.there)
          ∙ port_called-word (kind_at reading node.0) pname place.0
          (from_some (port_called (kind_at reading node.0) pname) W.PortUnknown place.0 place.1),
    )

-- a word of two parts, put together again
two_of-word : (pieces : List (List ℕ)) (parts : List ℕ × List ℕ) → two_of pieces ≡ Some parts
    → join_with_byte 0x2E pieces ≡ parts.0 ++ 0x2E ∷ parts.1
two_of-word [] parts e = cc
two_of-word (a ∷ []) parts e = cc
two_of-word (a ∷ b ∷ []) parts e =
    let same : (a, b) ≡ parts = cc in ap (λ (p : List ℕ × List ℕ). p.0 ++ 0x2E ∷ p.1) same
two_of-word (a ∷ b ∷ c ∷ more) parts e = cc

pub endpoint_arg-word : (called : Kind → List ℕ → Option ℕ) (reading : Reading) (names : List (List ℕ)) (kinds : List Kind)
    (word : List ℕ) (port : PortId)
    → ((kind : Kind) (name : List ℕ) (p : ℕ) → called kind name ≡ Some p → port_name kind p ≡ name)
    → IsFront reading names kinds → endpoint_arg called reading word ≡ Ok port → endpoint_word names kinds port ≡ word
endpoint_arg-word called reading names kinds word port spells front e =
    let parts = from_bind (ok_or (endpoint_parts word) W.NameForm) _ port e in
    let node = from_bind (node_arg reading parts.0.0) _ port parts.2 in
    let place = from_bind (ok_or (called (kind_at reading node.0) parts.0.1) W.PortUnknown) _ port node.2 in
    let same : record { node = node.0; port = place.0 } ≡ port = cc (place.2) in
    let named = node_arg-word reading names kinds parts.0.0 node.0 front node.1 in
    let cut = from_some (endpoint_parts word) W.NameForm parts.0 parts.1 in
    let name_is : port_name (kind_in kinds node.0) place.0 ≡ parts.0.1 =
    ap (λ k. port_name k place.0) (kind_is reading names kinds node.0 front named.there)
    ∙ spells (kind_at reading node.0) parts.0.1 place.0
    (from_some (called (kind_at reading node.0) parts.0.1) W.PortUnknown place.0 place.1) in
    ap (λ (p : PortId). endpoint_word names kinds p) (sym same)
    ∙ (λ i. named.word_is i ++ 0x2E ∷ name_is i)
    ∙ sym (two_of-word (slice_split is_dot word) parts.0 cut)
    ∙ join_with_byte-slice_split 0x2E word
