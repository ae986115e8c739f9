-- The head of a value that is written is read back.
use Rattle.std.proofs.Common.{◌≡◌, ℕ, ℤ, ◌^◌, ◌<◌, true, false, List, [], ◌∷◌, ◌++◌, length, map}
use Rattle.std.proofs.Common.{refl, ap, ◌∙◌, arith, append_assoc, decimal}
use Rattle.std.specs.Prelude.{Option, Some, option_map, codes}
use Rattle.std.specs.List.{flat_map}
use Rattle.std.specs.Int.{w32, w64, to_be_bytes}
use Rattle.std.specs.Fmt.{signed_decimal}
use Rattle.std.proofs.lemmas.List.{length-map}
use Rattle.pod_codec.specs.declared.pod.Pod.{Pod}
use Rattle.pod_codec.specs.declared.pod.Prop.{Prop}
use Rattle.pod_codec.specs.declared.pod.Control.{Control}
use Rattle.pod_codec.specs.declared.pod.Pod.TheOpen.{Pod-F}
use Rattle.pod_codec.specs.declared.pod.Pod.TheViews.{out-Pod, roll-Pod}
use Rattle.pod_codec.specs.declared.pod.Pod.TheFolds.{map-Pod, fold_out-Pod}
use Rattle.pod_codec.specs.declared.pod.Pod.TheVariants as P
use Rattle.pod_codec.specs.declared.pod.ChoiceKind.{ChoiceKind}
use Rattle.pod_codec.specs.declared.pod.ChoiceKind.TheVariants as k
use Rattle.pod_codec.specs.DumpWords.{Lines, hex, escaped, kind_word, two_numbered}
use Rattle.pod_codec.specs.DumpText.{pod_lines, prop_lines, control_lines, lines_of, prop_lines_of, control_lines_of}
use Rattle.dump_reading.specs.working.Cutting.{cut_at}
use Rattle.dump_reading.specs.working.Names.{scalar_name, wide_name, holder_name, name_said, kind_said}
use Rattle.dump_reading.specs.working.Heads.{args_said, named, choice_in, choice_with, head_in, head_said}
use Rattle.dump_reading.specs.working.Numbers.{triple_said}
use Rattle.dump_reading.specs.WellFormed.{IsWellFormedBy}
use Rattle.dump_reading.specs.declared.heads.Head.{Head}
use Rattle.dump_reading.specs.declared.heads.Head.TheVariants as H
use Rattle.dump_reading.specs.declared.names.Name.{Name}
use Rattle.dump_reading.specs.declared.names.Name.TheVariants as N
use Rattle.dump_reading.proofs.CuttingLemmas.{is_free, free_both, cut_back}
use Rattle.dump_reading.proofs.NumberLemmas.{number_back, pair_back, triple_back, space_other, integer_back, free_signed, free_number}
use Rattle.dump_reading.proofs.DigitLemmas.{hex_free, four_bytes, eight_bytes, float_back, double_back, quoted_hex_back}
use Rattle.dump_reading.proofs.StringLemmas.{line_free, quoted_back}

-- the lines of a value, by those of what it holds
abbrev pub lines_at : Pod-F Pod Control Prop → Lines
lines_at v = pod_lines (map-Pod Pod Control Prop Lines Lines Lines lines_of control_lines_of prop_lines_of v)

pub lines_out : (pod : Pod) → lines_of pod ≡ lines_at (out-Pod pod)
lines_out pod = fold_out-Pod Lines Lines Lines pod_lines control_lines prop_lines pod

-- what its first line says
abbrev pub headed : Pod-F Pod Control Prop → Head
headed (Pod-F.Array child values) = H.Array child (length values)
headed (Pod-F.Struct fields) = H.Struct (length fields)
headed (Pod-F.Object object id props) = H.Object object id (length props)
headed (Pod-F.Choice kind flags child values) = H.Choice kind flags child (length values)
headed (Pod-F.Sequence unit controls) = H.Sequence unit (length controls)
headed leaf = H.Leaf (roll-Pod leaf)

kind_free : (kind : ChoiceKind) → is_free 32 (kind_word kind) ≡ true
kind_free k.None = refl
kind_free k.Range = refl
kind_free k.Step = refl
kind_free k.Enum = refl
kind_free k.Flags = refl

kind_line : (kind : ChoiceKind) → is_free 10 (kind_word kind) ≡ true
kind_line k.None = refl
kind_line k.Range = refl
kind_line k.Step = refl
kind_line k.Enum = refl
kind_line k.Flags = refl

kind_back : (kind : ChoiceKind) → kind_said (kind_word kind) ≡ Some kind
unfolding kind_said
kind_back k.None = refl
kind_back k.Range = refl
kind_back k.Step = refl
kind_back k.Enum = refl
kind_back k.Flags = refl

said_behind : (name args : List ℕ) (k : Name) (head : Head) → is_free 32 name ≡ true → name_said name ≡ Some k
    → args_said k args ≡ Some head → head_said (name ++ 32 ∷ args) ≡ Some head
unfolding head_said
said_behind name args k head free n a =
    ap (head_in (name ++ 32 ∷ args)) (cut_back 32 name args free) ∙ ap (λ (o : Option Name). named o args) n ∙ a

said_choice : (kind : ChoiceKind) (flags child n : ℕ) → flags < 2 ^ 32 → child < 2 ^ 32 → n < 2 ^ 32
    → args_said N.Choice (kind_word kind ++ 32 ∷ ((decimal flags ++ 32 ∷ decimal child) ++ 32 ∷ decimal n)) ≡ Some (H.Choice kind flags child n)
unfolding args_said
said_choice kind flags child n f c l =
    let rest = (decimal flags ++ 32 ∷ decimal child) ++ 32 ∷ decimal n in
    let three : triple_said rest ≡ Some (flags, child, n) =
    ap triple_said (append_assoc (decimal flags) (32 ∷ decimal child) (32 ∷ decimal n)) ∙ triple_back flags child n f c l in
    ap choice_in (cut_back 32 (kind_word kind) rest (kind_free kind))
    ∙ (λ i. choice_with (kind_back kind i) (three i))

pub head_back : (Held : Pod → Type 0) (v : Pod-F Pod Control Prop) → IsWellFormedBy Held v → head_said (lines_at v).head ≡ Some (headed v)
unfolding head_said args_said name_said scalar_name wide_name holder_name cut_at two_numbered roll-Pod denote.Hole.Carrier.roll
head_back Held Pod-F.None h = refl
head_back Held (Pod-F.Bool true) h = said_behind (codes "bool") (codes "true") N.Bool (H.Leaf (P.Bool true)) refl refl refl
head_back Held (Pod-F.Bool false) h = said_behind (codes "bool") (codes "false") N.Bool (H.Leaf (P.Bool false)) refl refl refl
head_back Held (Pod-F.Id n) h = said_behind (codes "id") (decimal n) N.Id (H.Leaf (P.Id n)) refl refl
    (ap (option_map (λ (m : ℕ). H.Leaf (P.Id m))) (number_back n h))
head_back Held (Pod-F.Int z) h = said_behind (codes "int") (signed_decimal z) N.Int (H.Leaf (P.Int z)) refl refl
    (ap (option_map (λ (m : ℤ). H.Leaf (P.Int m))) (integer_back 2147483647 z (omega arith) (omega (arith, h.sfits))))
head_back Held (Pod-F.Long z) h = said_behind (codes "long") (signed_decimal z) N.Long (H.Leaf (P.Long z)) refl refl
    (ap (option_map (λ (m : ℤ). H.Leaf (P.Long m))) (integer_back 9223372036854775807 z (omega arith) (omega (arith, h.sfits))))
head_back Held (Pod-F.FloatBits n) h = said_behind (codes "float") (hex (to_be_bytes w32 n)) N.Float (H.Leaf (P.FloatBits n)) refl refl
    (ap (option_map (λ (m : ℕ). H.Leaf (P.FloatBits m))) (float_back n h))
head_back Held (Pod-F.DoubleBits n) h = said_behind (codes "double") (hex (to_be_bytes w64 n)) N.Double (H.Leaf (P.DoubleBits n)) refl refl
    (ap (option_map (λ (m : ℕ). H.Leaf (P.DoubleBits m))) (double_back n h))
head_back Held (Pod-F.Text t) h = said_behind (codes "string") (34 ∷ (flat_map escaped t ++ 34 ∷ [])) N.String (H.Leaf (P.Text t)) refl refl
    (ap (option_map (λ (m : List ℕ). H.Leaf (P.Text m))) (quoted_back t h))
head_back Held (Pod-F.Bytes t) h = said_behind (codes "bytes") (34 ∷ (hex t ++ 34 ∷ [])) N.Bytes (H.Leaf (P.Bytes t)) refl refl
    (ap (option_map (λ (m : List ℕ). H.Leaf (P.Bytes m))) (quoted_hex_back t h))
head_back Held (Pod-F.Bitmap t) h = said_behind (codes "bitmap") (34 ∷ (hex t ++ 34 ∷ [])) N.Bitmap (H.Leaf (P.Bitmap t)) refl refl
    (ap (option_map (λ (m : List ℕ). H.Leaf (P.Bitmap m))) (quoted_hex_back t h))
head_back Held (Pod-F.Rectangle a b) h = said_behind (codes "rectangle") (decimal a ++ 120 ∷ decimal b) N.Rectangle
    (H.Leaf (P.Rectangle a b)) refl refl
    (ap (option_map (λ (p : ℕ × ℕ). H.Leaf (P.Rectangle p.0 p.1))) (pair_back 120 a b (λ d l k e. omega arith) h.0 h.1))
head_back Held (Pod-F.Fraction a b) h = said_behind (codes "fraction") (decimal a ++ 47 ∷ decimal b) N.Fraction
    (H.Leaf (P.Fraction a b)) refl refl
    (ap (option_map (λ (p : ℕ × ℕ). H.Leaf (P.Fraction p.0 p.1))) (pair_back 47 a b (λ d l k e. omega arith) h.0 h.1))
head_back Held (Pod-F.Fd z) h = said_behind (codes "fd") (signed_decimal z) N.Fd (H.Leaf (P.Fd z)) refl refl
    (ap (option_map (λ (m : ℤ). H.Leaf (P.Fd m))) (integer_back 9223372036854775807 z (omega arith) (omega (arith, h.sfits))))
head_back Held (Pod-F.Array child values) h =
    let n = length (map lines_of values) in
    let same : n ≡ length values = length-map values lines_of in
    said_behind (codes "array") (decimal child ++ 32 ∷ decimal n) N.Array (H.Array child n) refl refl
    (ap (option_map (λ (p : ℕ × ℕ). H.Array p.0 p.1)) (pair_back 32 child n space_other h.0 (omega (arith, h.1))))
    ∙ ap (λ (m : ℕ). Some (H.Array child m)) same
head_back Held (Pod-F.Struct fields) h =
    let n = length (map lines_of fields) in
    let same : n ≡ length fields = length-map fields lines_of in
    said_behind (codes "struct") (decimal n) N.Struct (H.Struct n) refl refl
    (ap (option_map (λ (m : ℕ). H.Struct m)) (number_back n (omega (arith, h.0))))
    ∙ ap (λ (m : ℕ). Some (H.Struct m)) same
head_back Held (Pod-F.Object object id props) h =
    let n = length (map prop_lines_of props) in
    let same : n ≡ length props = length-map props prop_lines_of in
    let args = (decimal object ++ 32 ∷ decimal id) ++ 32 ∷ decimal n in
    said_behind (codes "object") args N.Object (H.Object object id n) refl refl
    (ap (args_said N.Object) (append_assoc (decimal object) (32 ∷ decimal id) (32 ∷ decimal n))
    ∙ ap (option_map (λ (t : ℕ × ℕ × ℕ). H.Object t.0 t.1 t.2)) (triple_back object id n h.0 h.1 (omega (arith, h.2))))
    ∙ ap (λ (m : ℕ). Some (H.Object object id m)) same
head_back Held (Pod-F.Choice kind flags child values) h =
    let n = length (map lines_of values) in
    let same : n ≡ length values = length-map values lines_of in
    said_behind (codes "choice") (kind_word kind ++ 32 ∷ ((decimal flags ++ 32 ∷ decimal child) ++ 32 ∷ decimal n)) N.Choice
    (H.Choice kind flags child n) refl refl
    (said_choice kind flags child n h.0 h.1.0 (omega (arith, h.1.1)))
    ∙ ap (λ (m : ℕ). Some (H.Choice kind flags child m)) same
head_back Held (Pod-F.Sequence unit controls) h =
    let n = length (map control_lines_of controls) in
    let same : n ≡ length controls = length-map controls control_lines_of in
    said_behind (codes "sequence") (decimal unit ++ 32 ∷ decimal n) N.Sequence (H.Sequence unit n) refl refl
    (ap (option_map (λ (p : ℕ × ℕ). H.Sequence p.0 p.1)) (pair_back 32 unit n space_other h.0 (omega (arith, h.1))))
    ∙ ap (λ (m : ℕ). Some (H.Sequence unit m)) same

-- two numbers, and three, have no line feed
free_pair : (mark a b : ℕ) → is_free 10 (mark ∷ []) ≡ true → a < 2 ^ 32 → b < 2 ^ 32 → is_free 10 (decimal a ++ mark ∷ decimal b) ≡ true
free_pair mark a b m h k = free_both 10 (decimal a) (mark ∷ decimal b) (free_number a h)
    (free_both 10 (mark ∷ []) (decimal b) m (free_number b k))

free_triple : (a b c : ℕ) → a < 2 ^ 32 → b < 2 ^ 32 → c < 2 ^ 32 → is_free 10 ((decimal a ++ 32 ∷ decimal b) ++ 32 ∷ decimal c) ≡ true
free_triple a b c h k l = free_both 10 (decimal a ++ 32 ∷ decimal b) (32 ∷ decimal c) (free_pair 32 a b refl h k) (free_number c l)

pub head_free : (Held : Pod → Type 0) (v : Pod-F Pod Control Prop) → IsWellFormedBy Held v → is_free 10 (lines_at v).head ≡ true
unfolding two_numbered
head_free Held Pod-F.None h = refl
head_free Held (Pod-F.Bool true) h = refl
head_free Held (Pod-F.Bool false) h = refl
head_free Held (Pod-F.Id n) h = free_number n h
head_free Held (Pod-F.Int z) h = free_signed z (omega (arith, h.sfits))
head_free Held (Pod-F.Long z) h = free_signed z (omega (arith, h.sfits))
head_free Held (Pod-F.FloatBits n) h = hex_free 10 (to_be_bytes w32 n) (omega arith) (four_bytes n h)
head_free Held (Pod-F.DoubleBits n) h = hex_free 10 (to_be_bytes w64 n) (omega arith) (eight_bytes n h)
head_free Held (Pod-F.Text t) h = free_both 10 (flat_map escaped t) (34 ∷ []) (line_free t h) refl
head_free Held (Pod-F.Bytes t) h = free_both 10 (hex t) (34 ∷ []) (hex_free 10 t (omega arith) h) refl
head_free Held (Pod-F.Bitmap t) h = free_both 10 (hex t) (34 ∷ []) (hex_free 10 t (omega arith) h) refl
head_free Held (Pod-F.Rectangle a b) h = free_pair 120 a b refl h.0 h.1
head_free Held (Pod-F.Fraction a b) h = free_pair 47 a b refl h.0 h.1
head_free Held (Pod-F.Fd z) h = free_signed z (omega (arith, h.sfits))
head_free Held (Pod-F.Array child values) h =
    free_pair 32 child (length (map lines_of values)) refl h.0 (omega (arith, h.1, length-map values lines_of))
head_free Held (Pod-F.Struct fields) h = free_number (length (map lines_of fields)) (omega (arith, h.0, length-map fields lines_of))
head_free Held (Pod-F.Object object id props) h =
    free_triple object id (length (map prop_lines_of props)) h.0 h.1 (omega (arith, h.2, length-map props prop_lines_of))
head_free Held (Pod-F.Choice kind flags child values) h =
    let n = length (map lines_of values) in
    free_both 10 (kind_word kind) (32 ∷ ((decimal flags ++ 32 ∷ decimal child) ++ 32 ∷ decimal n)) (kind_line kind)
    (free_triple flags child n h.0 h.1.0 (omega (arith, h.1.1, length-map values lines_of)))
head_free Held (Pod-F.Sequence unit controls) h =
    free_pair 32 unit (length (map control_lines_of controls)) refl h.0 (omega (arith, h.1, length-map controls control_lines_of))
