-- A value that is written is read back, whatever follows.
use Rattle.std.proofs.Common.{◌≡◌, ℕ, zero, suc, ◌+◌, ◌-◌, ◌*◌, ◌^◌, ◌<◌, ◌==◌, true, List, [], ◌∷◌, ◌++◌, length, map}
use Rattle.std.proofs.Common.{refl, sym, ap, ◌∙◌, arith, append_assoc, append-nil, decimal, replicate}
use Rattle.std.specs.Prelude.{Option, Some, None, option_map, codes, bytes_eq}
use Rattle.std.specs.List.{flat_map}
use Rattle.std.proofs.lemmas.Bool.{eq-eqb, cond-true}
use Rattle.std.proofs.lemmas.Slice.Eq.{bytes_eq-Decides}
use Rattle.pw_lists.specs.Limits.{depth_limit}
use Rattle.pod_codec.specs.declared.pod.Pod.{Pod}
use Rattle.pod_codec.specs.declared.pod.Prop.{Prop}
use Rattle.pod_codec.specs.declared.pod.Control.{Control}
use Rattle.pod_codec.specs.declared.pod.Pod.TheOpen.{Pod-F}
use Rattle.pod_codec.specs.declared.pod.Pod.TheViews.{out-Pod, out-Prop, out-Control, roll-Pod, roll-out-Pod, roll-out-Prop, roll-out-Control}
use Rattle.pod_codec.specs.declared.pod.Pod.TheFolds.{fold_out-Prop, fold_out-Control}
use Rattle.pod_codec.specs.declared.pod.Pod.TheVariants as P
use Rattle.pod_codec.specs.Numbers.{PropFits, ControlFits}
use Rattle.pod_codec.specs.PodValue.{form_of}
use Rattle.pod_codec.specs.DumpWords.{Lines, text_at, two_numbered}
use Rattle.pod_codec.specs.DumpText.{pod_lines, prop_lines, control_lines, lines_of, prop_lines_of, control_lines_of, dump_text_of}
use Rattle.dump_reading.specs.working.Keyed.{behind_word, numbers_said, numbers_with, numbers_in, keyed_said, prop_of, control_of, prop_with, prop_said}
use Rattle.dump_reading.specs.working.Keyed.{control_with, control_said}
use Rattle.dump_reading.specs.working.Lines.{line_said, many}
use Rattle.dump_reading.specs.working.Numbers.{pair_said}
use Rattle.dump_reading.specs.WellFormed.{IsElement, IsWellFormedLeaf, IsWellFormedBy, IsWellFormed}
use Rattle.dump_reading.specs.Values.{element_in, element_line, element_said, may_hold, held_said, value_in, value_line, value_said, alone, pod_said}
use Rattle.dump_reading.specs.declared.heads.Head.{Head}
use Rattle.dump_reading.specs.declared.heads.Head.TheVariants as H
use Rattle.dump_reading.proofs.CuttingLemmas.{is_free, free_both, cut_back, line_back}
use Rattle.dump_reading.proofs.NumberLemmas.{pair_back, space_other, free_number}
use Rattle.dump_reading.proofs.HeadLemmas.{lines_at, lines_out, headed, head_back, head_free}
use Rattle.dump_reading.proofs.ManyLemmas.{many_back}

-- the first line, and what is after it
first_line : (level : ℕ) (l : Lines) (more : List ℕ) → is_free 10 l.head ≡ true
    → line_said level (text_at level l ++ more) ≡ Some (l.head, l.held (level + 1) ++ more)
first_line level l more h =
    let line : List ℕ = replicate (2 * level) 32 ++ (l.head ++ 10 ∷ []) in
    ap (line_said level) (append_assoc line (l.held (level + 1)) more)
    ∙ line_back level l.head (l.held (level + 1) ++ more) h

-- values that hold no others
leaf_said : (Held : Pod → Type 0) (v : Pod-F Pod Control Prop) → IsWellFormedLeaf v → IsWellFormedBy Held v
leaf_said Held (Pod-F.Array child values) h = absurd h
leaf_said Held (Pod-F.Struct fields) h = absurd h
leaf_said Held (Pod-F.Object object id props) h = absurd h
leaf_said Held (Pod-F.Choice kind flags child values) h = absurd h
leaf_said Held (Pod-F.Sequence unit controls) h = absurd h
leaf_said Held v h = h

leaf_headed : (v : Pod-F Pod Control Prop) → IsWellFormedLeaf v → headed v ≡ H.Leaf (roll-Pod v)
leaf_headed (Pod-F.Array child values) h = absurd h
leaf_headed (Pod-F.Struct fields) h = absurd h
leaf_headed (Pod-F.Object object id props) h = absurd h
leaf_headed (Pod-F.Choice kind flags child values) h = absurd h
leaf_headed (Pod-F.Sequence unit controls) h = absurd h
leaf_headed v h = refl

leaf_held : (v : Pod-F Pod Control Prop) (level : ℕ) → IsWellFormedLeaf v → (lines_at v).held level ≡ []
leaf_held (Pod-F.Array child values) level h = absurd h
leaf_held (Pod-F.Struct fields) level h = absurd h
leaf_held (Pod-F.Object object id props) level h = absurd h
leaf_held (Pod-F.Choice kind flags child values) level h = absurd h
leaf_held (Pod-F.Sequence unit controls) level h = absurd h
leaf_held v level h = refl

element_back : (child level : ℕ) (x : Pod) (more : List ℕ) → IsElement child x
    → element_said child level (text_at level (lines_of x) ++ more) ≡ Some (x, more)
unfolding element_said
element_back child level x more h =
    let v = out-Pod x in
    let said = leaf_said (λ p. Unit {0}) v h.1 in
    let rest = (lines_at v).held (level + 1) ++ more in
    ap (λ (l : Lines). element_line child (line_said level (text_at level l ++ more))) (lines_out x)
    ∙ ap (element_line child) (first_line level (lines_at v) more (head_free (λ p. Unit {0}) v said))
    ∙ ap (λ (o : Option Head). element_in child o rest) (head_back (λ p. Unit {0}) v said)
    ∙ ap (λ (hd : Head). element_in child (Some hd) rest) (leaf_headed v h.1)
    ∙ ap (λ (p : Pod). element_in child (Some (H.Leaf p)) rest) (roll-out-Pod x)
    ∙ cond-true ((form_of x).number == child) (Some (x, rest)) None (eq-eqb (form_of x).number child h.0)
    ∙ ap (λ (t : List ℕ). Some (x, t ++ more)) (leaf_held v (level + 1) h.1)

-- a line with two numbers
numbers_back : (word : List ℕ) (a b : ℕ) → is_free 32 word ≡ true → a < 2 ^ 32 → b < 2 ^ 32
    → numbers_said word (word ++ 32 ∷ (decimal a ++ 32 ∷ decimal b)) ≡ Some (a, b)
unfolding numbers_said
numbers_back word a b free h k =
    let args = decimal a ++ 32 ∷ decimal b in
    ap (behind_word word) (cut_back 32 word args free)
    ∙ cond-true (bytes_eq word word) (pair_said 32 args) None ((bytes_eq-Decides word word).1 refl)
    ∙ pair_back 32 a b space_other h k

keyed_back : (word : List ℕ) (level a b : ℕ) (l : Lines) (more : List ℕ) → is_free 32 word ≡ true → is_free 10 word ≡ true
    → a < 2 ^ 32 → b < 2 ^ 32 → l.head ≡ word ++ 32 ∷ (decimal a ++ 32 ∷ decimal b)
    → keyed_said word level (text_at level l ++ more) ≡ Some ((a, b), l.held (level + 1) ++ more)
unfolding keyed_said
keyed_back word level a b l more free line h k is =
    let args = decimal a ++ 32 ∷ decimal b in
    let clear : is_free 10 l.head ≡ true = ap (is_free 10) is ∙ free_both 10 word (32 ∷ args) line
    (free_both 10 (decimal a) (32 ∷ decimal b) (free_number a h) (free_number b k)) in
    ap (numbers_in word) (first_line level l more clear)
    ∙ ap (λ (t : List ℕ). numbers_with (l.held (level + 1) ++ more) (numbers_said word t)) is
    ∙ ap (numbers_with (l.held (level + 1) ++ more)) (numbers_back word a b free h k)

-- what is read of values with so many levels left
abbrev IsReading : ℕ → Type 0
IsReading left = (level : ℕ) (p : Pod) (more : List ℕ) → IsWellFormed left p
    → value_said left level (text_at level (lines_of p) ++ more) ≡ Some (p, more)

prop_out : (x : Prop) → prop_lines_of x ≡ record {
  head = two_numbered (codes "prop ") (out-Prop x).key (codes " ") (out-Prop x).flags;
  held = λ level. text_at level (lines_of (out-Prop x).value);
}
prop_out x = fold_out-Prop Lines Lines Lines pod_lines control_lines prop_lines x

prop_back : (left level : ℕ) → IsReading left → (x : Prop) (more : List ℕ) → PropFits (IsWellFormed left) x
    → prop_said (value_said left) level (text_at level (prop_lines_of x) ++ more) ≡ Some (x, more)
unfolding prop_said two_numbered
prop_back left level each x more h =
    let key = (out-Prop x).key in
    let flags = (out-Prop x).flags in
    let value = (out-Prop x).value in
    let l : Lines = record {
      head = two_numbered (codes "prop ") key (codes " ") flags;
      held = λ n. text_at n (lines_of value);
    } in
    ap (λ (m : Lines). prop_with (value_said left) level (keyed_said (codes "prop") level (text_at level m ++ more))) (prop_out x)
    ∙ ap (prop_with (value_said left) level) (keyed_back (codes "prop") level key flags l more refl refl h.0 h.1 refl)
    ∙ ap (option_map (λ (c : Pod × List ℕ). (prop_of (key, flags) c.0, c.1))) (each (level + 1) value more h.2)
    ∙ ap (λ (p : Prop). Some (p, more)) (roll-out-Prop x)

control_out : (x : Control) → control_lines_of x ≡ record {
  head = two_numbered (codes "control ") (out-Control x).offset (codes " ") (out-Control x).kind;
  held = λ level. text_at level (lines_of (out-Control x).value);
}
control_out x = fold_out-Control Lines Lines Lines pod_lines control_lines prop_lines x

control_back : (left level : ℕ) → IsReading left → (x : Control) (more : List ℕ) → ControlFits (IsWellFormed left) x
    → control_said (value_said left) level (text_at level (control_lines_of x) ++ more) ≡ Some (x, more)
unfolding control_said two_numbered
control_back left level each x more h =
    let offset = (out-Control x).offset in
    let kind = (out-Control x).kind in
    let value = (out-Control x).value in
    let l : Lines = record {
      head = two_numbered (codes "control ") offset (codes " ") kind;
      held = λ n. text_at n (lines_of value);
    } in
    ap (λ (m : Lines). control_with (value_said left) level (keyed_said (codes "control") level (text_at level m ++ more))) (control_out x)
    ∙ ap (control_with (value_said left) level) (keyed_back (codes "control") level offset kind l more refl refl h.0 h.1 refl)
    ∙ ap (option_map (λ (c : Pod × List ℕ). (control_of (offset, kind) c.0, c.1))) (each (level + 1) value more h.2)
    ∙ ap (λ (p : Control). Some (p, more)) (roll-out-Control x)

-- what a head holds
held_back : (left level : ℕ) (v : Pod-F Pod Control Prop) (more : List ℕ) → IsReading left → IsWellFormedBy (IsWellFormed left) v
    → held_said (value_said left) level (headed v) ((lines_at v).held (level + 1) ++ more) ≡ Some (roll-Pod v, more)
unfolding held_said roll-Pod denote.Hole.Carrier.roll
held_back left level (Pod-F.Array child values) more each h =
    cond-true (may_hold child (length values)) (option_map (λ (c : List Pod × List ℕ). (P.Array child c.0, c.1))
    (many (element_said child (level + 1)) (length values) [] (flat_map (text_at (level + 1)) (map lines_of values) ++ more))) None h.2
    ∙ ap (option_map (λ (c : List Pod × List ℕ). (P.Array child c.0, c.1)))
    (many_back (element_said child (level + 1)) lines_of (level + 1) (IsElement child)
    (λ x m k. element_back child (level + 1) x m k) values [] more h.3)
held_back left level (Pod-F.Struct fields) more each h =
    ap (option_map (λ (c : List Pod × List ℕ). (P.Struct c.0, c.1)))
    (many_back (value_said left (level + 1)) lines_of (level + 1) (IsWellFormed left)
    (λ x m k. each (level + 1) x m k) fields [] more h.1)
held_back left level (Pod-F.Object object id props) more each h =
    ap (option_map (λ (c : List Prop × List ℕ). (P.Object object id c.0, c.1)))
    (many_back (prop_said (value_said left) (level + 1)) prop_lines_of (level + 1) (PropFits (IsWellFormed left))
    (λ x m k. prop_back left (level + 1) each x m k) props [] more h.3)
held_back left level (Pod-F.Choice kind flags child values) more each h =
    cond-true (may_hold child (length values)) (option_map (λ (c : List Pod × List ℕ). (P.Choice kind flags child c.0, c.1))
    (many (element_said child (level + 1)) (length values) [] (flat_map (text_at (level + 1)) (map lines_of values) ++ more))) None h.1.2
    ∙ ap (option_map (λ (c : List Pod × List ℕ). (P.Choice kind flags child c.0, c.1)))
    (many_back (element_said child (level + 1)) lines_of (level + 1) (IsElement child)
    (λ x m k. element_back child (level + 1) x m k) values [] more h.1.3)
held_back left level (Pod-F.Sequence unit controls) more each h =
    ap (option_map (λ (c : List Control × List ℕ). (P.Sequence unit c.0, c.1)))
    (many_back (control_said (value_said left) (level + 1)) control_lines_of (level + 1) (ControlFits (IsWellFormed left))
    (λ x m k. control_back left (level + 1) each x m k) controls [] more h.2)
held_back left level v more each h = refl

pub value_back : (left level : ℕ) (p : Pod) (more : List ℕ) → IsWellFormed left p
    → value_said left level (text_at level (lines_of p) ++ more) ≡ Some (p, more)
unfolding IsWellFormed value_said
value_back zero level p more h = absurd h
value_back (suc left) level p more h =
    let v = out-Pod p in
    let read = value_said left in
    let rest = (lines_at v).held (level + 1) ++ more in
    ap (λ (l : Lines). value_line read level (line_said level (text_at level l ++ more))) (lines_out p)
    ∙ ap (value_line read level) (first_line level (lines_at v) more (head_free (IsWellFormed left) v h))
    ∙ ap (λ (o : Option Head). value_in read level o rest) (head_back (IsWellFormed left) v h)
    ∙ held_back left level v more (λ n q m k. value_back left n q m k) h
    ∙ ap (λ (q : Pod). Some (q, more)) (roll-out-Pod p)

-- a whole text
pub pod_back : (pod : Pod) (text : List ℕ) → IsWellFormed depth_limit pod → text ≡ dump_text_of pod → pod_said text ≡ Some pod
unfolding pod_said
pod_back pod text h is =
    ap (λ (t : List ℕ). alone (value_said depth_limit 0 t)) (is ∙ sym (append-nil (dump_text_of pod)))
    ∙ ap alone (value_back depth_limit 0 pod [] h)

-- a value that is not too deep is opened
pub value_opened : (left level : ℕ) (text : List ℕ) → 0 < left
    → value_said left level text ≡ value_line (value_said (left - 1)) level (line_said level text)
unfolding value_said
value_opened zero level text h = absurd (omega arith)
value_opened (suc left) level text h =
    let same : left ≡ suc left - 1 = omega arith in
    ap (λ (n : ℕ). value_line (value_said n) level (line_said level text)) same
