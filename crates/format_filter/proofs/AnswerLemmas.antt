-- An object has one first fault at most, and an answer that is right is the only one.
use Rattle.std.proofs.Common.{◌≡◌, ℕ, ◌<◌, ◌⊎◌, inl, inr, List, [], ◌∷◌, ◌++◌, length, get_or, take, Option, Result, Ok, Err, sym, ap}
use Rattle.std.proofs.Common.{◌∙◌, subst, arith}
use Rattle.std.specs.Prelude.{IfOk, IfErr}
use Rattle.std.proofs.lemmas.List.{get_or_append_left, get_or_default}
use Rattle.std.proofs.Math.Seq.{get_or-append_seam, take-append_seam}
use Rattle.pw_lists.specs.declared.memory.Memory.{Memory}
use Rattle.pod_codec.specs.declared.pod.Pod.{Pod}
use Rattle.pod_codec.specs.declared.pod.Prop.{Prop}
use Rattle.pod_codec.specs.declared.pod.Control.{Control}
use Rattle.pod_codec.specs.declared.pod.Pod.TheOpen.{Pod-F}
use Rattle.pod_codec.specs.declared.pod.Pod.TheViews.{out-Pod, out-Prop}
use Rattle.pod_codec.specs.declared.pod.ChoiceKind.{ChoiceKind}
use Rattle.pod_codec.specs.declared.pod.ChoiceKind.TheVariants as k
use Rattle.format_filter.specs.declared.choice.Choice.{Choice}
use Rattle.format_filter.specs.declared.common.Filtered.{Filtered}
use Rattle.format_filter.specs.declared.fault.FormatFault.{FormatFault}
use Rattle.format_filter.specs.declared.fault.FormatFault.TheVariants as f
use Rattle.format_filter.specs.declared.format.Format.{Format}
use Rattle.format_filter.specs.ChoiceReading.{FaultsValues, Faults}
use Rattle.format_filter.specs.FormatReading.{key_of, ReadsChoice, FaultsProp, FaultsProps, FaultsObject, IsFormatOf, IsFirstFault}
use Rattle.format_filter.specs.FormatAnswer.{IsGiven, IsRefusedAs}
use Rattle.format_filter.specs.Intersection.{Meets}
use Rattle.format_filter.specs.CommonFormat.{Filters}
use Rattle.format_filter.proofs.OneIntersectionLemmas.{meets_one}
use Rattle.format_filter.proofs.OneFormatLemmas.{reads_faultless, formats_one, object_faultless, filters_one}

-- values have one fault
values_fault : (kind : ChoiceKind) (values : List Pod) (key : ℕ) (a b : FormatFault) → FaultsValues kind values key a
    → FaultsValues kind values key b → a ≡ b
values_fault k.None [] key a b x y = x ∙ sym y
values_fault k.Range [] key a b x y = x ∙ sym y
values_fault k.Step [] key a b x y = x ∙ sym y
values_fault k.Enum [] key a b x y = x ∙ sym y
values_fault k.Flags [] key a b x y = x ∙ sym y
values_fault k.Range (v ∷ rest) key a b x y = x.0 ∙ sym y.0
values_fault k.Step (v ∷ rest) key a b x y = x.0 ∙ sym y.0
values_fault k.Flags (v ∷ rest) key a b x y = x ∙ sym y
values_fault k.None (v ∷ rest) key a b x y = absurd x
values_fault k.Enum (v ∷ rest) key a b x y = absurd x

value_fault : (o : Pod-F Pod Control Prop) (key : ℕ) (a b : FormatFault) → Faults o key a → Faults o key b → a ≡ b
value_fault (Pod-F.Choice kind flags child values) key a b x y = values_fault kind values key a b x y
value_fault other key a b x y = absurd x

-- a property after others has one fault
prop_fault : (before : List Prop) (prop : Prop) (a b : FormatFault) → FaultsProp before prop a → FaultsProp before prop b → a ≡ b
prop_fault before prop a b x y = elim x [
  | inl v ↦ elim y [ inl w ↦ v.1 ∙ sym w.1 | inr w ↦ absurd (w.0 v.0) ]
  | inr v ↦ elim y [ inl w ↦ absurd (v.0 w.0) | inr w ↦ value_fault (out-Pod (out-Prop prop).value) (key_of prop) a b v.1 w.1 ]
]

-- a property at fault is not among those before another one
none_before : (props : List Prop) (a b : FormatFault) (x : FaultsProps props a) (y : FaultsProps props b)
    → length x.before < length y.before → ⊥
none_before props a b x y l =
    let n = length x.before in
    let here : get_or y.before n x.prop ≡ x.prop =
    sym (ap (λ (ps : List Prop). get_or ps n x.prop) y.parts ∙ get_or_append_left y.before (y.prop ∷ y.after) x.prop n l)
    ∙ ap (λ (ps : List Prop). get_or ps n x.prop) x.parts ∙ get_or-append_seam x.before x.prop x.after x.prop in
    elim x.at_fault [
      | inl w ↦
          let t = w.0 in
          let inside : t.0 < length y.before = omega (arith, t.2, l) in
          let there : get_or y.before t.0 x.prop ≡ t.1 =
          sym (ap (λ (ps : List Prop). get_or ps t.0 x.prop) y.parts ∙ get_or_append_left y.before (y.prop ∷ y.after) x.prop t.0 inside)
          ∙ ap (λ (ps : List Prop). get_or ps t.0 x.prop) x.parts ∙ get_or_append_left x.before (x.prop ∷ x.after) x.prop t.0 t.2
          ∙ get_or_default x.before t.0 x.prop t.1 t.2 ∙ t.3 in
          y.readable.distinct t.0 n x.prop t.2 l (ap key_of there ∙ t.4 ∙ sym (ap key_of here))
      | inr w ↦
          let e = y.readable.readable n x.prop l in
          let reads = subst (λ (p : Prop). ReadsChoice p e.0) here e.1 in
          reads_faultless (out-Pod (out-Prop x.prop).value) (out-Prop x.prop).value e.0 (key_of x.prop) a w.1 reads
    ]

-- properties have one first fault
props_fault : (props : List Prop) (a b : FormatFault) → FaultsProps props a → FaultsProps props b → a ≡ b
props_fault props a b x y =
    let not_less = none_before props a b x y in
    let not_more = none_before props b a y x in
    let lengths : length x.before ≡ length y.before = omega arith in
    let befores : y.before ≡ x.before =
    sym (take-append_seam y.before (y.prop ∷ y.after)) ∙ ap (take (length y.before)) (sym y.parts ∙ x.parts)
    ∙ ap (λ (n : ℕ). take n (x.before ++ x.prop ∷ x.after)) (sym lengths) ∙ take-append_seam x.before (x.prop ∷ x.after) in
    let props : y.prop ≡ x.prop =
    sym (get_or-append_seam y.before y.prop y.after x.prop)
    ∙ ap (λ (ps : List Prop). get_or ps (length y.before) x.prop) (sym y.parts ∙ x.parts)
    ∙ ap (λ (n : ℕ). get_or (x.before ++ x.prop ∷ x.after) n x.prop) (sym lengths) ∙ get_or-append_seam x.before x.prop x.after x.prop in
    let other = subst (λ (p : Prop). FaultsProp x.before p b) props
    (subst (λ (ps : List Prop). FaultsProp ps y.prop b) befores y.at_fault) in
    prop_fault x.before x.prop a b x.at_fault other

-- an object has one first fault
pub object_fault : (o : Pod-F Pod Control Prop) (a b : FormatFault) → FaultsObject o a → FaultsObject o b → a ≡ b
object_fault (Pod-F.Object object id props) a b x y = props_fault props a b x y
object_fault other a b x y = x ∙ sym y

module _ (pod : Pod) where
  -- an answer that is right is the only format, and the only fault
  pub only_format : (r : Result Format FormatFault) → IfOk r (IsFormatOf pod)
      → IfErr r (λ fault. (fault ≡ f.Memory) ⊎ IsFirstFault pod fault)
      → (format : Format) → IsFormatOf pod format → IsGiven r format
  only_format (Ok x) found fault format h = formats_one (out-Pod pod) x format found h
  only_format (Err g) found (inl memory) format h = memory
  only_format (Err g) found (inr first) format h = absurd (object_faultless (out-Pod pod) format g h first)

  pub only_refused : (r : Result Format FormatFault) → IfOk r (IsFormatOf pod)
      → IfErr r (λ fault. (fault ≡ f.Memory) ⊎ IsFirstFault pod fault)
      → (first : FormatFault) → IsFirstFault pod first → IsRefusedAs r first
  only_refused (Ok x) found fault first h = object_faultless (out-Pod pod) x first found h
  only_refused (Err g) found (inl memory) first h = inl memory
  only_refused (Err g) found (inr own) first h = inr (object_fault (out-Pod pod) g first own h)

-- an intersection, and a common format or why there is none, are the only ones
pub only_meeting : (a b : Choice) (r : Result (Option Choice) Memory) → IfOk r (Meets a b) → (other : Option Choice) → Meets a b other
    → IfOk r (λ common. common ≡ other)
only_meeting a b (Ok common) h other g = meets_one a b common other h g
only_meeting a b (Err e) h other g = tt

pub only_common : (a b : Format) (r : Result Filtered Memory) → IfOk r (Filters a b) → (other : Filtered) → Filters a b other
    → IfOk r (λ filtered. filtered ≡ other)
only_common a b (Ok filtered) h other g = filters_one a b filtered other h g
only_common a b (Err e) h other g = tt
