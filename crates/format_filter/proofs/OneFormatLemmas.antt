-- An object is read as one format at most, and has no fault then; two formats have one common format at most, and one object
-- spells a format.
use Rattle.std.proofs.Common.{◌≡◌, ◌≢◌, ℕ, ℤ, suc, ◌<◌, ◌≤◌, ◌⊎◌, inl, inr, List, [], ◌∷◌, ◌++◌, length, get_or, Some}
use Rattle.std.proofs.Common.{Option, None, refl, sym, ap, ◌∙◌, subst, length-append, arith}
use Rattle.std.specs.List.{All, AllPairs, AllZip, Any}
use Rattle.std.proofs.lemmas.Bool.{cases_lt}
use Rattle.std.proofs.lemmas.Bool.Decides.{eqb_tells}
use Rattle.std.proofs.lemmas.List.{get_or_append_left, get_or_default}
use Rattle.std.proofs.lemmas.List.Elements.{All-nil, All-cons}
use Rattle.std.proofs.Math.Seq.{get_or-append_seam}
use Rattle.pod_codec.specs.declared.pod.Pod.{Pod}
use Rattle.pod_codec.specs.declared.pod.Prop.{Prop}
use Rattle.pod_codec.specs.declared.pod.Control.{Control}
use Rattle.pod_codec.specs.declared.pod.Pod.TheOpen.{Pod-F}
use Rattle.pod_codec.specs.declared.pod.Pod.TheViews.{out-Pod, out-Prop, roll-Pod, roll-Prop, roll-out-Pod, roll-out-Prop}
use Rattle.pod_codec.specs.declared.pod.ChoiceKind.{ChoiceKind}
use Rattle.pod_codec.specs.declared.pod.ChoiceKind.TheVariants as k
use Rattle.format_filter.specs.declared.choice.Choice.{Choice}
use Rattle.format_filter.specs.declared.choice.Choice.TheVariants.{Only, Enum, Range, Step}
use Rattle.format_filter.specs.declared.choice.Wide.{Wide}
use Rattle.format_filter.specs.declared.fault.FormatFault.{FormatFault}
use Rattle.format_filter.specs.declared.format.Field.{Field}
use Rattle.format_filter.specs.declared.format.Format.{Format}
use Rattle.format_filter.specs.declared.common.Filtered.{Filtered}
use Rattle.format_filter.specs.declared.common.Filtered.TheVariants.{Common, Clash, Types}
use Rattle.format_filter.specs.CommonFormat.{IsSoundFormat, field_of, IsCommonField, IsCommonFormat, Filters}
use Rattle.format_filter.specs.ChoiceReading.{Prefers, ReadsRange, ReadsStep, ReadsEnum, ReadsValues, FaultsValues, Reads, Faults}
use Rattle.format_filter.specs.FormatReading.{key_of, ReadsField, AreFieldsOf, FaultsProps, ReadsObject, FaultsObject, IsReadAs}
use Rattle.format_filter.specs.FormatWriting.{IsChoice, Writes, WritesField, WritesObject, IsWritten}
use Rattle.format_filter.proofs.OneIntersectionLemmas.{intersection_one}
use Rattle.format_filter.proofs.OverlapLemmas.{number_injective}
use Rattle.format_filter.proofs.ReadingLemmas.{same_number, wide_same}
use Rattle.format_filter.proofs.FieldLemmas.{field_none}
use Rattle.format_filter.proofs.FormatWritingLemmas.{first_found, written_format}

-- two wishes for one default
enum_picks : (wish p q x : Pod) (xs : List Pod) → Prefers wish (Enum p (x ∷ xs)) → Prefers wish (Enum q (x ∷ xs)) → p ≡ q
enum_picks wish p q x xs a b = elim a [
  | inl v ↦ elim b [ inl w ↦ v.1 ∙ sym w.1 | inr w ↦ absurd (w.0 v.0) ]
  | inr v ↦ elim b [ inl w ↦ absurd (v.0 w.0) | inr w ↦ v.1 ∙ sym w.1 ]
]

enum_one : (wish x : Pod) (xs : List Pod) (c d : Choice) → ReadsEnum wish (x ∷ xs) c → ReadsEnum wish (x ∷ xs) d → c ≡ d
enum_one wish x xs (Enum p alts) (Enum q other) a b =
    let v = subst (λ (ys : List Pod). Prefers wish (Enum p ys)) a.0 a.1 in
    let w = subst (λ (ys : List Pod). Prefers wish (Enum q ys)) b.0 b.1 in
    let picks = enum_picks wish p q x xs v w in
    let alternates : alts ≡ other = a.0 ∙ sym b.0 in
    cc
enum_one wish x xs (Enum p alts) (Only v) a b = absurd b
enum_one wish x xs (Enum p alts) (Range w q l h) a b = absurd b
enum_one wish x xs (Enum p alts) (Step w q l h s) a b = absurd b
enum_one wish x xs (Only v) d a b = absurd a
enum_one wish x xs (Range w q l h) d a b = absurd a
enum_one wish x xs (Step w q l h s) d a b = absurd a

range_picks : (wish : Pod) (w : Wide) (p q l h : ℤ) → Prefers wish (Range w p l h) → Prefers wish (Range w q l h) → p ≡ q
range_picks wish w p q l h a b = number_injective w p q (elim a [
  | inl v ↦ elim b [ inl u ↦ v.1 ∙ sym u.1 | inr u ↦ absurd (u.0 v.0) ]
  | inr v ↦ elim b [ inl u ↦ absurd (v.0 u.0) | inr u ↦ v.1 ∙ sym u.1 ]
])

range_one : (wish low high : Pod) (c d : Choice) → ReadsRange wish low high c → ReadsRange wish low high d → c ≡ d
range_one wish low high (Range w p l h) (Range w' q l' h') a b =
    let wides : w' ≡ w = wide_same w' w b.0.0 a.0.0 (sym b.0.1 ∙ a.0.1) in
    let lows : l' ≡ l = same_number w' w l' l low wides b.1 a.1 in
    let highs : h' ≡ h = same_number w' w h' h high wides b.2 a.2 in
    let other = subst (λ (x : Wide). Prefers wish (Range x q l h)) wides
    (subst (λ (x : ℤ). Prefers wish (Range w' q x h)) lows (subst (λ (x : ℤ). Prefers wish (Range w' q l' x)) highs b.4)) in
    let picks = range_picks wish w p q l h a.4 other in
    cc
range_one wish low high (Range w p l h) (Only v) a b = absurd b
range_one wish low high (Range w p l h) (Enum q alts) a b = absurd b
range_one wish low high (Range w p l h) (Step w' q l' h' s) a b = absurd b
range_one wish low high (Only v) d a b = absurd a
range_one wish low high (Enum q alts) d a b = absurd a
range_one wish low high (Step w q l h s) d a b = absurd a

step_picks : (wish : Pod) (w : Wide) (p q l h s : ℤ) → Prefers wish (Step w p l h s) → Prefers wish (Step w q l h s) → p ≡ q
step_picks wish w p q l h s a b = number_injective w p q (elim a [
  | inl v ↦ elim b [ inl u ↦ v.1 ∙ sym u.1 | inr u ↦ absurd (u.0 v.0) ]
  | inr v ↦ elim b [ inl u ↦ absurd (v.0 u.0) | inr u ↦ v.1 ∙ sym u.1 ]
])

step_one : (wish low high by : Pod) (c d : Choice) → ReadsStep wish low high by c → ReadsStep wish low high by d → c ≡ d
step_one wish low high by (Step w p l h s) (Step w' q l' h' s') a b =
    let wides : w' ≡ w = wide_same w' w b.0.0 a.0.0 (sym b.0.1 ∙ a.0.1) in
    let lows : l' ≡ l = same_number w' w l' l low wides b.1 a.1 in
    let highs : h' ≡ h = same_number w' w h' h high wides b.2 a.2 in
    let bys : s' ≡ s = same_number w' w s' s by wides b.3 a.3 in
    let other = subst (λ (x : Wide). Prefers wish (Step x q l h s)) wides (subst (λ (x : ℤ). Prefers wish (Step w' q x h s)) lows
    (subst (λ (x : ℤ). Prefers wish (Step w' q l' x s)) highs (subst (λ (x : ℤ). Prefers wish (Step w' q l' h' x)) bys b.6))) in
    let picks = step_picks wish w p q l h s a.6 other in
    cc
step_one wish low high by (Step w p l h s) (Only v) a b = absurd b
step_one wish low high by (Step w p l h s) (Enum q alts) a b = absurd b
step_one wish low high by (Step w p l h s) (Range w' q l' h') a b = absurd b
step_one wish low high by (Only v) d a b = absurd a
step_one wish low high by (Enum q alts) d a b = absurd a
step_one wish low high by (Range w q l h) d a b = absurd a

-- values are read as one choice
values_one : (kind : ChoiceKind) (values : List Pod) (c d : Choice) → ReadsValues kind values c → ReadsValues kind values d → c ≡ d
values_one k.None (v ∷ rest) c d a b = a ∙ sym b
values_one k.Range (wish ∷ low ∷ high ∷ rest) c d a b = range_one wish low high c d a b
values_one k.Step (wish ∷ low ∷ high ∷ by ∷ rest) c d a b = step_one wish low high by c d a b
values_one k.Enum (wish ∷ []) c d a b = enum_one wish wish [] c d a b
values_one k.Enum (wish ∷ v ∷ rest) c d a b = enum_one wish v rest c d a b
values_one kind values c d a b = absurd a

reads_one : (o : Pod-F Pod Control Prop) (v : Pod) (c d : Choice) → Reads o v c → Reads o v d → c ≡ d
reads_one (Pod-F.Choice kind flags child values) v c d a b = values_one kind values c d a b
reads_one other v c d a b = a ∙ sym b

field_one : (prop : Prop) (f g : Field) → ReadsField prop f → ReadsField prop g → f ≡ g
field_one prop f g a b =
    let keys : f.key ≡ g.key = a.0 ∙ sym b.0 in
    let flags : f.flags ≡ g.flags = a.1 ∙ sym b.1 in
    let choices : f.choice ≡ g.choice = reads_one (out-Pod (out-Prop prop).value) (out-Prop prop).value f.choice g.choice a.2 b.2 in
    let made : ℕ → ℕ → Choice → Field = λ key bits choice. record { key = key; flags = bits; choice = choice } in
    ap (λ (n : ℕ). made n f.flags f.choice) keys ∙ ap (λ (n : ℕ). made g.key n f.choice) flags ∙ ap (made g.key g.flags) choices

-- a key is that of some property or of none
some_or_none : (props : List Prop) (key : ℕ) → Any (λ p. key_of p ≡ key) props ⊎ All (λ p. key_of p ≢ key) props
some_or_none [] key = inr (All-nil (λ p. key_of p ≢ key))
some_or_none (p ∷ ps) key = elim (eqb_tells (key_of p) key) [
  | inl w ↦ inl (0, p, omega arith, refl, w.1)
  | inr w ↦ elim (some_or_none ps key) [
    | inl h ↦ inl (suc h.0, h.1, omega (arith, h.2), h.3, h.4)
    | inr h ↦ inr (All-cons (λ p. key_of p ≢ key) p ps w.1 h)
  ]
]

same_lookups : (props : List Prop) (f g : List Field) → AreFieldsOf props f → AreFieldsOf props g → (key : ℕ)
    → field_of f key ≡ field_of g key
same_lookups props f g a b key = elim (some_or_none props key) [
  | inl h ↦
      let key_is : key_of (get_or props h.0 h.1) ≡ key = ap key_of h.3 ∙ h.4 in
      let own = a.each h.0 h.1 h.2 in
      let other = b.each h.0 h.1 h.2 in
      sym (ap (field_of f) key_is) ∙ own.1 ∙ ap Some (field_one (get_or props h.0 h.1) own.0 other.0 own.2 other.2) ∙ sym other.1
      ∙ ap (field_of g) key_is
  | inr h ↦ a.only key h ∙ sym (b.only key h)
]

skip : (f : Field) (fs : List Field) (key : ℕ) → (key ≡ f.key → ⊥) → field_of (f ∷ fs) key ≡ field_of fs key
skip f fs key n = elim (eqb_tells f.key key) [ inl w ↦ absurd (n (sym w.1)) | inr w ↦ rw w.0 ]

tail_ascends : (f : Field) (fs : List Field) → AllPairs (λ g h. g.key < h.key) (f ∷ fs) → AllPairs (λ g h. g.key < h.key) fs
tail_ascends f fs h i j d a b = h (suc i) (suc j) d (omega arith) (omega arith)

head_least : (f : Field) (fs : List Field) → AllPairs (λ g h. g.key < h.key) (f ∷ fs) → (key : ℕ) → key ≤ f.key → field_of fs key ≡ None
head_least f fs h key l = field_none key fs (λ i d b e. let order = h 0 (suc i) d (omega arith) (omega arith) in omega arith)

-- of two fields that lists begin with, neither has the lesser key
none_less : (f g : Field) (fs gs : List Field) → AllPairs (λ x y. x.key < y.key) (g ∷ gs)
    → field_of (f ∷ fs) f.key ≡ field_of (g ∷ gs) f.key → f.key < g.key → ⊥
none_less f g fs gs h e l =
    let missing : field_of (g ∷ gs) f.key ≡ None = skip g gs f.key (λ same. omega arith) ∙ head_least g gs h f.key (omega arith) in
    let clash : Some f ≡ None = sym (first_found f fs) ∙ e ∙ missing in
    cc

lists_one : (fs gs : List Field) → AllPairs (λ x y. x.key < y.key) fs → AllPairs (λ x y. x.key < y.key) gs
    → ((key : ℕ) → field_of fs key ≡ field_of gs key) → fs ≡ gs
lists_one [] [] a b h = refl
lists_one [] (g ∷ gs) a b h = let clash : None ≡ Some g = h g.key ∙ first_found g gs in absurd (cc)
lists_one (f ∷ fs) [] a b h = let clash : Some f ≡ None = sym (first_found f fs) ∙ h f.key in absurd (cc)
lists_one (f ∷ fs) (g ∷ gs) a b h =
    let not_less = none_less f g fs gs b (h f.key) in
    let not_more = none_less g f gs fs a (sym (h g.key)) in
    let keys : f.key ≡ g.key = omega arith in
    let firsts : Some f ≡ Some g = sym (first_found f fs) ∙ h f.key ∙ ap (field_of (g ∷ gs)) keys ∙ first_found g gs in
    let heads : f ≡ g = cc in
    let rests : fs ≡ gs = lists_one fs gs (tail_ascends f fs a) (tail_ascends g gs b) (λ key. elim (eqb_tells key f.key) [
      | inl w ↦ head_least f fs a key (omega (arith, w.1)) ∙ sym (head_least g gs b key (omega (arith, w.1, keys)))
      | inr w ↦ sym (skip f fs key w.1) ∙ h key ∙ skip g gs key (λ e. w.1 (e ∙ sym keys))
    ]) in
    ap (λ (x : Field). x ∷ fs) heads ∙ ap (λ (xs : List Field). g ∷ xs) rests

-- an object is read as one format
pub formats_one : (o : Pod-F Pod Control Prop) (f g : Format) → ReadsObject o f → ReadsObject o g → f ≡ g
formats_one (Pod-F.Object object id props) f g a b =
    let objects : f.object ≡ g.object = a.0 ∙ sym b.0 in
    let ids : f.id ≡ g.id = a.1 ∙ sym b.1 in
    let fields : f.fields ≡ g.fields = lists_one f.fields g.fields a.2.sound.ascending b.2.sound.ascending
    (same_lookups props f.fields g.fields a.2 b.2) in
    let made : ℕ → ℕ → List Field → Format = λ type name all. record { object = type; id = name; fields = all } in
    ap (λ (n : ℕ). made n f.id f.fields) objects ∙ ap (λ (n : ℕ). made g.object n f.fields) ids ∙ ap (made g.object g.id) fields
formats_one other f g a b = absurd a

values_faultless : (kind : ChoiceKind) (values : List Pod) (c : Choice) (key : ℕ) (fault : FormatFault) → FaultsValues kind values key fault
    → ReadsValues kind values c → ⊥
values_faultless k.None [] c key fault a b = b
values_faultless k.Range [] c key fault a b = b
values_faultless k.Step [] c key fault a b = b
values_faultless k.Enum [] c key fault a b = b
values_faultless k.Flags [] c key fault a b = b
values_faultless k.Range (v ∷ rest) c key fault a b = a.1 c b
values_faultless k.Step (v ∷ rest) c key fault a b = a.1 c b
values_faultless k.Flags (v ∷ rest) c key fault a b = b
values_faultless k.None (v ∷ rest) c key fault a b = a
values_faultless k.Enum (v ∷ rest) c key fault a b = a

pub reads_faultless : (o : Pod-F Pod Control Prop) (v : Pod) (c : Choice) (key : ℕ) (fault : FormatFault) → Faults o key fault → Reads o v c
    → ⊥
reads_faultless (Pod-F.Choice kind flags child values) v c key fault a b = values_faultless kind values c key fault a b
reads_faultless other v c key fault a b = a

props_faultless : (props : List Prop) (fault : FormatFault) (fields : List Field) → FaultsProps props fault → AreFieldsOf props fields → ⊥
props_faultless props fault fields h a =
    let n = length h.before in
    let whole = h.before ++ h.prop ∷ h.after in
    let inside : n < length props = omega (arith, ap length h.parts, length-append h.before (h.prop ∷ h.after)) in
    let here : get_or props n h.prop ≡ h.prop = ap (λ (ps : List Prop). get_or ps n h.prop) h.parts
    ∙ get_or-append_seam h.before h.prop h.after h.prop in
    elim h.at_fault [
      | inl w ↦
          let t = w.0 in
          let there : get_or props t.0 h.prop ≡ t.1 = ap (λ (ps : List Prop). get_or ps t.0 h.prop) h.parts
          ∙ get_or_append_left h.before (h.prop ∷ h.after) h.prop t.0 t.2 ∙ get_or_default h.before t.0 h.prop t.1 t.2 ∙ t.3 in
          a.distinct t.0 n h.prop t.2 inside (ap key_of there ∙ t.4 ∙ sym (ap key_of here))
      | inr w ↦
          let e = a.each n h.prop inside in
          let reads = subst (λ (p : Prop). ReadsField p e.0) here e.2 in
          reads_faultless (out-Pod (out-Prop h.prop).value) (out-Prop h.prop).value e.0.choice (key_of h.prop) fault w.1 reads.2
    ]

-- and an object that is read has no fault
pub object_faultless : (o : Pod-F Pod Control Prop) (f : Format) (fault : FormatFault) → ReadsObject o f → FaultsObject o fault → ⊥
object_faultless (Pod-F.Object object id props) f fault a h = props_faultless props fault f.fields h a.2
object_faultless other f fault a h = a

-- so the object that spells a format is read as just this format
pub written_law : (format : Format) (pod : Pod) → IsSoundFormat format → IsWritten format pod → IsReadAs pod format
written_law format pod sound w =
    let reads = written_format format pod sound w in
    record {
      reads = reads;
      only = λ other h. formats_one (out-Pod pod) other format h reads;
      faultless = λ fault h. object_faultless (out-Pod pod) format fault reads h;
    }

-- COMMON FORMATS: two formats have one at most, and one outcome

field_is : (f g : Field) → f.key ≡ g.key → f.flags ≡ g.flags → f.choice ≡ g.choice → f ≡ g
field_is f g a b c = λ i. record { key = a i; flags = b i; choice = c i }

format_is : (f g : Format) → f.object ≡ g.object → f.id ≡ g.id → f.fields ≡ g.fields → f ≡ g
format_is f g a b c = λ i. record { object = a i; id = b i; fields = c i }

common_fields_one : (f g h k : Option Field) → IsCommonField f g h → IsCommonField f g k → h ≡ k
common_fields_one (Some f) (Some g) (Some h) (Some k) a b = ap Some (field_is h k (a.0 ∙ sym b.0) (a.1 ∙ sym b.1)
    (intersection_one f.choice g.choice h.choice k.choice a.2 b.2))
common_fields_one (Some f) (Some g) (Some h) None a b = absurd b
common_fields_one (Some f) (Some g) None k a b = absurd a
common_fields_one (Some f) None h k a b = a ∙ sym b
common_fields_one None g h k a b = a ∙ sym b

commons_one : (a b x y : Format) → IsCommonFormat a b x → IsCommonFormat a b y → x ≡ y
commons_one a b x y h g = format_is x y (h.object ∙ sym g.object) (h.id ∙ sym g.id)
    (lists_one x.fields y.fields h.sound.ascending g.sound.ascending (λ key. common_fields_one (field_of a.fields key)
    (field_of b.fields key) (field_of x.fields key) (field_of y.fields key) (h.fields key) (g.fields key)))

-- of two keys neither is less
neither : (j k : ℕ) → (j < k → ⊥) → (k < j → ⊥) → j ≡ k
neither j k low high = elim (cases_lt j k) [
  | inl lt ↦ absurd (low lt)
  | inr ge ↦ elim (cases_lt k j) [ inl lt ↦ absurd (high lt) | inr le ↦ omega (arith, ge, le) ]
]

pub filters_one : (a b : Format) (x y : Filtered) → Filters a b x → Filters a b y → x ≡ y
filters_one a b Types Types h g = refl
filters_one a b Types (Clash k) h g = absurd (h g.0)
filters_one a b Types (Common d) h g = absurd (h g.0.types)
filters_one a b (Clash j) Types h g = absurd (g h.0)
filters_one a b (Clash j) (Clash k) h g = ap (λ (n : ℕ). Clash n) (neither j k (λ lt. g.2 j lt h.1) (λ lt. h.2 k lt g.1))
filters_one a b (Clash j) (Common d) h g = absurd (g.0.clashless j h.1)
filters_one a b (Common c) Types h g = absurd (g h.0.types)
filters_one a b (Common c) (Clash k) h g = absurd (h.0.clashless k g.1)
filters_one a b (Common c) (Common d) h g = ap (λ (f : Format). Common f) (commons_one a b c d h.1 g.1)

-- WRITING: one value spells a choice, one object a format

pod_is : (p q : Pod) → out-Pod p ≡ out-Pod q → p ≡ q
pod_is p q e = sym (roll-out-Pod p) ∙ ap roll-Pod e ∙ roll-out-Pod q

prop_is : (p q : Prop) → (out-Prop p).key ≡ (out-Prop q).key → (out-Prop p).flags ≡ (out-Prop q).flags
    → (out-Prop p).value ≡ (out-Prop q).value → p ≡ q
prop_is p q a b c = sym (roll-out-Prop p) ∙ (λ i. roll-Prop (record { key = a i; flags = b i; value = c i })) ∙ roll-out-Prop q

choices_one : (kind : ChoiceKind) (child : ℕ) (values : List Pod) (o p : Pod-F Pod Control Prop) → IsChoice kind child values o
    → IsChoice kind child values p → o ≡ p
choices_one kind child values (Pod-F.Choice a f c vs) (Pod-F.Choice b g d ws) h k =
    let kinds : a ≡ b = h.0 ∙ sym k.0 in
    let flags : f ≡ g = h.1 ∙ sym k.1 in
    let children : c ≡ d = h.2 ∙ sym k.2 in
    let all : vs ≡ ws = h.3 ∙ sym k.3 in
    λ i. Pod-F.Choice (kinds i) (flags i) (children i) (all i)
choices_one kind child values (Pod-F.Choice a f c vs) other h k = absurd k
choices_one kind child values other p h k = absurd h

values_written_one : (c : Choice) (v w : Pod) → Writes c v → Writes c w → v ≡ w
values_written_one (Only value) v w a b = a ∙ sym b
values_written_one (Enum pick alts) v w a b =
    let child : b.0 ≡ a.0 = sym b.1 ∙ a.1 in
    pod_is v w (choices_one k.Enum a.0 (pick ∷ alts) (out-Pod v) (out-Pod w) a.2
    (subst (λ (n : ℕ). IsChoice k.Enum n (pick ∷ alts) (out-Pod w)) child b.2))
values_written_one (Range wide pick min max) v w a b = pod_is v w (choices_one k.Range _ _ (out-Pod v) (out-Pod w) a b)
values_written_one (Step wide pick min max step) v w a b = pod_is v w (choices_one k.Step _ _ (out-Pod v) (out-Pod w) a b)

props_one : (fields : List Field) (ps qs : List Prop) → AllZip WritesField fields ps → AllZip WritesField fields qs → ps ≡ qs
props_one [] [] [] a b = refl
props_one [] [] (q ∷ qs) a b = absurd b
props_one [] (p ∷ ps) qs a b = absurd a
props_one (f ∷ fs) [] qs a b = absurd a
props_one (f ∷ fs) (p ∷ ps) [] a b = absurd b
props_one (f ∷ fs) (p ∷ ps) (q ∷ qs) a b =
    let first : p ≡ q = prop_is p q (a.0.0 ∙ sym b.0.0) (a.0.1 ∙ sym b.0.1)
    (values_written_one f.choice (out-Prop p).value (out-Prop q).value a.0.2 b.0.2) in
    let rest : ps ≡ qs = props_one fs ps qs a.1 b.1 in
    λ i. first i ∷ rest i

objects_one : (format : Format) (o p : Pod-F Pod Control Prop) → WritesObject format o → WritesObject format p → o ≡ p
objects_one format (Pod-F.Object a n ps) (Pod-F.Object b m qs) h g =
    let objects : a ≡ b = h.0 ∙ sym g.0 in
    let ids : n ≡ m = h.1 ∙ sym g.1 in
    let props : ps ≡ qs = props_one format.fields ps qs h.2 g.2 in
    λ i. Pod-F.Object (objects i) (ids i) (props i)
objects_one format (Pod-F.Object a n ps) other h g = absurd g
objects_one format other p h g = absurd h

pub written_one : (format : Format) (p q : Pod) → IsWritten format p → IsWritten format q → p ≡ q
written_one format p q h g = pod_is p q (objects_one format (out-Pod p) (out-Pod q) h g)
