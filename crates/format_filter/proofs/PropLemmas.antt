-- Properties read one after the other into a map, and the fields of the map.
use Rattle.std.proofs.Common.{◌≡◌, ◌≢◌, ℕ, ◌+◌, ◌<◌, inl, inr, Bool, true, false, cond, List, [], ◌∷◌, ◌++◌, length, get_or}
use Rattle.std.proofs.Common.{take, drop, Option, Some, None, refl, sym, ap, ◌∙◌, subst, ◌==◌, length-append, arith}
use Rattle.std.specs.List.{All, Any}
use Rattle.std.specs.Option.{is_some}
use Rattle.std.specs.Ordering.{nat_cmp}
use Rattle.std.specs.Map.{lookup, values_of, keys_of}
use Rattle.std.specs.BTreeMap.{BTreeMap, values, is_at, Updates, IsOrdered}
use Rattle.std.proofs.lemmas.Bool.Decides.{eqb_tells, nat_tests}
use Rattle.std.proofs.lemmas.Cmp.{nat_cmp_total}
use Rattle.std.proofs.lemmas.List.{get_or_append_left, get_or_default, get_or-map, length-map, take_more, drop_more, take-append-drop}
use Rattle.std.proofs.lemmas.List.Elements.{All-push, All-weaker, All-head, All-tail, All-map, All-nil}
use Rattle.std.proofs.lemmas.List.Quantifiers.{all_pairs_push, Any-push}
use Rattle.std.proofs.lemmas.Map.Keys.{below_from_sorted}
use Rattle.std.proofs.lemmas.Map.Views.{All-found}
use Rattle.pod_codec.specs.declared.pod.Prop.{Prop}
use Rattle.pod_codec.specs.declared.pod.Pod.TheViews.{out-Pod, out-Prop}
use Rattle.format_filter.specs.declared.choice.Choice.{Choice}
use Rattle.format_filter.specs.declared.format.Field.{Field}
use Rattle.format_filter.specs.declared.fault.FormatFault.{FormatFault}
use Rattle.format_filter.specs.declared.fault.FormatFault.TheVariants as f
use Rattle.format_filter.specs.Soundness.{IsSound}
use Rattle.format_filter.specs.CommonFormat.{field_of}
use Rattle.format_filter.specs.ChoiceReading.{Faults}
use Rattle.format_filter.specs.FormatReading.{key_of, ReadsChoice, ReadsField, AreReadable, AreFieldsOf, IsTwice, FaultsProps}
use Rattle.format_filter.specs.working.PropReading.{field_at, AreRead}

-- the test of a map's key is that of a field's
same_test : (key k : ℕ) → is_at (nat_cmp key) k ≡ (k == key)
same_test key k = grind (arith, nat_tests)

any_left : (P : Prop → Type 0) (xs ys : List Prop) → Any P xs → Any P (xs ++ ys)
any_left P xs ys h = (h.0, h.1, omega (arith, h.2, length-append xs ys), get_or_append_left xs ys h.1 h.0 h.2 ∙ h.3, h.4)

-- no key is there twice
untold : (props : List Prop) (fields : BTreeMap ℕ Field) (prop : Prop) → AreRead props fields → field_at fields (key_of prop) ≡ None
    → IsTwice props prop → ⊥
untold props fields prop h none twice =
    let found = h.each twice.0 twice.1 twice.2 in
    let same : key_of (get_or props twice.0 twice.1) ≡ key_of prop = ap key_of twice.3 ∙ twice.4 in
    let some : field_at fields (key_of prop) ≡ Some found.0 = sym (ap (field_at fields) same) ∙ found.1 in
    let clash : Some found.0 ≡ None = sym some ∙ none in
    cc

apart_test : (key k : ℕ) → k ≢ key → is_at (nat_cmp key) k ≡ false
apart_test key k n = elim (eqb_tells k key) [ inl w ↦ absurd (n w.1) | inr w ↦ same_test key k ∙ w.0 ]

-- one property more
pub read_more : (props : List Prop) (fields more : BTreeMap ℕ Field) (prop : Prop) (field : Field) → AreRead props fields
    → field_at fields (key_of prop) ≡ None → Updates nat_cmp fields more (key_of prop) (Some field) → IsOrdered nat_cmp more
    → ReadsField prop field → IsSound field.choice → AreRead (props ++ prop ∷ []) more
read_more props fields more prop field h none updates order reads sound = record {
  ordered = order;
  distinct = all_pairs_push (λ p q. key_of p ≢ key_of q) props prop h.distinct
      (λ k d l e. untold props fields prop h none (k, get_or props k d, l, get_or_default props k (get_or props k d) d l, e));
  each = All-push (λ p. (g : Field) × (field_at more (key_of p) ≡ Some g) × ReadsField p g) props prop
      (All-weaker (λ p. (g : Field) × (field_at fields (key_of p) ≡ Some g) × ReadsField p g)
      (λ p. (g : Field) × (field_at more (key_of p) ≡ Some g) × ReadsField p g)
      (λ p w. (
        w.0,
        updates.2 (key_of p) (apart_test (key_of prop) (key_of p)
            (λ e. let clash : Some w.0 ≡ None = sym w.1 ∙ ap (field_at fields) e ∙ none in cc)) ∙ w.1,
        w.2,
      )) props h.each)
      (field, updates.1, reads);
  origin = λ key g e. elim (eqb_tells key (key_of prop)) [
    | inl w ↦ Any-push (λ p. key_of p ≡ key) props prop (sym w.1)
    | inr w ↦ any_left (λ p. key_of p ≡ key) props (prop ∷ []) (h.origin key g (sym (updates.2 key (apart_test (key_of prop) key w.1)) ∙ e))
  ];
  sound = λ key g e. elim (eqb_tells key (key_of prop)) [
    | inl w ↦
        let some : Some field ≡ Some g = sym updates.1 ∙ ap (field_at more) (sym w.1) ∙ e in
        let same : field ≡ g = cc in
        (ap (λ (x : Field). x.key) (sym same) ∙ reads.0 ∙ sym w.1, subst (λ (x : Field). IsSound x.choice) same sound)
    | inr w ↦ h.sound key g (sym (updates.2 key (apart_test (key_of prop) key w.1)) ∙ e)
  ];
}

pub read_none : (fields : BTreeMap ℕ Field) → fields.entries ≡ [] → IsOrdered nat_cmp fields → AreRead [] fields
read_none fields empty order =
    let nothing : (key : ℕ) → field_at fields key ≡ None = λ key. ap (lookup (is_at (nat_cmp key))) empty in
    record {
      ordered = order;
      distinct = λ i j d a b. absurd (omega arith);
      each = All-nil (λ p. (g : Field) × (field_at fields (key_of p) ≡ Some g) × ReadsField p g);
      origin = λ key g e. let clash : Some g ≡ None = sym e ∙ nothing key in absurd (cc);
      sound = λ key g e. let clash : Some g ≡ None = sym e ∙ nothing key in absurd (cc);
    }

-- the properties, at one of them
at_prop : (props : List Prop) (i : ℕ) (prop : Prop) → i < length props → prop ≡ get_or props i prop
    → props ≡ take i props ++ prop ∷ drop (i + 1) props
at_prop props i prop l e =
    sym (take-append-drop i props) ∙ ap (λ (xs : List Prop). take i props ++ xs) (drop_more props i prop l)
    ∙ ap (λ (p : Prop). take i props ++ p ∷ drop (i + 1) props) (sym e)

pub next_prop : (props : List Prop) (i : ℕ) (prop : Prop) → i < length props → prop ≡ get_or props i prop
    → take (i + 1) props ≡ take i props ++ prop ∷ []
next_prop props i prop l e = take_more props i prop l ∙ ap (λ (p : Prop). take i props ++ p ∷ []) (sym e)

readable : (props : List Prop) (fields : BTreeMap ℕ Field) → AreRead props fields → AreReadable props
readable props fields h = record {
  distinct = h.distinct;
  readable = All-weaker (λ p. (g : Field) × (field_at fields (key_of p) ≡ Some g) × ReadsField p g) (λ p. (c : Choice) × ReadsChoice p c)
      (λ p w. (w.0.choice, w.2.2)) props h.each;
}

-- a key that is in the map is there twice
pub twice_faults : (props : List Prop) (i : ℕ) (prop : Prop) (fields : BTreeMap ℕ Field) (field : Field) → i < length props
    → prop ≡ get_or props i prop → AreRead (take i props) fields → field_at fields (key_of prop) ≡ Some field
    → FaultsProps props (f.KeyTwice (key_of prop))
twice_faults props i prop fields field l e h some =
    record {
      before = take i props;
      prop = prop;
      after = drop (i + 1) props;
      parts = at_prop props i prop l e;
      readable = readable (take i props) fields h;
      at_fault = inl (h.origin (key_of prop) field some, refl);
    }

-- else its value is at fault
pub value_faults : (props : List Prop) (i : ℕ) (prop : Prop) (fields : BTreeMap ℕ Field) (fault : FormatFault) → i < length props
    → prop ≡ get_or props i prop → AreRead (take i props) fields → field_at fields (key_of prop) ≡ None
    → Faults (out-Pod (out-Prop prop).value) (key_of prop) fault → FaultsProps props fault
value_faults props i prop fields fault l e h none faults =
    record {
      before = take i props;
      prop = prop;
      after = drop (i + 1) props;
      parts = at_prop props i prop l e;
      readable = readable (take i props) fields h;
      at_fault = inr (untold (take i props) fields prop h none, faults);
    }

lookup_is : (es : List (ℕ × Field)) → All (λ e. e.1.key ≡ e.0) es → (key : ℕ)
    → field_of (values_of es) key ≡ lookup (is_at (nat_cmp key)) es
lookup_is [] h key = refl
lookup_is (e ∷ es) h key =
    let own : e.1.key ≡ e.0 = All-head (λ x. x.1.key ≡ x.0) e es h in
    ap (λ (n : ℕ). cond (n == key) (Some e.1) (field_of (values_of es) key)) own
    ∙ ap (λ (b : Bool). cond b (Some e.1) (field_of (values_of es) key)) (sym (same_test key e.0))
    ∙ ap (λ (o : Option Field). cond (is_at (nat_cmp key) e.0) (Some e.1) o) (lookup_is es (All-tail (λ x. x.1.key ≡ x.0) e es h) key)

none_or_some : (o : Option Field) → ((g : Field) → o ≡ Some g → ⊥) → o ≡ None
none_or_some None h = refl
none_or_some (Some g) h = absurd (h g refl)

-- the fields of the map are those of the properties
pub map_fields : (props : List Prop) (fields : BTreeMap ℕ Field) → AreRead props fields → AreFieldsOf props (values fields)
map_fields props fields h =
    let es = fields.entries in
    let found = All-found nat_cmp_total fields h.ordered in
    let keyed : All (λ e. e.1.key ≡ e.0) es = All-weaker (λ e. field_at fields e.0 ≡ Some e.1) (λ e. e.1.key ≡ e.0)
    (λ e w. (h.sound e.0 e.1 w).0) es found in
    let read : (i : ℕ) (d : Field) → i < length es → (get_or (values_of es) i d).key ≡ get_or (keys_of es) i 0 = λ i d l.
    ap (λ (x : Field). x.key) (get_or-map (λ e. e.1) es i (0, d) d l) ∙ keyed i (0, d) l ∙ sym (get_or-map (λ e. e.0) es i (0, d) 0 l) in
    record {
      distinct = h.distinct;
      sound = record {
        ascending = λ i j d a b.
            let inside : j < length es = omega (arith, b, length-map es (λ (e : ℕ × Field). e.1)) in
            let within : j < length (keys_of es) = omega (arith, inside, length-map es (λ (e : ℕ × Field). e.0)) in
            let order = below_from_sorted (keys_of es) i j 0 h.ordered a within in
            let own = read i d (omega arith) in
            let other = read j d inside in
            omega arith;
        choices = All-map (λ g. IsSound g.choice) (λ (e : ℕ × Field). e.1) es
            (All-weaker (λ e. field_at fields e.0 ≡ Some e.1) (λ e. IsSound e.1.choice) (λ e w. (h.sound e.0 e.1 w).1) es found);
      };
      each = All-weaker (λ p. (g : Field) × (field_at fields (key_of p) ≡ Some g) × ReadsField p g)
          (λ p. (g : Field) × (field_of (values fields) (key_of p) ≡ Some g) × ReadsField p g)
          (λ p w. (w.0, lookup_is es keyed (key_of p) ∙ w.1, w.2)) props h.each;
      only = λ key apart. lookup_is es keyed key ∙ none_or_some (field_at fields key) (λ g e. let o = h.origin key g e in
          apart o.0 o.1 o.2 (ap key_of o.3 ∙ o.4));
    }

pub some_from : (o : Option Field) → is_some o ≡ true → (g : Field) × (o ≡ Some g)
some_from (Some g) h = (g, refl)
some_from None h = absurd (cc)

pub none_from : (o : Option Field) → is_some o ≡ false → o ≡ None
none_from None h = refl
none_from (Some g) h = absurd (cc)
