-- What is written is read again.
use Rattle.std.proofs.Common.{◌≡◌, ◌≢◌, ℕ, ℤ, zero, suc, ◌+◌, ◌<◌, ◌≤ℤ◌, inl, inr, List, [], ◌∷◌, ◌++◌, length}
use Rattle.std.proofs.Common.{get_or, take, drop, Some, map, refl, sym, ap, ◌∙◌, subst, arith}
use Rattle.std.specs.List.{All, AllZip, Contains}
use Rattle.std.proofs.lemmas.Bool.Decides.{eqb_tells}
use Rattle.std.proofs.lemmas.Int.{ints}
use Rattle.std.proofs.lemmas.List.Elements.{All-nil, All-cons, All-contains}
use Rattle.std.proofs.lemmas.List.{take-append-drop, drop_more, get_or-take, get_or_default, length-take}
use Rattle.pod_codec.specs.declared.pod.Pod.{Pod}
use Rattle.pod_codec.specs.declared.pod.Pod.TheVariants as pod
use Rattle.pod_codec.specs.declared.pod.Prop.{Prop}
use Rattle.pod_codec.specs.declared.pod.Control.{Control}
use Rattle.pod_codec.specs.declared.pod.Pod.TheOpen.{Pod-F}
use Rattle.pod_codec.specs.declared.pod.Pod.TheFolds.{fold_out-Pod}
use Rattle.pod_codec.specs.declared.pod.Pod.TheViews.{out-Pod, out-Prop}
use Rattle.pod_codec.specs.declared.pod.ChoiceKind.{ChoiceKind}
use Rattle.pod_codec.specs.declared.pod.ChoiceKind.TheVariants as k
use Rattle.pod_codec.specs.PodType.{child_size}
use Rattle.pod_codec.specs.SoundChoices.{IsOfType, IsSoundChoice, HoldsSoundChoices, HasSoundChoices}
use Rattle.format_filter.specs.declared.choice.Choice.{Choice}
use Rattle.format_filter.specs.declared.choice.Choice.TheVariants.{Only, Enum, Range, Step}
use Rattle.format_filter.specs.declared.choice.Wide.{Wide}
use Rattle.format_filter.specs.declared.choice.Wide.TheVariants.{Int, Long}
use Rattle.format_filter.specs.declared.format.Field.{Field}
use Rattle.format_filter.specs.declared.format.Format.{Format}
use Rattle.format_filter.specs.Soundness.{IsSound}
use Rattle.format_filter.specs.CommonFormat.{AreSoundFields, IsSoundFormat, field_of}
use Rattle.format_filter.specs.ChoiceReading.{alternatives, ReadsValues, Reads}
use Rattle.format_filter.specs.FormatReading.{AreFieldsOf, ReadsObject, IsFormatOf}
use Rattle.format_filter.specs.Members.{number_of}
use Rattle.format_filter.specs.FormatWriting.{type_of_wide, IsChoice, Writes, WritesField, WritesObject, IsWritten}
use Rattle.format_filter.proofs.TypeLemmas.{int_type, long_type}
use Rattle.format_filter.proofs.NumberChoiceLemmas.{above}
use Rattle.format_filter.proofs.FieldLemmas.{any_field, field_none, field_next}

-- one field and its property more
pub zip_push : (fs : List Field) (ps : List Prop) (f : Field) (p : Prop) → AllZip WritesField fs ps → WritesField f p
    → AllZip WritesField (fs ++ f ∷ []) (ps ++ p ∷ [])
zip_push [] [] f p h w = (w, tt)
zip_push [] (q ∷ qs) f p h w = absurd h
zip_push (g ∷ gs) [] f p h w = absurd h
zip_push (g ∷ gs) (q ∷ qs) f p h w = (h.0, zip_push gs qs f p h.1 w)

-- a value that is no Choice is read as the only one
plain_reads : (v : Pod) (o : Pod-F Pod Control Prop) → out-Pod v ≡ o → (IsOfType 19 v → ⊥) → Reads o v (Only v)
plain_reads v (Pod-F.Choice kind flags child values) e h = let is : IsOfType 19 v = rw (fold_out-Pod, e) refl in absurd (h is)
plain_reads v other e h = refl

choice_reads : (kind : ChoiceKind) (child : ℕ) (values : List Pod) (o : Pod-F Pod Control Prop) (v : Pod) (c : Choice)
    → IsChoice kind child values o → ReadsValues kind values c → Reads o v c
choice_reads kind child values (Pod-F.Choice made flags type vs) v c h r =
    subst (λ (x : ChoiceKind). ReadsValues x vs c) (sym h.0) (subst (λ (xs : List Pod). ReadsValues kind xs c) (sym h.3) r)
choice_reads kind child values other v c h r = absurd h

own_alternatives : (pick : Pod) (alts : List Pod) → Contains alts pick → alts ≡ alternatives pick alts
own_alternatives pick [] h = absurd (omega (arith, h.1))
own_alternatives pick (v ∷ rest) h = refl

-- the value that spells a choice is read as it
pub written_reads : (c : Choice) (v : Pod) → IsSound c → Writes c v → Reads (out-Pod v) v c
written_reads (Only value) v s w = subst (λ (x : Pod). Reads (out-Pod v) v (Only x)) w
    (plain_reads v (out-Pod v) refl (λ t. s.parts (subst (IsOfType 19) w t)))
written_reads (Enum pick alts) v s w = choice_reads k.Enum w.0 (pick ∷ alts) (out-Pod v) v (Enum pick alts) w.2
    (own_alternatives pick alts s.pick, inl (s.pick, refl))
written_reads (Range wide pick min max) v s w =
    let order : min ≤ℤ max = omega (arith, ints, s.pick.2, s.pick.3) in
    choice_reads k.Range _ _ (out-Pod v) v (Range wide pick min max) w ((pick, refl), refl, refl, order, inl (s.pick, refl))
written_reads (Step wide pick min max step) v s w =
    let reached = above min s.pick.0 step s.pick.2.0 s.parts.4 s.pick.2.1 in
    let order : min ≤ℤ max = omega (arith, ints, reached, s.pick.3) in
    choice_reads k.Step _ _ (out-Pod v) v (Step wide pick min max step) w
    ((pick, refl), refl, refl, refl, order, s.parts.4, inl (s.pick, refl))

any_prop : Prop
any_prop = record { key = 0; flags = 0; value = pod.None }

zip_at : (fs : List Field) (ps : List Prop) (i : ℕ) (e : Field) (d : Prop) → AllZip WritesField fs ps → i < length ps
    → WritesField (get_or fs i e) (get_or ps i d)
zip_at [] [] i e d h l = absurd (omega arith)
zip_at [] (q ∷ qs) i e d h l = absurd h
zip_at (g ∷ gs) [] i e d h l = absurd h
zip_at (g ∷ gs) (q ∷ qs) zero e d h l = h.0
zip_at (g ∷ gs) (q ∷ qs) (suc i) e d h l = zip_at gs qs i e d h.1 (omega arith)

zip_length : (fs : List Field) (ps : List Prop) → AllZip WritesField fs ps → length fs ≡ length ps
zip_length [] [] h = refl
zip_length [] (q ∷ qs) h = absurd h
zip_length (g ∷ gs) [] h = absurd h
zip_length (g ∷ gs) (q ∷ qs) h = ap suc (zip_length gs qs h.1)

pub first_found : (f : Field) (fs : List Field) → field_of (f ∷ fs) f.key ≡ Some f
first_found f fs = elim (eqb_tells f.key f.key) [ inl w ↦ rw w.0 | inr w ↦ absurd (w.1 refl) ]

-- a field is found by its key
found_at : (fs : List Field) (i : ℕ) (e : Field) → AreSoundFields fs → i < length fs
    → field_of fs (get_or fs i e).key ≡ Some (get_or fs i e)
found_at fs i e sound l =
    let f = get_or fs i e in
    let parts : fs ≡ take i fs ++ f ∷ drop (i + 1) fs = sym (take-append-drop i fs)
    ∙ ap (λ (xs : List Field). take i fs ++ xs) (drop_more fs i e l) in
    let lows : All (λ g. g.key ≢ f.key) (take i fs) = λ j d b same.
    let inside : j < i = omega (arith, b, length-take i fs) in
    let order = sound.ascending j i d inside l in
    let read : (get_or (take i fs) j d).key ≡ (get_or fs j d).key = ap (λ (g : Field). g.key) (get_or-take i fs j d inside) in
    let own : (get_or fs i d).key ≡ f.key = ap (λ (g : Field). g.key) (get_or_default fs i d e l) in
    omega arith in
    ap (λ (xs : List Field). field_of xs f.key) parts ∙ field_next (take i fs) (f ∷ drop (i + 1) fs) f.key lows
    ∙ first_found f (drop (i + 1) fs)

-- the properties that spell fields are read as them
pub written_fields : (fs : List Field) (ps : List Prop) → AreSoundFields fs → AllZip WritesField fs ps → AreFieldsOf ps fs
written_fields fs ps sound h =
    let same_length = zip_length fs ps h in
    record {
      distinct = λ i j d a b same.
          let own = (zip_at fs ps i any_field d h (omega arith)).0 in
          let other = (zip_at fs ps j any_field d h b).0 in
          let order = sound.ascending i j any_field a (omega arith) in
          omega arith;
      sound = sound;
      each = λ i d l.
          let inside : i < length fs = omega arith in
          let field = get_or fs i any_field in
          let w = zip_at fs ps i any_field d h l in
          let s : IsSound field.choice = sound.choices i any_field inside in (
            field,
            ap (field_of fs) w.0 ∙ found_at fs i any_field sound inside,
            (sym w.0, sym w.1, written_reads field.choice (out-Prop (get_or ps i d)).value s w.2),
          );
      only = λ key apart. field_none key fs (λ i e l same. apart i any_prop (omega arith)
          ((zip_at fs ps i e any_prop h (omega arith)).0 ∙ same));
    }

object_reads : (format : Format) (o : Pod-F Pod Control Prop) → IsSoundFormat format → WritesObject format o → ReadsObject o format
object_reads format (Pod-F.Object object id props) sound w = (sym w.0, sym w.1, written_fields format.fields props sound w.2)
object_reads format other sound w = absurd w

-- the object that spells a format is read as it
pub written_format : (format : Format) (pod : Pod) → IsSoundFormat format → IsWritten format pod → IsFormatOf pod format
written_format format pod sound w = object_reads format (out-Pod pod) sound w

-- the values that spell a choice are of the type that it names
choice_sound : (kind : ChoiceKind) (child : ℕ) (values : List Pod) (o : Pod-F Pod Control Prop) → IsChoice kind child values o
    → 0 < child_size child → All (IsOfType child) values → IsSoundChoice o
choice_sound kind child values (Pod-F.Choice made flags type vs) h l all = λ some. (
  subst (λ (n : ℕ). 0 < child_size n) (sym h.2) l,
  subst (λ (n : ℕ). All (IsOfType n) vs) (sym h.2) (subst (All (IsOfType child)) (sym h.3) all),
)
choice_sound kind child values other h l all = absurd h

no_choice_sound : (v : Pod) (o : Pod-F Pod Control Prop) → out-Pod v ≡ o → (IsOfType 19 v → ⊥) → IsSoundChoice o
no_choice_sound v (Pod-F.Choice kind flags child values) e h = let is : IsOfType 19 v = rw (fold_out-Pod, e) refl in absurd (h is)
no_choice_sound v other e h = tt

number_type : (wide : Wide) (n : ℤ) → IsOfType (type_of_wide wide) (number_of wide n)
number_type Int n = int_type n
number_type Long n = long_type n

wide_size : (wide : Wide) → 0 < child_size (type_of_wide wide)
wide_size Int = omega arith
wide_size Long = omega arith

numbers_type : (wide : Wide) (ns : List ℤ) → All (IsOfType (type_of_wide wide)) (map (number_of wide) ns)
numbers_type wide [] = All-nil (IsOfType (type_of_wide wide))
numbers_type wide (n ∷ ns) = All-cons (IsOfType (type_of_wide wide)) (number_of wide n) (map (number_of wide) ns) (number_type wide n)
    (numbers_type wide ns)

written_sound : (c : Choice) (v : Pod) → IsSound c → Writes c v → IsSoundChoice (out-Pod v)
written_sound (Only value) v s w = no_choice_sound v (out-Pod v) refl (λ t. s.parts (subst (IsOfType 19) w t))
written_sound (Enum pick alts) v s w =
    let child = s.parts.0 in
    let own : IsOfType child pick = All-contains (IsOfType child) alts pick s.parts.2 s.pick in
    let same : w.0 ≡ child = sym w.1 ∙ own in
    choice_sound k.Enum w.0 (pick ∷ alts) (out-Pod v) w.2 (subst (λ (n : ℕ). 0 < child_size n) (sym same) s.parts.1)
    (subst (λ (n : ℕ). All (IsOfType n) (pick ∷ alts)) (sym same) (All-cons (IsOfType child) pick alts own s.parts.2))
written_sound (Range wide pick min max) v s w = choice_sound k.Range (type_of_wide wide) (map (number_of wide) (pick ∷ min ∷ max ∷ []))
    (out-Pod v) w (wide_size wide) (numbers_type wide (pick ∷ min ∷ max ∷ []))
written_sound (Step wide pick min max step) v s w =
    choice_sound k.Step (type_of_wide wide) (map (number_of wide) (pick ∷ min ∷ max ∷ step ∷ [])) (out-Pod v) w (wide_size wide)
    (numbers_type wide (pick ∷ min ∷ max ∷ step ∷ []))

object_sound : (format : Format) (o : Pod-F Pod Control Prop) → IsSoundFormat format → WritesObject format o → HoldsSoundChoices o
object_sound format (Pod-F.Object object id props) sound w = λ i d l.
    let f = get_or format.fields i any_field in
    let z = zip_at format.fields props i any_field d w.2 l in
    written_sound f.choice (out-Prop (get_or props i d)).value
    (sound.choices i any_field (omega (arith, zip_length format.fields props w.2))) z.2
object_sound format other sound w = absurd w

-- the object that spells a format has sound choices
pub format_sound : (format : Format) (pod : Pod) → IsSoundFormat format → IsWritten format pod → HasSoundChoices pod
format_sound format pod sound w = object_sound format (out-Pod pod) sound w
