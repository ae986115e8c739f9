-- The canonical spelling of a value that can be written spells it, whatever follows.
use Rattle.std.proofs.Common.{◌≡◌, ℕ, zero, suc, ◌+◌, ◌-◌, ◌≤◌, ◌<◌, ◌^◌, replicate, inr, List, [], ◌∷◌, ◌++◌, length}
use Rattle.std.proofs.Common.{map, refl, sym, ap, subst, ◌∙◌, arith, length-append}
use Rattle.std.specs.List.{flat_map}
use Rattle.std.specs.Prelude.{slice_index}
use Rattle.std.proofs.lemmas.List.{length-replicate}
use Rattle.pod_codec.specs.declared.pod.Pod.{Pod}
use Rattle.pod_codec.specs.declared.pod.Prop.{Prop}
use Rattle.pod_codec.specs.declared.pod.Control.{Control}
use Rattle.pod_codec.specs.declared.pod.ChoiceKind.{ChoiceKind}
use Rattle.pod_codec.specs.declared.pod.ChoiceKind.TheVariants as k
use Rattle.pod_codec.specs.declared.pod.Pod.TheOpen.{Pod-F}
use Rattle.pod_codec.specs.declared.pod.Pod.TheViews.{out-Pod}
use Rattle.pod_codec.specs.PodType.{choice_number}
use Rattle.pod_codec.specs.Framing.{Form, framed, keyed_bytes, pad8, u32_bytes, child_bytes}
use Rattle.pod_codec.specs.PodValue.{form_of, keyed_of, control_keyed, canonical}
use Rattle.pod_codec.specs.Writable.{Fits, IsWritable}
use Rattle.pod_codec.specs.Numbers.{ValueFits, NumbersFit}
use Rattle.pod_codec.specs.Places.{u32_at}
use Rattle.pod_codec.specs.Spelling.{IsBodyAt, SpellsAt, FrontSpells}
use Rattle.pod_codec.proofs.FormLemmas.{form_at, form_out}
use Rattle.pod_codec.proofs.PlaceLemmas.{StandsAt, stands_left, stands_right, first_stands, range_stands}
use Rattle.pod_codec.proofs.ScalarSpelledLemmas.{scalar_spells, pair_stands, pair_length}
use Rattle.pod_codec.proofs.ElementLemmas.{children_spell}
use Rattle.pod_codec.proofs.WritingLemmas.{parts_fit, parts_fit_keyed}
use Rattle.pod_codec.proofs.HeldSpelledLemmas.{IsSpelled, fields_spell, props_spell, controls_spell}

pub framed_length : (f : Form) → length (framed f) ≡ 8 + pad8 (length f.body)
framed_length f =
    let head = u32_bytes (length f.body) ++ u32_bytes f.number in
    let zeros : List ℕ = replicate (pad8 (length f.body) - length f.body) 0 in
    omega (
      arith,
      length-append (head ++ f.body) zeros,
      length-append head f.body,
      pair_length (length f.body) f.number,
      length-replicate {A = ℕ} (pad8 (length f.body) - length f.body) 0,
    )

deep : (v : Pod-F Pod Control Prop) → 1 ≤ (form_at v).depth
deep Pod-F.None = omega arith
deep v = omega arith

number_small : (v : Pod-F Pod Control Prop) → (form_at v).number ≤ 19
number_small Pod-F.None = omega arith
number_small v = omega arith

kind_is_small : (kind : ChoiceKind) → choice_number kind < 2 ^ 32
kind_is_small k.None = omega arith
kind_is_small kind = omega arith

-- what a body must be for the value to spell
pub record IsBody (left : ℕ) (bytes : List ℕ) (b e : ℕ) (v : Pod-F Pod Control Prop) : Type 0 where
  pub fits : Fits (suc left) (form_at v)
  pub numbers : ValueFits (NumbersFit left) v
  pub stands : StandsAt bytes b (form_at v).body
  pub end : e ≡ b + length (form_at v).body

body_spells : (left : ℕ) (bytes : List ℕ) (b e : ℕ) → IsSpelled left bytes e → (v : Pod-F Pod Control Prop) → IsBody left bytes b e v
    → IsBodyAt (λ a x m. SpellsAt left bytes a e x m) bytes (form_at v).number b e v
body_spells left bytes b e held Pod-F.None h = (refl, omega (arith, h.end))
body_spells left bytes b e held (Pod-F.Text text) h =
    let end : e ≡ b + length text + 1 = omega (arith, h.end, length-append text (0 ∷ [])) in
    let last = first_stands bytes (b + length text) 0 [] (stands_right bytes b (b + length text) text (0 ∷ []) refl h.stands) in (
      refl,
      omega arith,
      ap (slice_index bytes) (omega arith) ∙ last,
      sym (range_stands bytes b (e - 1) text (stands_left bytes b text (0 ∷ []) h.stands) (omega arith)),
    )
body_spells left bytes b e held (Pod-F.Bytes text) h = (refl, sym (range_stands bytes b e text h.stands h.end))
body_spells left bytes b e held (Pod-F.Bitmap text) h = (refl, sym (range_stands bytes b e text h.stands h.end))
body_spells left bytes b e held (Pod-F.Array child values) h =
    (refl, inr (children_spell bytes b e child values h.fits.sound h.numbers h.stands h.end))
body_spells left bytes b e held (Pod-F.Struct fields) h = (
  refl,
  fields_spell left bytes e held b fields (parts_fit left (map form_of fields) h.fits.sound
      (omega (arith, h.fits.depth)) h.fits.size) h.numbers h.stands h.end,
)
body_spells left bytes b e held (Pod-F.Object object id props) h =
    let head = u32_bytes object ++ u32_bytes id in
    let rest = flat_map keyed_bytes (map keyed_of props) in
    let long : length (head ++ rest) ≡ 8 + length rest = omega (arith, length-append head rest, pair_length object id) in
    let pair = pair_stands bytes b object id h.numbers.0 h.numbers.1 (stands_left bytes b head rest h.stands) in
    let behind = stands_right bytes b (b + 8) head rest (omega (arith, pair_length object id)) h.stands in (
      refl,
      pair.0,
      pair.1,
      props_spell left bytes e held (b + 8) props
          (parts_fit_keyed left (map keyed_of props) h.fits.sound (omega (arith, h.fits.depth)) (omega (arith, h.fits.size, long)))
          h.numbers.2 behind (omega (arith, h.end, long)),
    )
body_spells left bytes b e held (Pod-F.Choice kind flags child values) h =
    let n = choice_number kind in
    let head = u32_bytes n ++ u32_bytes flags in
    let rest = child_bytes child (map form_of values) in
    let pair = pair_stands bytes b n flags (kind_is_small kind) h.numbers.0 (stands_left bytes b head rest h.stands) in
    let behind = stands_right bytes b (b + 8) head rest (omega (arith, pair_length n flags)) h.stands in (
      refl,
      pair.0,
      pair.1,
      children_spell bytes (b + 8) e child values h.fits.sound h.numbers.1 behind
          (omega (arith, h.end, length-append head rest, pair_length n flags)),
    )
body_spells left bytes b e held (Pod-F.Sequence unit controls) h =
    let head = u32_bytes unit ++ u32_bytes 0 in
    let rest = flat_map keyed_bytes (map control_keyed controls) in
    let long : length (head ++ rest) ≡ 8 + length rest = omega (arith, length-append head rest, pair_length unit 0) in
    let pair = pair_stands bytes b unit 0 h.numbers.0 (omega arith) (stands_left bytes b head rest h.stands) in
    let behind = stands_right bytes b (b + 8) head rest (omega (arith, pair_length unit 0)) h.stands in (
      refl,
      pair.0,
      controls_spell left bytes e held (b + 8) controls
          (parts_fit_keyed left (map control_keyed controls) h.fits.sound (omega (arith, h.fits.depth)) (omega (arith, h.fits.size, long)))
          h.numbers.1 behind (omega (arith, h.end, long)),
    )
body_spells left bytes b e held scalar h = let s =
    scalar_spells bytes (form_at scalar).number b scalar refl (omega arith) h.numbers h.stands in (omega (arith, h.end, s.1), s.0)

-- the header of what is framed, and its body
pub record IsFramed (bytes : List ℕ) (a : ℕ) (f : Form) : Type 0 where
  pub size : u32_at bytes a ≡ length f.body
  pub number : u32_at bytes (a + 4) ≡ f.number
  pub body : StandsAt bytes (a + 8) f.body

frame_stands : (bytes : List ℕ) (a : ℕ) (f : Form) → f.number ≤ 19 → length f.body ≤ 1048576 → StandsAt bytes a (framed f)
    → IsFramed bytes a f
frame_stands bytes a f n l s =
    let head = u32_bytes (length f.body) ++ u32_bytes f.number in
    let zeros : List ℕ = replicate (pad8 (length f.body) - length f.body) 0 in
    let both = stands_left bytes a (head ++ f.body) zeros s in
    let pair = pair_stands bytes a (length f.body) f.number (omega arith) (omega arith) (stands_left bytes a head f.body both) in
    record {
      size = sym pair.0;
      number = sym pair.1;
      body = stands_right bytes a (a + 8) head f.body (omega (arith, pair_length (length f.body) f.number)) both;
    }

framed_at : (bytes : List ℕ) (a : ℕ) (pod : Pod) → length (form_of pod).body ≤ 1048576 → StandsAt bytes a (framed (form_of pod))
    → IsFramed bytes a (form_of pod)
framed_at bytes a pod l s = frame_stands bytes a (form_of pod)
    (omega (arith, ap (λ (f : Form). f.number) (form_out pod), number_small (out-Pod pod))) l s

pub canonical_spells : (left : ℕ) (bytes : List ℕ) (e : ℕ) → IsSpelled left bytes e
unfolding SpellsAt NumbersFit
canonical_spells zero bytes e pod a fits numbers s within =
    absurd (omega (arith, fits.depth, ap (λ (f : Form). f.depth) (form_out pod), deep (out-Pod pod)))
canonical_spells (suc left) bytes e pod a fits numbers s within =
    let f = form_of pod in
    let v = out-Pod pod in
    let is : f ≡ form_at v = form_out pod in
    let h = framed_at bytes a pod fits.size s in
    let end = a + 8 + length f.body in
    let body = body_spells left bytes (a + 8) end (canonical_spells left bytes end) v (record {
      fits = subst (Fits (suc left)) is fits;
      numbers = numbers;
      stands = subst (λ (g : Form). StandsAt bytes (a + 8) g.body) is h.body;
      end = ap (λ (g : Form). a + 8 + length g.body) is;
    }) in
    let number : (form_at v).number ≡ u32_at bytes (a + 4) = sym (h.number ∙ ap (λ (g : Form). g.number) is) in
    let typed = subst (λ (t : ℕ). IsBodyAt (λ q x m. SpellsAt left bytes q end x m) bytes t (a + 8) end v) number body in (
      within,
      omega (arith, framed_length f, ap pad8 h.size),
      subst (λ (n : ℕ). IsBodyAt (λ q x m. SpellsAt left bytes q (a + 8 + n) x m) bytes (u32_at bytes (a + 4)) (a + 8) (a + 8 + n) v)
          (sym h.size) typed,
    )

-- of all bytes
pub canonical_front : (bytes rest : List ℕ) (pod : Pod) → IsWritable pod → NumbersFit 16 pod → bytes ≡ canonical pod ++ rest
    → FrontSpells bytes pod (length (canonical pod))
canonical_front bytes rest pod fits numbers is =
    let s : StandsAt bytes 0 (canonical pod) = record { rest = rest; parts = is } in
    record {
      front =
          subst (λ (q : ℕ). SpellsAt 16 bytes 0 (length bytes) pod q) (omega arith)
          (canonical_spells 16 bytes (length bytes) pod 0 fits numbers s (omega (arith, ap length is, length-append (canonical pod) rest)));
      limit = omega (arith, (framed_at bytes 0 pod fits.size s).size, fits.size);
    }
