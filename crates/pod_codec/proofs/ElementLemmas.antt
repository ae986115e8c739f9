-- What is written of elements spells them.
use Rattle.std.proofs.Common.{◌≡◌, ℕ, ◌+◌, ◌≤◌, ◌<◌, ◌==◌, nat_lt, Bool, true, false, cond, ◌||◌, inl, inr, List, [], ◌∷◌}
use Rattle.std.proofs.Common.{◌++◌, length, map, IsTrue, refl, sym, ap, subst, ◌∙◌, arith, length-append}
use Rattle.std.specs.List.{flat_map, list_all}
use Rattle.std.proofs.lemmas.List.Concat.{flat_map-cons}
use Rattle.std.proofs.lemmas.Bool.{ltb-true, eqb-true, and_parts, or_cases}
use Rattle.pod_codec.specs.declared.pod.Pod.{Pod}
use Rattle.pod_codec.specs.declared.pod.Pod.TheViews.{out-Pod}
use Rattle.pod_codec.specs.PodType.{child_size, has_four_bytes, has_eight_bytes}
use Rattle.pod_codec.specs.Framing.{Form, u32_bytes, child_bytes, are_children}
use Rattle.pod_codec.specs.PodValue.{form_of}
use Rattle.pod_codec.specs.Numbers.{ElementsFit}
use Rattle.pod_codec.specs.Places.{AreAfter, IsElementAt, HasChildren}
use Rattle.pod_codec.proofs.FormLemmas.{form_at, form_out}
use Rattle.pod_codec.proofs.PlaceLemmas.{StandsAt, stands_left, stands_right}
use Rattle.pod_codec.proofs.ScalarSpelledLemmas.{pair_stands, pair_length, scalar_spells}

-- a child type that is allowed is a small number
four_small : (n : ℕ) → has_four_bytes n ≡ true → n ≤ 18
four_small n h =
    elim (or_cases ((n == 2) || (n == 3)) ((n == 4) || (n == 6)) h) [
      | inl a ↦ elim (or_cases (n == 2) (n == 3) a) [ inl x ↦ omega (arith, eqb-true n 2 x) | inr y ↦ omega (arith, eqb-true n 3 y) ]
      | inr b ↦ elim (or_cases (n == 4) (n == 6) b) [ inl x ↦ omega (arith, eqb-true n 4 x) | inr y ↦ omega (arith, eqb-true n 6 y) ]
    ]

eight_small : (n : ℕ) → has_eight_bytes n ≡ true → n ≤ 18
eight_small n h =
    elim (or_cases ((n == 5) || (n == 7)) ((n == 10) || ((n == 11) || (n == 18))) h) [
      | inl a ↦ elim (or_cases (n == 5) (n == 7) a) [ inl x ↦ omega (arith, eqb-true n 5 x) | inr y ↦ omega (arith, eqb-true n 7 y) ]
      | inr b ↦
          elim (or_cases (n == 10) ((n == 11) || (n == 18)) b) [
            | inl x ↦ omega (arith, eqb-true n 10 x)
            | inr c ↦ elim (or_cases (n == 11) (n == 18) c)
                [ inl x ↦ omega (arith, eqb-true n 11 x) | inr y ↦ omega (arith, eqb-true n 18 y) ]
          ]
    ]

sized_small : (n : ℕ) (a b : Bool) → (a ≡ true → n ≤ 18) → (b ≡ true → n ≤ 18) → 0 < cond a 4 (cond b 8 0) → n ≤ 18
sized_small n true b p q h = p refl
sized_small n false true p q h = q refl
sized_small n false false p q h = absurd (omega arith)

child_small : (n : ℕ) → 0 < child_size n → n ≤ 18
child_small n h = sized_small n (has_four_bytes n) (has_eight_bytes n) (four_small n) (eight_small n) h

size_small : (a b : Bool) → cond a 4 (cond b 8 0) ≤ 8
size_small true b = omega arith
size_small false true = omega arith
size_small false false = omega arith

-- elements that are all of the child type
pub elements_spell : (bytes : List ℕ) (child q : ℕ) (values : List Pod) (e : ℕ) → 0 < child_size child
    → IsTrue (list_all (λ f. f.number == child) (map form_of values)) → ElementsFit values
    → StandsAt bytes q (flat_map (λ f. f.body) (map form_of values)) → e ≡ q + length (flat_map (λ f. f.body) (map form_of values))
    → AreAfter (IsElementAt bytes child) q values e
elements_spell bytes child q [] e some same fits s end = omega (arith, end)
elements_spell bytes child q (x ∷ xs) e some same fits s end =
    let body = λ (f : Form). f.body in
    let f = form_of x in
    let rest = flat_map body (map form_of xs) in
    let both = and_parts (f.number == child) (list_all (λ g. g.number == child) (map form_of xs)) same in
    let split : StandsAt bytes q (f.body ++ rest) = subst (StandsAt bytes q) (flat_map-cons body f (map form_of xs)) s in
    let number : (form_at (out-Pod x)).number ≡ child = ap (λ (g : Form). g.number) (sym (form_out x)) ∙ eqb-true f.number child both.0 in
    let one = scalar_spells bytes child q (out-Pod x) number some fits.0
    (subst (λ (g : Form). StandsAt bytes q g.body) (form_out x) (stands_left bytes q f.body rest split)) in
    let long : length f.body ≡ child_size child = ap (λ (g : Form). length g.body) (form_out x) ∙ one.1 in
    let after : e ≡ q + child_size child + length rest =
    omega (arith, end, ap length (flat_map-cons body f (map form_of xs)), length-append f.body rest, long) in (
      q + child_size child,
      (refl, one.0),
      elements_spell bytes child (q + child_size child) xs e some both.1 fits.1
          (stands_right bytes q (q + child_size child) f.body rest (omega (arith, long)) split) after,
    )

head_length : (child : ℕ) (forms : List Form) → length (child_bytes child forms) ≡ 8 + length (flat_map (λ f. f.body) forms)
head_length child forms = omega (
  arith,
  length-append (u32_bytes (child_size child) ++ u32_bytes child) (flat_map (λ f. f.body) forms),
  pair_length (child_size child) child,
)

sized_children : (bytes : List ℕ) (c e child : ℕ) (values : List Pod) → 0 < child_size child
    → IsTrue (list_all (λ f. f.number == child) (map form_of values)) → ElementsFit values
    → StandsAt bytes c (child_bytes child (map form_of values)) → e ≡ c + length (child_bytes child (map form_of values))
    → HasChildren bytes c e child values
sized_children bytes c e child values some same fits s end =
    let all = flat_map (λ (f : Form). f.body) (map form_of values) in
    let head = u32_bytes (child_size child) ++ u32_bytes child in
    let small = child_small child some in
    let size = size_small (has_four_bytes child) (has_eight_bytes child) in
    let pair = pair_stands bytes c (child_size child) child (omega (arith, size)) (omega (arith, small)) (stands_left bytes c head all s) in
    inr (record {
      allowed = some;
      header = (sym pair.0, sym pair.1);
      elements = elements_spell bytes child (c + 8) values e some same fits
          (stands_right bytes c (c + 8) head all (omega (arith, pair_length (child_size child) child)) s)
          (omega (arith, end, head_length child (map form_of values)));
    })

-- what is written of children spells them
pub children_spell : (bytes : List ℕ) (c e child : ℕ) (values : List Pod) → IsTrue (are_children child (map form_of values))
    → ElementsFit values → StandsAt bytes c (child_bytes child (map form_of values))
    → e ≡ c + length (child_bytes child (map form_of values)) → HasChildren bytes c e child values
children_spell bytes c e child (x ∷ xs) sound fits s end =
    let both = and_parts (nat_lt 0 (child_size child)) (list_all (λ f. f.number == child) (map form_of (x ∷ xs))) sound in
    sized_children bytes c e child (x ∷ xs) (ltb-true 0 (child_size child) both.0) both.1 fits s end
children_spell bytes c e child [] sound fits s end =
    elim (or_cases (nat_lt 0 (child_size child)) (child == 1) sound) [
      | inl some ↦ sized_children bytes c e child [] (ltb-true 0 (child_size child) some) refl fits s end
      | inr one ↦
          let t : child ≡ 1 = eqb-true child 1 one in
          let size : child_size child ≡ 0 = ap child_size t in
          let pair = pair_stands bytes c (child_size child) child (omega arith) (omega arith)
          (stands_left bytes c (u32_bytes (child_size child) ++ u32_bytes child) [] s) in
          inl (record {
            none = refl;
            type_one = t;
            header = (sym pair.0 ∙ size, omega (arith, pair.1));
            end = omega (arith, end, head_length child []);
          })
    ]
