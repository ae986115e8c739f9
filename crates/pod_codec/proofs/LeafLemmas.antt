-- The spelled value of a type with a size of its own, and the children of an array or choice, are the decoder's.
use Rattle.std.proofs.Common.{◌≡◌, ℕ, ◌+◌, ◌-◌, ◌%◌, ◌≤◌, ◌<◌, ◌==◌, nat_le, true, false, inl, inr, List, [], ◌∷◌, None}
use Rattle.std.proofs.Common.{Ok, refl, sym, ap, subst, ◌∙◌, arith}
use Rattle.std.proofs.lemmas.Bool.{eq-eqb, ne_eqb, le-leb, and_from, and_left}
use Rattle.pod_codec.specs.declared.pod.Pod.{Pod}
use Rattle.pod_codec.specs.declared.pod.Prop.{Prop}
use Rattle.pod_codec.specs.declared.pod.Control.{Control}
use Rattle.pod_codec.specs.declared.pod.ChoiceKind.{ChoiceKind}
use Rattle.pod_codec.specs.declared.pod.ChoiceKind.TheVariants as k
use Rattle.pod_codec.specs.declared.pod.Pod.TheOpen.{Pod-F}
use Rattle.pod_codec.specs.declared.pod.Pod.TheViews.{out-Pod, roll-Pod, roll-out-Pod}
use Rattle.pod_codec.specs.PodType.{child_size, choice_number}
use Rattle.pod_codec.specs.Places.{u32_at, AreAfter, IsScalarAt, IsElementAt, HasChildren}
use Rattle.pod_codec.specs.Checks.{first_failed, children_checks}
use Rattle.pod_codec.proofs.Decoder.{scalar, is_bare, child_of, values_of, element_step, list_of, run, kind_of}
use Rattle.pod_codec.proofs.DecoderLemmas.{reaches, run_found}
use Rattle.pod_codec.proofs.ReadingLemmas.{four_or_eight}

pub scalar_found : (bytes : List ℕ) (t b : ℕ) (v : Pod-F Pod Control Prop) → IsScalarAt bytes t b v → scalar bytes t b ≡ v
scalar_found bytes t b (Pod-F.Bool x) h = rw (h.0, h.1) refl
scalar_found bytes t b (Pod-F.Id n) h = rw (h.0, h.1) refl
scalar_found bytes t b (Pod-F.Int n) h = rw (h.0, h.1) refl
scalar_found bytes t b (Pod-F.Long n) h = rw (h.0, h.1) refl
scalar_found bytes t b (Pod-F.FloatBits n) h = rw (h.0, h.1) refl
scalar_found bytes t b (Pod-F.DoubleBits n) h = rw (h.0, h.1) refl
scalar_found bytes t b (Pod-F.Rectangle width height) h = rw (h.0, h.1, h.2) refl
scalar_found bytes t b (Pod-F.Fraction num denom) h = rw (h.0, h.1, h.2) refl
scalar_found bytes t b (Pod-F.Fd n) h = rw (h.0, h.1) refl
scalar_found bytes t b other h = absurd h

-- an element is the decoder's, and has bytes
pub element_fixed : (bytes : List ℕ) (child : ℕ) → 0 < child_size child → (q : ℕ) (pod : Pod) (m : ℕ) → IsElementAt bytes child q pod m
    → (element_step bytes child q ≡ Ok (pod, m)) × (q < m)
element_fixed bytes child some q pod m h =
    let value : roll-Pod (scalar bytes child q) ≡ pod = ap roll-Pod (scalar_found bytes child q (out-Pod pod) h.1) ∙ roll-out-Pod pod in
    (ap (λ (x : Pod). Ok (x, q + child_size child)) value ∙ ap (λ (n : ℕ). Ok (pod, n)) (sym h.0), omega (arith, h.0))

whole_four : (a b e : ℕ) → b ≡ a + 4 → b ≤ e → (e - b) % 4 ≡ 0 → (e - a) % 4 ≡ 0
whole_four a b e s l h = omega arith

whole_eight : (a b e : ℕ) → b ≡ a + 8 → b ≤ e → (e - b) % 8 ≡ 0 → (e - a) % 8 ≡ 0
whole_eight a b e s l h = omega arith

-- whole elements fill what they are in
pub elements_whole : (bytes : List ℕ) (child : ℕ) → 0 < child_size child → (p : ℕ) (pods : List Pod) (e : ℕ)
    → AreAfter (IsElementAt bytes child) p pods e → (e - p) % child_size child ≡ 0
elements_whole bytes child some p [] e h =
    elim (four_or_eight child some) [
      | inl four ↦ subst (λ (n : ℕ). (e - p) % n ≡ 0) (sym four) (omega (arith, h))
      | inr eight ↦ subst (λ (n : ℕ). (e - p) % n ≡ 0) (sym eight) (omega (arith, h))
    ]
elements_whole bytes child some p (x ∷ xs) e h =
    let rest = elements_whole bytes child some h.0 xs e h.2 in
    let r = reaches (IsElementAt bytes child) (element_step bytes child) (element_fixed bytes child some) h.0 xs e h.2 in
    elim (four_or_eight child some) [
      | inl four ↦
          subst (λ (n : ℕ). (e - p) % n ≡ 0) (sym four)
          (whole_four p h.0 e (omega (arith, h.1.0, four)) r (subst (λ (n : ℕ). (e - h.0) % n ≡ 0) four rest))
      | inr eight ↦
          subst (λ (n : ℕ). (e - p) % n ≡ 0) (sym eight)
          (whole_eight p h.0 e (omega (arith, h.1.0, eight)) r (subst (λ (n : ℕ). (e - h.0) % n ≡ 0) eight rest))
    ]

pub kind_found : (kind : ChoiceKind) (n : ℕ) → choice_number kind ≡ n → kind_of n ≡ kind
kind_found k.None n h = rw (← h) refl
kind_found k.Range n h = rw (← h) refl
kind_found k.Step n h = rw (← h) refl
kind_found k.Enum n h = rw (← h) refl
kind_found k.Flags n h = rw (← h) refl

-- the children are the decoder's, and their checks hold
pub record AreChildren (bytes : List ℕ) (p c e child : ℕ) (values : List Pod) : Type 0 where
  pub one_child : child_of bytes c ≡ child
  pub all_values : values_of bytes c e ≡ values
  pub header : c + 8 ≤ e
  pub checks : first_failed (children_checks bytes p c e) ≡ None

checked_bare : (bytes : List ℕ) (p c e : ℕ) → is_bare bytes c ≡ true → e ≡ c + 8 → first_failed (children_checks bytes p c e) ≡ None
checked_bare bytes p c e bare end = rw (bare, end, eq-eqb (c + 8) (c + 8) refl) refl

checked_full : (bytes : List ℕ) (p c e child : ℕ) → is_bare bytes c ≡ false → 0 < child_size child → u32_at bytes c ≡ child_size child
    → u32_at bytes (c + 4) ≡ child → (e - (c + 8)) % child_size child ≡ 0
    → first_failed (children_checks bytes p c e) ≡ None
checked_full bytes p c e child bare some size t whole =
    rw (bare, t, size, ne_eqb (child_size child) 0 (λ z. omega arith), eq-eqb (child_size child) (child_size child) refl, whole) refl

pub children_found : (bytes : List ℕ) (p c e child : ℕ) (values : List Pod) → HasChildren bytes c e child values
    → AreChildren bytes p c e child values
children_found bytes p c e child values (inl n) =
    let bare : is_bare bytes c ≡ true = and_from (u32_at bytes c == 0) (nat_le (u32_at bytes (c + 4)) 1)
    (eq-eqb (u32_at bytes c) 0 n.header.0) (le-leb (u32_at bytes (c + 4)) 1 n.header.1) in
    record {
      one_child = rw (bare, n.type_one) refl;
      all_values = rw (bare, n.none) refl;
      header = omega (arith, n.end);
      checks = checked_bare bytes p c e bare n.end;
    }
children_found bytes p c e child values (inr s) =
    let some = s.allowed in
    let bare : is_bare bytes c ≡ false = and_left (u32_at bytes c == 0) (nat_le (u32_at bytes (c + 4)) 1)
    (ne_eqb (u32_at bytes c) 0 (λ z. omega (arith, s.header.0, some))) in
    let fixed = element_fixed bytes child some in
    let r = reaches (IsElementAt bytes child) (element_step bytes child) fixed (c + 8) values e s.elements in
    let all = run_found (IsElementAt bytes child) (element_step bytes child) fixed e (c + 8) e values s.elements (omega arith) in
    record {
      one_child = rw (bare, s.header.1) refl;
      all_values = rw bare (ap (λ (t : ℕ). list_of (run (element_step bytes t) e (c + 8) e)) s.header.1 ∙ ap list_of all);
      header = r;
      checks = checked_full bytes p c e child bare some s.header.0 s.header.1 (elements_whole bytes child some (c + 8) values e s.elements);
    }
