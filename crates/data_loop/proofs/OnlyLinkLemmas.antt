-- A node that reads only one link, at its first input.
use Rattle.std.proofs.Common.{◌≡◌, ℕ, ℤ, pos, ◌+ℤ◌, suc, zero, Bool, true, false, not, List, [], ◌∷◌, length, map, refl, sym, ap, ap₂, ◌∙◌, subst, arith}
use Rattle.std.specs.Prelude.{All, Some, replicate}
use Rattle.std.proofs.lemmas.Int.{ints}
use Rattle.std.proofs.lemmas.Option.{none-some, cond_some}
use Rattle.std.proofs.lemmas.List.Elements.{All-head, All-tail}
use Rattle.std.proofs.lemmas.Bool.{cond-true, cond-false}
use Rattle.pw_lists.specs.Samples.{summed}
use Rattle.board_rule.specs.declared.view.View.{View}
use Rattle.board_rule.specs.Layout.{BoardLayout}
use Rattle.io_areas.specs.Reading.{IsClamped}
use Rattle.data_loop.specs.declared.inputs.Input.{Input}
use Rattle.data_loop.specs.working.Inputs.{IsZero, links_of, only_link, row_of, first_rows, second_rows}

not_true : (b : Bool) → not b ≡ true → b ≡ false
not_true false e = refl
not_true true e = sym e

module _ (l : ℕ) where
  by_one : (C : List Input → Type 0) → ((i : Input) → i.second ≡ false → i.link ≡ l → C (i ∷ []))
      → (inputs : List Input) → only_link inputs ≡ Some l → C inputs
  by_one C h [] e = absurd (none-some l e)
  by_one C h (i ∷ []) e = let k = cond_some (not i.second) i.link l e in h i (not_true i.second k.0) k.1
  by_one C h (i ∷ j ∷ inputs) e = absurd (none-some l e)

  pub links_only : (inputs : List Input) → only_link inputs ≡ Some l → links_of inputs ≡ l ∷ []
  links_only = by_one (λ is. links_of is ≡ l ∷ []) (λ i s e. ap (λ n. n ∷ []) e)

  pub all_only : (P : ℕ → Type 0) (inputs : List Input) → only_link inputs ≡ Some l → All (λ (i : Input). P i.link) inputs → P l
  all_only P = by_one (λ is. All (λ (i : Input). P i.link) is → P l)
      (λ i s e h. subst P e (All-head (λ (x : Input). P x.link) i [] h))

  module _ (b : Bool) (p : BoardLayout) (v : View) where
    abbrev row : Input → List ℤ
    row i = row_of b p v i.link

    pub first_only : (inputs : List Input) → only_link inputs ≡ Some l → first_rows b p v inputs ≡ row_of b p v l ∷ []
    first_only = by_one (λ is. first_rows b p v is ≡ row_of b p v l ∷ [])
        (λ i s e. ap (map row) (cond-true (not i.second) (i ∷ []) [] (ap not s)) ∙ ap (λ n. row_of b p v n ∷ []) e)

    pub second_only : (inputs : List Input) → only_link inputs ≡ Some l → second_rows b p v inputs ≡ []
    second_only = by_one (λ is. second_rows b p v is ≡ [])
        (λ i s e. ap (map row) (cond-false i.second (i ∷ []) [] s))

-- on zeros a row stays as it is
pub zeros_summed : (zeros ys : List ℤ) → All IsZero zeros → length ys ≡ length zeros → summed zeros ys ≡ ys
zeros_summed [] [] z e = refl
zeros_summed [] (y ∷ ys) z e = absurd (omega (arith, e))
zeros_summed (x ∷ zeros) [] z e = absurd (omega (arith, e))
zeros_summed (x ∷ zeros) (y ∷ ys) z e = let o = All-head IsZero x zeros z in
    let s : x +ℤ y ≡ y = omega (arith, ints, o) in
    ap₂ (λ n ns. n ∷ ns) s (zeros_summed zeros ys (All-tail IsZero x zeros z) (omega (arith, e)))

pub silence_clamped : (n : ℕ) → IsClamped (replicate n (pos 0))
silence_clamped zero = refl
silence_clamped (suc n) = ap (λ xs. pos 0 ∷ xs) (silence_clamped n)
