-- Sums of rows.
use Rattle.std.proofs.Common.{◌≡◌, ℕ, ℤ, pos, zero, suc, ◌+◌, ◌≤◌, Bool, true, false, not, List, [], ◌∷◌, ◌++◌, map, filter, fold}
use Rattle.std.proofs.Common.{refl, ap, ◌∙◌, arith, append-nil}
use Rattle.std.specs.Prelude.{All, replicate}
use Rattle.std.proofs.lemmas.Int.{ints}
use Rattle.std.proofs.lemmas.List.{map-append}
use Rattle.std.proofs.lemmas.List.Elements.{All-cons, All-nil, filter-append}
use Rattle.std.proofs.lemmas.Bool.{cond-true, cond-false}
use Rattle.pw_lists.specs.Samples.{summed}
use Rattle.s16_mixer.specs.Ranges.{HasRoom, IsWithin}
use Rattle.board_rule.specs.declared.view.View.{View}
use Rattle.board_rule.specs.declared.view.ReadView.{ReadView}
use Rattle.board_rule.specs.Layout.{BoardLayout}
use Rattle.data_loop.specs.declared.inputs.Input.{Input}
use Rattle.data_loop.specs.working.Inputs.{IsZero, row_of, first_rows, second_rows}

pub within_on : (n : ℕ) (xs : List ℤ) → All (IsWithin n) xs → All (IsWithin (n + 1)) xs
within_on n xs a k d low = let h = a k d low in (omega (arith, ints, h.0), omega (arith, ints, h.1))

-- sums of few samples have room for one more
pub room_left : (n : ℕ) (xs : List ℤ) → n ≤ 255 → All (IsWithin n) xs → All HasRoom xs
room_left n xs few a k d low = let h = a k d low in (omega (arith, ints, h.0, few), omega (arith, ints, h.1, few))

pub zeros_within : (xs : List ℤ) → All IsZero xs → All (IsWithin 0) xs
zeros_within xs z k d low = let h = z k d low in (omega (arith, ints, h), omega (arith, ints, h))

pub all_zeros : (n : ℕ) → All IsZero (replicate n (pos 0))
all_zeros zero = All-nil IsZero
all_zeros (suc n) = All-cons IsZero (pos 0) (replicate n (pos 0)) refl (all_zeros n)

pub fold_more : (s : List ℤ) (rows : List (List ℤ)) (r : List ℤ) → fold summed s (rows ++ r ∷ []) ≡ summed (fold summed s rows) r
fold_more s [] r = refl
fold_more s (x ∷ rows) r = fold_more (summed s x) rows r

-- the view after other ends reads the same rows
pub row_same : (b : Bool) (p : BoardLayout) (v : View) (rs : List ReadView) (hs : List ℕ) (l : ℕ)
    → row_of b p (record v { reads = rs; words_read = hs }) l ≡ row_of b p v l
row_same true p v rs hs l = refl
row_same false p v rs hs l = refl

module _ (b : Bool) (p : BoardLayout) (v : View) (xs : List Input) (x : Input) where
  abbrev row : Input → List ℤ
  row i = row_of b p v i.link

  pub first_on : x.second ≡ false → first_rows b p v (xs ++ x ∷ []) ≡ first_rows b p v xs ++ row x ∷ []
  first_on e = ap (map row) (filter-append (λ i. not i.second) xs (x ∷ []))
      ∙ map-append row (filter (λ i. not i.second) xs) (filter (λ i. not i.second) (x ∷ []))
      ∙ ap (λ l. first_rows b p v xs ++ map row l) (cond-true (not x.second) (x ∷ []) [] (ap not e))

  pub first_off : x.second ≡ true → first_rows b p v (xs ++ x ∷ []) ≡ first_rows b p v xs
  first_off e = ap (map row) (filter-append (λ i. not i.second) xs (x ∷ []))
      ∙ map-append row (filter (λ i. not i.second) xs) (filter (λ i. not i.second) (x ∷ []))
      ∙ ap (λ l. first_rows b p v xs ++ map row l) (cond-false (not x.second) (x ∷ []) [] (ap not e))
      ∙ append-nil (first_rows b p v xs)

  pub second_on : x.second ≡ true → second_rows b p v (xs ++ x ∷ []) ≡ second_rows b p v xs ++ row x ∷ []
  second_on e = ap (map row) (filter-append (λ i. i.second) xs (x ∷ []))
      ∙ map-append row (filter (λ i. i.second) xs) (filter (λ i. i.second) (x ∷ []))
      ∙ ap (λ l. second_rows b p v xs ++ map row l) (cond-true x.second (x ∷ []) [] e)

  pub second_off : x.second ≡ false → second_rows b p v (xs ++ x ∷ []) ≡ second_rows b p v xs
  second_off e = ap (map row) (filter-append (λ i. i.second) xs (x ∷ []))
      ∙ map-append row (filter (λ i. i.second) xs) (filter (λ i. i.second) (x ∷ []))
      ∙ ap (λ l. second_rows b p v xs ++ map row l) (cond-false x.second (x ∷ []) [] e)
      ∙ append-nil (second_rows b p v xs)
