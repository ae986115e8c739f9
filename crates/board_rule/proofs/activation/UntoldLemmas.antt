-- Laws of the count of `specs/Left.antt` over plain lists: its value at the start, its fall by one, and where it stays.
use Rattle.std.proofs.Common.{◌≡◌, ◌≢◌, ℕ, zero, suc, ◌+◌, ◌<◌, Bool, true, false, cond, List, [], ◌∷◌, take, length, get_or, set}
use Rattle.std.proofs.Common.{refl, sym, ap, ◌∙◌, arith, get_or-set_same, get_or-set_other}
use Rattle.std.specs.Prelude.{Contains}
use Rattle.std.specs.List.Sorted.{IsStrictlyIncreasing}
use mathlib.Core.Logic.{dite}
use native.Mathlib.Decide.{dec_le}
use Rattle.std.proofs.lemmas.List.{take_more, get_or_default}
use Rattle.board_rule.specs.activation.Left.{left_of, untold}
use Rattle.board_rule.proofs.activation.LeftLemmas.{left_of-append}
use Rattle.board_rule.proofs.events.SoundLemmas.{rises}

pub all_left : (xs : List ℕ) → length xs ≡ left_of (λ _. 1) xs
all_left [] = refl
all_left (x ∷ xs) = let a = all_left xs in omega arith

-- one dependency more of the list
pub left_more : (f : ℕ → ℕ) (xs : List ℕ) (i : ℕ) → i < length xs → left_of f (take (i + 1) xs) ≡ left_of f (take i xs) + f (get_or xs i 0)
left_more f xs i h = ap (left_of f) (take_more xs i 0 h) ∙ left_of-append f (take i xs) (get_or xs i 0 ∷ [])
    ∙ (let e : left_of f (take i xs) + (f (get_or xs i 0) + 0) ≡ left_of f (take i xs) + f (get_or xs i 0) = omega arith in e)

left_same : (f g : ℕ → ℕ) (m : ℕ) (xs : List ℕ) → ((i : ℕ) → i ≢ m → g i ≡ f i) → ((k : ℕ) → k < length xs → get_or xs k 0 ≢ m)
    → left_of g xs ≡ left_of f xs
left_same f g m [] same o = refl
left_same f g m (x ∷ xs) same o = let a = left_same f g m xs same (λ k h. o (suc k) (omega arith)) in let b = same x (o 0 (omega arith)) in
    omega arith

left_falls : (f g : ℕ → ℕ) (m j : ℕ) (xs : List ℕ) → ((i : ℕ) → i ≢ m → g i ≡ f i) → f m ≡ 1 → g m ≡ 0 → j < length xs
    → get_or xs j 0 ≡ m → ((k : ℕ) → k < length xs → k ≢ j → get_or xs k 0 ≢ m) → left_of f xs ≡ left_of g xs + 1
left_falls f g m j [] same one none h e o = absurd (omega arith)
left_falls f g m zero (x ∷ xs) same one none h e o = let a = left_same f g m xs same (λ k l. o (suc k) (omega arith) (λ z. omega arith)) in
    let b : f x ≡ 1 = ap f e ∙ one in let c : g x ≡ 0 = ap g e ∙ none in omega arith
left_falls f g m (suc j) (x ∷ xs) same one none h e o = let a =
    left_falls f g m j xs same one none (omega arith) e (λ k l q. o (suc k) (omega arith) (λ z. q (omega arith))) in
    let b = same x (o 0 (omega arith) (λ z. omega arith)) in omega arith

distinct : (xs : List ℕ) → IsStrictlyIncreasing xs → (k j : ℕ) → k < length xs → j < length xs → k ≢ j → get_or xs k 0 ≢ get_or xs j 0
distinct xs up k j hk hj o e = dite (dec_le j k) (λ l. let r = rises xs up j k (omega arith) hk in omega arith)
    (λ l. let r = rises xs up k j (omega arith) hj in omega arith)

module _ (xs : List ℕ) (told : List Bool) (m : ℕ) where
  same : (i : ℕ) → i ≢ m → untold (set told m true) i ≡ untold told i
  same i o = ap (λ b. cond b 0 1) (get_or-set_other told m i true false o)

  pub tell_falls : IsStrictlyIncreasing xs → m < length told → get_or told m false ≡ false → Contains xs m
      → left_of (untold told) xs ≡ left_of (untold (set told m true)) xs + 1
  tell_falls up inside first c = let j = c.0 in let at : get_or xs j 0 ≡ m = get_or_default xs j 0 m c.1 ∙ c.2 in
      left_falls (untold told) (untold (set told m true)) m j xs same (ap (λ b. cond {A = ℕ} b 0 1) first)
      (ap (λ b. cond {A = ℕ} b 0 1) (get_or-set_same told m true false inside)) c.1 at
      (λ k h o e. distinct xs up k j h c.1 o (e ∙ sym at))

  pub tell_stays : (Contains xs m → ⊥) → left_of (untold (set told m true)) xs ≡ left_of (untold told) xs
  tell_stays o = left_same (untold told) (untold (set told m true)) m xs same (λ k h e. o (k, h, get_or_default xs k m 0 h ∙ e))
