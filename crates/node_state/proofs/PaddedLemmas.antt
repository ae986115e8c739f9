-- Padded: lists followed by as much silence as is asked for.
use Rattle.std.proofs.Common.{◌≡◌, ℕ, zero, suc, ◌+◌, ◌-◌, ◌≤◌, ◌∙◌, min, List, [], ◌∷◌, ◌++◌, length, take, drop}
use Rattle.std.proofs.Common.{replicate, refl, sym, ap, ap₂, arith, drop_of_length-le, inl, inr}
use Rattle.std.proofs.lemmas.Grind.{common_steps}
use Rattle.std.proofs.lemmas.List.{take_all, drop-take}
use Rattle.std.proofs.lemmas.Bool.{cases_lt}
use Rattle.std.proofs.Math.Seq.{drop-length}
use Rattle.node_state.proofs.RowLemmas.{replicate_front}

-- more than is asked for changes nothing
pub padded_alike : {X : Type 0} (w : List X) (m j l : ℕ) (z : X) → m ≤ j → m ≤ l → take m (w ++ replicate j z) ≡ take m (w ++ replicate l z)
padded_alike [] m j l z h g = replicate_front m j z h ∙ sym (replicate_front m l z g)
padded_alike (x ∷ w) zero j l z h g = refl
padded_alike (x ∷ w) (suc m) j l z h g = ap (λ t. x ∷ t) (padded_alike w m j l z (omega (arith, h)) (omega (arith, g)))

-- nor does a longer list
cut_alike : {X : Type 0} (w : List X) (m k : ℕ) (z : X) → m ≤ k → take m (take k w ++ replicate m z) ≡ take m (w ++ replicate m z)
cut_alike [] m k z h = ap (λ t. take m (t ++ replicate m z)) (take_all k [] (omega arith))
cut_alike (x ∷ w) zero k z h = refl
cut_alike (x ∷ w) (suc m) zero z h = absurd (omega (arith, h))
cut_alike (x ∷ w) (suc m) (suc k) z h =
    ap (λ t. x ∷ t) (
    padded_alike (take k w) m (suc m) m z (omega arith) (omega arith) ∙ cut_alike w m k z (omega (arith, h))
    ∙ padded_alike w m m (suc m) z (omega arith) (omega arith))

replicate_more : {X : Type 0} (n m : ℕ) (z : X) → replicate (n + m) z ≡ replicate n z ++ replicate m z
replicate_more zero m z = ap (λ k. replicate k z) zero_plus
  where
    zero_plus : zero + m ≡ m
    zero_plus = omega arith
replicate_more (suc n) m z =
    let next : suc n + m ≡ suc (n + m) = omega arith in
    ap (λ k. replicate k z) next ∙ ap (λ t. z ∷ t) (replicate_more n m z)

-- the next samples are after the first
pub padded_more : {X : Type 0} (w : List X) (n m i j l : ℕ) (z : X) → n ≤ i → n + m ≤ j → m ≤ l
    → take (n + m) (w ++ replicate j z) ≡ take n (w ++ replicate i z) ++ take m (drop n w ++ replicate l z)
padded_more w zero m i j l z h g e =
    let sum : zero + m ≡ m = omega arith in
    ap (λ k. take k (w ++ replicate j z)) sum ∙ padded_alike w m j l z (omega (arith, g)) e
padded_more [] (suc n) m i j l z h g e =
    replicate_front (suc n + m) j z g ∙ replicate_more (suc n) m z
    ∙ sym (ap₂ (λ x y. x ++ y) (replicate_front (suc n) i z h) (replicate_front m l z e))
padded_more (x ∷ w) (suc n) m i j l z h g e =
    let next : suc n + m ≡ suc (n + m) = omega arith in
    ap (λ k. take k (x ∷ (w ++ replicate j z))) next
    ∙ ap (λ t. x ∷ t) (padded_alike w (n + m) j (n + m) z (omega (arith, g)) (omega arith)
    ∙ padded_more w n m n (n + m) l z (omega arith) (omega arith) e)
    ∙ ap (λ t. x ∷ (t ++ take m (drop n w ++ replicate l z))) (padded_alike w n n i z (omega arith) (omega (arith, h)))

-- a copy of the front of a list gives the same as the list
pub copy_alike : {X : Type 0} (w : List X) (n m whole given : ℕ) (z : X) → n + m ≤ whole → given ≡ min n (length (take whole w))
    → take m (drop given (take whole w) ++ replicate m z) ≡ take m (drop n w ++ replicate m z)
copy_alike w n m whole given z h e = elim (cases_lt n (length w)) [
  | inl g ↦
      let at : given ≡ n = grind (arith, common_steps, g, h, e) in
      let rest : whole ≡ n + (whole - n) = omega (arith, h) in
      ap (λ k. take m (drop k (take whole w) ++ replicate m z)) at
      ∙ ap (λ k. take m (drop n (take k w) ++ replicate m z)) rest
      ∙ ap (λ t. take m (t ++ replicate m z)) (drop-take n (whole - n) w)
      ∙ cut_alike (drop n w) m (whole - n) z (omega (arith, h))
  | inr g ↦
      let all : take whole w ≡ w = take_all whole w (omega (arith, g, h)) in
      let at : given ≡ length w = e ∙ ap (λ t. min n (length t)) all ∙ omega (arith, g) in
      ap₂ (λ k t. take m (drop k t ++ replicate m z)) at all
      ∙ ap (λ t. take m (t ++ replicate m z)) (drop-length w ∙ sym (drop_of_length-le w g))
]
