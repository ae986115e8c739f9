-- Laws of `specs/CycleRoom.antt`: lines one by one.
use Rattle.std.proofs.Common.{◌≡◌, ℕ, zero, suc, ◌+◌, ◌-◌, ◌<◌, ◌≤◌, Bool, true, false, cond, List, [], ◌∷◌, take, filter, length, refl, ap, ◌∙◌, arith}
use Rattle.fault_messages.specs.Makers.{is_maker}
use Rattle.fault_messages.specs.CycleRoom.{nodes_made, counted}

-- a first line counts where it makes a node
made_first : (line : List ℕ) (lines : List (List ℕ)) (count : ℕ)
    → count + nodes_made (line ∷ lines) ≡ counted line count + nodes_made lines
made_first line lines count = by (is_maker line) where
  by : (b : Bool) → count + length (cond b (line ∷ filter is_maker lines) (filter is_maker lines))
      ≡ cond b (count + 1) count + length (filter is_maker lines)
  by true = let p : count + suc (length (filter is_maker lines)) ≡ count + 1 + length (filter is_maker lines) = omega arith in p
  by false = refl

pub counted_few : (line : List ℕ) (count : ℕ) → counted line count ≤ count + 1
counted_few line count = by (is_maker line) where
  by : (b : Bool) → cond b (count + 1) count ≤ count + 1
  by true = let p : count + 1 ≤ count + 1 = omega arith in p
  by false = let p : count ≤ count + 1 = omega arith in p

-- the count goes on by the first line
pub more_made : (n k count : ℕ) (line : List ℕ) (all lines : List (List ℕ)) → k < n
    → all ≡ line ∷ lines → count + nodes_made (take (n - k) all)
    ≡ counted line count + nodes_made (take (n - (k + 1)) lines)
more_made n k count line all lines less e =
    let m : n - k ≡ suc (n - (k + 1)) = omega (arith, less) in
    ap (λ j. count + nodes_made (take j all)) m
    ∙ (ap (λ ls. count + nodes_made (take (suc (n - (k + 1))) ls)) e
    ∙ made_first line (take (n - (k + 1)) lines) count)

-- and ends with the last
none_left : (j : ℕ) → nodes_made (take j []) ≡ 0
none_left zero = refl
none_left (suc j) = refl

pub last_made : (n k count : ℕ) (line : List ℕ) (all : List (List ℕ)) → k < n
    → all ≡ line ∷ [] → counted line count ≡ count + nodes_made (take (n - k) all)
last_made n k count line all less e =
    let whole = more_made n k count line all [] less e in
    let none = none_left (n - (k + 1)) in omega (arith, whole, none)
