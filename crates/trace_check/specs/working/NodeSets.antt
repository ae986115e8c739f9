-- Sets of node numbers, as bits of a word of 64. Source: this project's.
use Rattle.std.specs.Prelude.{◌≡◌, ℕ, ◌<◌, ◌⊎◌, ◌↔◌, IsBitSet}

-- each node of one is in the other
abbrev pub IsWithin : ℕ → ℕ → Type 0
IsWithin set other = (n : ℕ) → n < 64 → IsBitSet set n → IsBitSet other n

-- no node of one is in the other
abbrev pub AreApart : ℕ → ℕ → Type 0
AreApart set other = (n : ℕ) → n < 64 → IsBitSet set n → ¬ IsBitSet other n

-- the nodes of the new set are those of the old one and this one
abbrev pub Gains : ℕ → ℕ → ℕ → Type 0
Gains old node new = (n : ℕ) → n < 64 → IsBitSet new n ↔ (IsBitSet old n ⊎ (n ≡ node))

-- the nodes of the new set are those of the old one but for this one
abbrev pub Loses : ℕ → ℕ → ℕ → Type 0
Loses old node new = (n : ℕ) → n < 64 → IsBitSet new n ↔ (IsBitSet old n × ¬ (n ≡ node))

-- the nodes of the new set are those of one set that are not in the other
abbrev pub IsDifference : ℕ → ℕ → ℕ → Type 0
IsDifference set other new = (n : ℕ) → n < 64
    → IsBitSet new n ↔ (IsBitSet set n × ¬ IsBitSet other n)

-- the first node of a set that is not in another
pub record IsFirstOutside (set other n : ℕ) : Type 0 where
  pub small : n < 64
  pub inside : IsBitSet set n
  pub outside : ¬ IsBitSet other n
  pub first : (m : ℕ) → m < n → IsBitSet set m → IsBitSet other m
