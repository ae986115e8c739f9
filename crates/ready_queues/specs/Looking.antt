-- Looking: how long a thread looks whether it is called before it rests.
-- Source: this project's own; the pause between looks is that of spin locks.
use Rattle.std.specs.Prelude.{◌≡◌, ◌⊎◌, ℕ}

-- the spins of a look
abbrev pub spins_limit : ℕ
spins_limit = 256

-- a look in vain spins to the end, or not at all
abbrev pub IsInVain : ℕ → Type 0
IsInVain spins = (spins ≡ spins_limit) ⊎ (spins ≡ 0)
