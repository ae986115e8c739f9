-- Bytes that are read one by one.
use Rattle.std.proofs.Common.{◌≡◌, ℕ, List, [], ◌∷◌, ◌++◌, refl, sym, ap, append_assoc, append-nil}
use Rattle.std.specs.Prelude.{Option, Some, None, option_map}

-- what is still to come, after what was read
abbrev pub behind : List ℕ → Option (List ℕ) → Option (List ℕ)
behind bytes rest = option_map (λ bs. bytes ++ bs) rest

pub behind_more : (bytes : List ℕ) (b : ℕ) (rest : Option (List ℕ))
    → behind bytes (option_map (λ bs. b ∷ bs) rest) ≡ behind (bytes ++ b ∷ []) rest
behind_more bytes b None = refl
behind_more bytes b (Some bs) = ap Some (sym (append_assoc bytes (b ∷ []) bs))

pub behind_none : (rest : Option (List ℕ)) → behind [] rest ≡ rest
behind_none None = refl
behind_none (Some bs) = refl

pub behind_all : (bytes : List ℕ) → behind bytes (Some []) ≡ Some bytes
behind_all bytes = ap Some (append-nil bytes)
