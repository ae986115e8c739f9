-- Members of a run by what became of them: those that were held, and what the others gave back.
-- Source: this project's own.
use Rattle.std.specs.Prelude.{◌≡◌, ◌⊎◌, Bool, true, false, List, [], ◌∷◌}

-- EACH MEMBER was held, or ran in a thread and gave something back: which, the first list says. All
-- lists are in the order of the members
abbrev pub AreDealt : {M B : Type 0} → (M → B → Type 0) → List M → List Bool → List M → List B
    → Type 0
AreDealt R [] kept held backs = (kept ≡ []) × (held ≡ []) × (backs ≡ [])
AreDealt {M} {B} R (m ∷ ms) kept held backs =
    ((flags : List Bool) × (rest : List M) × (kept ≡ true ∷ flags) × (held ≡ m ∷ rest)
    × AreDealt R ms flags rest backs)
    ⊎ ((flags : List Bool) × (b : B) × (rest : List B) × (kept ≡ false ∷ flags)
    × (backs ≡ b ∷ rest) × R m b × AreDealt R ms flags held rest)
