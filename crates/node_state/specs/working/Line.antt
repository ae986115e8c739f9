-- Line: what a delay keeps, oldest sample first.
-- Source: this project's node states.
use Rattle.std.specs.Prelude.{ℕ, List, ℤ, ◌++◌, take, drop, refl}
use Rattle.std.specs.Coded.{Coded, code_by, coded×, coded_list, coded_ℕ, coded_ℤ}

-- a delay of `frames` frames, how many frames its line has, the samples that were received and not
-- given, and how many it has room for
pub record Line : Type 0 where
  pub frames : ℕ
  pub long : ℕ
  pub samples : List ℤ
  pub room : ℕ

-- it is stored as the tuple of its fields
abbrev pub line_code : Coded Line
line_code =
    code_by (ℕ × (ℕ × (List ℤ × ℕ)))
    (coded× coded_ℕ (coded× coded_ℕ (coded× (coded_list coded_ℤ) coded_ℕ)))
    (λ l. (l.frames, (l.long, (l.samples, l.room))))
    (λ p. record { frames = p.0; long = p.1.0; samples = p.1.1.0; room = p.1.1.1 }) (λ _. refl)

-- a ring read from one place round to it
abbrev pub turned : {X : Type 0} → ℕ → List X → List X
turned oldest ring = drop oldest ring ++ take oldest ring
