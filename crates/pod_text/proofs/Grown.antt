-- A text that grew by parts, one after the other.
use Rattle.std.proofs.Common.{◌≡◌, ℕ, List, ◌++◌, ap, ◌∙◌, append_assoc}

pub grown_2 : (t0 t1 t2 a b : List ℕ) → t1 ≡ t0 ++ a → t2 ≡ t1 ++ b → t2 ≡ t0 ++ (a ++ b)
grown_2 t0 t1 t2 a b e1 e2 = e2 ∙ ap (λ (t : List ℕ). t ++ b) e1 ∙ append_assoc t0 a b

pub grown_3 : (t0 t1 t2 t3 a b c : List ℕ) → t1 ≡ t0 ++ a → t2 ≡ t1 ++ b → t3 ≡ t2 ++ c → t3 ≡ t0 ++ (a ++ (b ++ c))
grown_3 t0 t1 t2 t3 a b c e1 e2 e3 = grown_2 t0 t1 t3 a (b ++ c) e1 (grown_2 t1 t2 t3 b c e2 e3)

pub grown_4 : (t0 t1 t2 t3 t4 a b c d : List ℕ) → t1 ≡ t0 ++ a → t2 ≡ t1 ++ b → t3 ≡ t2 ++ c → t4 ≡ t3 ++ d
    → t4 ≡ t0 ++ (a ++ (b ++ (c ++ d)))
grown_4 t0 t1 t2 t3 t4 a b c d e1 e2 e3 e4 = grown_2 t0 t1 t4 a (b ++ (c ++ d)) e1 (grown_3 t1 t2 t3 t4 b c d e2 e3 e4)

-- the last part is one of what was put before
pub grown_within : (t0 t1 t2 a b c : List ℕ) → t1 ≡ t0 ++ (a ++ b) → t2 ≡ t1 ++ c → t2 ≡ t0 ++ (a ++ (b ++ c))
grown_within t0 t1 t2 a b c e1 e2 = grown_2 t0 t1 t2 (a ++ b) c e1 e2 ∙ ap (λ (t : List ℕ). t0 ++ t) (append_assoc a b c)
