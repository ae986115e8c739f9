-- The sentence of what was done, where there was memory for it. Source: this project's own.
use Rattle.std.specs.Prelude.{◌≡◌, ℕ, List, Result, IfOk}
use Rattle.pw_lists.specs.declared.memory.Memory.{Memory}

-- there is a sentence that says what was done, which is the one that was made, or memory was short
pub record IsMade (Says : List ℕ → Type 0) (made : Result (List ℕ) Memory) : Type 0 where
  pub sentence : List ℕ
  pub says : Says sentence
  pub whole : IfOk made (λ text. text ≡ sentence)
