-- The statuses of a program, as far as the frame reads and makes them. Source: this project's own.
use Rattle.std.specs.Prelude.{ℕ, List}
use Rattle.command_frame.specs.declared.ending.End.{End}

pub record Statuses (S : Type 0) : Type 0 where
  -- what a status is to the frame, and its line, which is empty where it has none
  pub means : S → End
  pub line : S → List ℕ
  -- those that the frame makes, by the index of a word or by a place
  pub done : S
  pub usage : ℕ → S
  pub absent : ℕ → S
  pub read_fault : ℕ → S
  pub store_fault : ℕ → S
  pub put_fault : S
  pub memory : S
