-- How a program ends, by the words that were read of its command line, or by why they were not.
-- Source: this project's own.
use Rattle.std.specs.Prelude.{◌≡◌, ℕ, List, Result}
use Rattle.pw_outside.specs.declared.files.FileFail.{FileFail}
use Rattle.command_frame.specs.Outside.{Outside}
use Rattle.system_files.specs.declared.unread.Unread.{Unread}
use Rattle.system_files.specs.Unread.{unread_number}
use Rattle.program_exit.specs.Said.{ErrorOutput, IsSaid}

-- OF WORDS THAT WERE READ: a sentence that says what was done is put on the error output
pub record HasEnded (Says : List ℕ → Type 0) (errors errors_now : ErrorOutput)
    (said : Result (Unit {0}) FileFail) : Type 0 where
  pub sentence : List ℕ
  pub says : Says sentence
  pub said_of : IsSaid sentence errors errors_now said

-- OF WORDS THAT WERE NOT READ: their sentence is put on the error output, nothing is loaded, stored
-- or put, and the number is theirs
pub record HasRefused (refusal : Unread → List ℕ) (unread : Unread) (before now : Outside)
    (code : ℕ) (errors errors_now : ErrorOutput) (said : Result (Unit {0}) FileFail)
    : Type 0 where
  pub code_of : code ≡ unread_number unread
  pub same : now ≡ before
  pub said_of : IsSaid (refusal unread) errors errors_now said
