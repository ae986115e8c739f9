-- A call over objects that never fail: its answer is followed to its end, but for lack of memory.
-- Source: this project's own.
use Rattle.std.specs.Prelude.{◌≡◌, ◌⊎◌, ℕ, List, ◌++◌, take, Result, Ok, Err}
use Rattle.pw_outside.specs.Files.{Names}
use Rattle.run_results.specs.declared.status.Status.{Status}
use Rattle.run_results.specs.declared.status.Status.TheVariants as S
use Rattle.command_frame.specs.declared.work.Work.{Work}
use Rattle.command_frame.specs.Following.{stores_of, text_of}
use Rattle.command_frame.specs.Stores.{stored_all}
use Rattle.command_frame.specs.Words.{Words}
use Rattle.pw_top.specs.Answer.{Answer, status_of}
use Rattle.pw_top.specs.CommandLine.{IsAnswer}
use Rattle.pw_top.specs.Playing.{Happened, PlayFollows}
use Rattle.run_results.specs.StatusLine.{line_of}

-- what is given at the end: the text, or the line of a refusal
abbrev pub output_of : Result Work Status → List ℕ
output_of (Ok work) = work.text
output_of (Err status) = line_of status

-- all of the answer was done
pub record IsDone (a : Answer) (names names' : Names) (given given' : List ℕ) (status : Status)
    : Type 0 where
  pub status_is : status ≡ status_of a.outcome
  pub files : names' ≡ stored_all (stores_of a.outcome) names
  pub text : given' ≡ given ++ output_of a.outcome

-- after lack of memory: some stores from the first on, each whole, and a prefix of the text, then
-- nothing or the line of the status
pub record IsCutShort (a : Answer) (names names' : Names) (given given' : List ℕ) : Type 0 where
  pub stores : ℕ
  pub files : names' ≡ stored_all (take stores (stores_of a.outcome)) names
  pub kept : ℕ
  pub text : (given' ≡ given ++ take kept (text_of a.outcome))
      ⊎ (given' ≡ (given ++ take kept (text_of a.outcome)) ++ line_of S.Memory)

-- THE END: all was done, or memory was short
abbrev pub EndsSurely : Answer → Names → Names → List ℕ → List ℕ → Status → Type 0
EndsSurely a names names' given given' status =
    IsDone a names names' given given' status
    ⊎ ((status ≡ S.Memory) × IsCutShort a names names' given given')

-- REPORTED: there is an answer that is expected of the words, by what happened and by what is held;
-- all of it was done, or memory was short; and so was its run
abbrev pub IsToldSurely : Words → Names → Names → List ℕ → List ℕ → Happened
    → Status → Type 0
IsToldSurely words names names' given given' h status = (a : Answer)
    × IsAnswer words h names a
    × EndsSurely a names names' given given' status
    × PlayFollows a.outcome h status
