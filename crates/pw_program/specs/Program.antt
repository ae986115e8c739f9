-- What the program does with the words of its command line: the answer of its run, and a sentence
-- or notes on the error output. Source: this project's own.
use Rattle.std.specs.Prelude.{◌≡◌, ℕ, List, Option, Result}
use Rattle.pw_outside.specs.declared.files.FileFail.{FileFail}
use Rattle.command_frame.specs.FaultCauses.{Caused, IsUsage}
use Rattle.command_frame.specs.Outside.{Outside}
use Rattle.command_frame.specs.Words.{Words}
use Rattle.program_exit.specs.Said.{ErrorOutput, IsSaid}
use Rattle.run_results.specs.declared.found.Found.{Found}
use Rattle.run_results.specs.declared.status.Status.{Status}
use Rattle.run_results.specs.StatusNumbers.{status_number}
use Rattle.run_results.specs.Statuses.{statuses}
use Rattle.pw_top.specs.Found.{IsFound}
use Rattle.pw_top.specs.Headline.{IsTold}
use Rattle.pw_top.specs.Playing.{Happened}
use Rattle.pw_top.specs.Usage.{command_of, ticks_in}
use Rattle.pw_top.specs.WorkFound.{IsWorkFound}
use Rattle.fault_messages.specs.Explaining.{explained}
use Rattle.system_files.specs.declared.why.FileWhy.{FileWhy}
use Rattle.pw_program.specs.declared.asking.Asked.{Asked}
use Rattle.pw_program.specs.Asking.{period_of, checks_of}

-- some run happened between these two counts of its ticker, of which this is told: there is an
-- answer that files, output and status follow
pub record IsToldOf (words : Words) (before now : Outside) (checks checks_now : ℕ)
    (status : Status) : Type 0 where
  pub happened : Happened
  pub from : happened.before ≡ checks
  pub to : happened.now ≡ checks_now
  pub told : IsTold words before now happened status

-- THE SENTENCE of a status, or the notes, by the words, by why a file was refused, and by what the
-- run found: the script that was stored under its name before the run, and the work that files and
-- output followed
pub record IsSentence (words : Words) (before now : Outside) (why : Option FileWhy)
    (status : Status) (sentence : List ℕ) : Type 0 where
  pub found : Found
  pub is_found : IsFound words before.held status found
  pub work : IsWorkFound status before.held now.held before.given now.given found.work
  pub said : sentence ≡ explained status found why words

-- it was put
pub record HasSaid (words : Words) (before now : Outside) (why : Option FileWhy) (status : Status)
    (errors errors_now : ErrorOutput) (answer : Result (Unit {0}) FileFail) : Type 0 where
  pub sentence : List ℕ
  pub is_sentence : IsSentence words before now why status sentence
  pub said : IsSaid sentence errors errors_now answer

-- A RUN with a status: the answer of the top call, the ticker that the words ask for, the causes,
-- the number, and the sentence
pub record HasRun (words : Words) (before now : Outside) (why : Option FileWhy)
    (ticker : Asked) (code : ℕ) (status : Status) (sentence : List ℕ) : Type 0 where
  pub told : IsToldOf words before now 0 (checks_of ticker) status
  pub asked : period_of ticker ≡ ticks_in (command_of words)
  pub cause : Caused statuses before now status
  pub usage : IsUsage statuses (command_of words) status
  pub code_of : code ≡ status_number status
  pub sentence_of : IsSentence words before now why status sentence
