-- What the program has done with its words, and the sentence that it has for that.
-- Source: this project's own.
use Rattle.std.specs.Prelude.{◌≡◌, ℕ, List, Option}
use Rattle.command_frame.specs.FaultCauses.{Caused, IsUsage}
use Rattle.command_frame.specs.Headline.{IsTold, IsComplete}
use Rattle.command_frame.specs.Outside.{Outside}
use Rattle.command_frame.specs.Words.{Words}
use Rattle.system_files.specs.declared.why.FileWhy.{FileWhy}
use Rattle.pod_text.specs.declared.status.Status.{Status}
use Rattle.pod_text.specs.Answers.{IsAnswered}
use Rattle.pod_text.specs.Reports.{said_of}
use Rattle.pod_text.specs.Statuses.{status_number, statuses}
use Rattle.pod_text.specs.Words.{request_of}

-- MADE: the number is that of a status, which files and output follow, and the sentence is that of
-- the status, of a line that it names, and of the reason that the files tell
pub record HasMade (words : Words) (before now : Outside) (reason : Option FileWhy) (code : ℕ)
    (sentence : List ℕ) : Type 0 where
  pub status : Status
  pub line : List ℕ
  pub code_of : code ≡ status_number status
  pub told : IsTold statuses (IsAnswered words line) before now status
  pub cause : Caused statuses before now status
  pub usage : IsUsage statuses (request_of words) status
  pub complete : IsComplete statuses (IsAnswered words line) before now status
  pub sentence_of : sentence ≡ said_of status words line reason
