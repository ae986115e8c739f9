-- What a call reports: how it ended, and the sentence of that. Source: this project's own.
use Rattle.std.specs.Prelude.{◌≡◌, ℕ, List, [], Option, IfOk}
use Rattle.command_frame.specs.Headline as frame
use Rattle.command_frame.specs.Outside.{Outside}
use Rattle.system_files.specs.declared.why.FileWhy.{FileWhy}
use Rattle.pod_text.specs.declared.status.Status.{Status}
use Rattle.pod_text.specs.declared.status.Status.TheVariants as S
use Rattle.pod_text.specs.declared.top.Report.{Report}
use Rattle.pod_text.specs.Answers.{IsAnswered}
use Rattle.pod_text.specs.Sentences.{sentence_of}
use Rattle.pod_text.specs.Statuses.{statuses}

-- the sentence of a status; none where all was done
abbrev pub said_of : Status → List (List ℕ) → List ℕ → Option FileWhy → List ℕ
said_of S.Ok words line reason = []
said_of status words line reason = sentence_of status words line reason

-- REPORTED: where the files report what they hold, an answer to the words is followed as far as
-- the status says; where no fault was counted, the status is the answer's, or memory was short;
-- and the sentence is that of the status, of the line that it names and of why a file was refused,
-- or memory was short for it
pub record IsReported (words : List (List ℕ)) (before now : Outside) (reason : Option FileWhy)
    (report : Report) : Type 0 where
  pub line : List ℕ
  pub told : frame.IsTold statuses (IsAnswered words line) before now report.status
  pub complete : frame.IsComplete statuses (IsAnswered words line) before now report.status
  pub said : IfOk report.sentence (λ text. text ≡ said_of report.status words line reason)
