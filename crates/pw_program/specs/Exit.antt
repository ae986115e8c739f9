-- What the program has done with the words of its command line, and what it says of words that it
-- could not read. Source: this project's own.
use Rattle.std.specs.Prelude.{ℕ, List, Option, Some, None}
use Rattle.command_frame.specs.Outside.{Outside}
use Rattle.command_frame.specs.Words.{Words}
use Rattle.fault_messages.specs.Message.{words_message}
use Rattle.run_results.specs.declared.status.Status.{Status}
use Rattle.system_files.specs.declared.unread.Unread.{Unread}
use Rattle.system_files.specs.declared.unread.Unread.TheVariants as U
use Rattle.system_files.specs.declared.why.FileWhy.{FileWhy}
use Rattle.pw_program.specs.declared.asking.Asked.{Asked}
use Rattle.pw_program.specs.Program.{HasRun}

-- DONE: the number is that of a status, which files and output follow; the run had the checks of
-- the ticker that the words ask for; and the sentence is that of the status and of what was found
pub record HasDone (words : Words) (before now : Outside) (why : Option FileWhy) (ticker : Asked)
    (code : ℕ) (sentence : List ℕ) : Type 0 where
  pub status : Status
  pub run : HasRun words before now why ticker code status sentence

-- the word at fault, where one is no text
abbrev pub word_in : Unread → Option ℕ
word_in (U.NoText word) = Some word
word_in U.Memory = None

-- their sentence
abbrev pub refusal : Unread → List ℕ
refusal unread = words_message (word_in unread)
