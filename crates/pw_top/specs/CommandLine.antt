-- The expected answer of a command line: that of its command, or the refusal of its words.
-- Source: this project's own; docs/FORMATS.md.
use Rattle.std.specs.Prelude.{◌≡◌, ℕ, Result, Ok, Err}
use Rattle.pw_outside.specs.Files.{Names}
use Rattle.run_results.specs.declared.status.Status.TheVariants as S
use Rattle.command_frame.specs.Answer.{refused}
use Rattle.command_frame.specs.Words.{Words}
use Rattle.pw_top.specs.declared.usage.CommandLine.{CommandLine}
use Rattle.pw_top.specs.declared.usage.CommandLine.TheVariants as C
use Rattle.pw_top.specs.Answer.{Answer}
use Rattle.pw_top.specs.Playing.{Happened, Idly}
use Rattle.pw_top.specs.Usage.{command_of}
use Rattle.pw_top.specs.Run.{IsRunAnswer}
use Rattle.pw_top.specs.Dump.{IsDumpAnswer}
use Rattle.pw_top.specs.Filter.{IsFilterAnswer}
use Rattle.pw_top.specs.Automate.{IsAutomateAnswer}
use Rattle.pw_top.specs.Check.{IsCheckAnswer}
use Rattle.pw_top.specs.Soak.{IsSoakAnswer}
use Rattle.pw_top.specs.GroupsWork.{IsGroupsAnswer}

-- what is an answer to a command
abbrev pub IsAnswerTo : CommandLine → Happened → Names → Answer → Type 0
IsAnswerTo (C.Run c) h names = IsRunAnswer c h names
IsAnswerTo (C.Dump c) h names = Idly (IsDumpAnswer names c.file) h
IsAnswerTo (C.Filter c) h names = Idly (IsFilterAnswer names c.a c.b c.out) h
IsAnswerTo (C.Automate c) h names = Idly (IsAutomateAnswer names c.input c.seq c.out) h
IsAnswerTo (C.Check c) h names = Idly (IsCheckAnswer names c.script c.trace) h
IsAnswerTo (C.Soak c) h names = IsSoakAnswer c.number h
IsAnswerTo (C.Groups c) h names = IsGroupsAnswer c h names

abbrev pub IsReadAnswer : Result CommandLine ℕ → Happened → Names → Answer → Type 0
IsReadAnswer (Ok command) h names a = IsAnswerTo command h names a
IsReadAnswer (Err word) h names a = a ≡ refused (S.Usage word)

-- AN EXPECTED ANSWER of a command line, by what happened in the call and by what the files hold
unfoldable pub IsAnswer : Words → Happened → Names → Answer → Type 0
IsAnswer words h names = IsReadAnswer (command_of words) h names
