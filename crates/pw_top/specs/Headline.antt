-- THE HEADLINE: the words have an answer, which is followed to its end, or as far as the status
-- says.
-- Source: this project's own.
use Rattle.std.specs.Prelude.{ℕ, IsSome}
use Rattle.pw_outside.specs.Files.{names_in}
use Rattle.command_frame.specs.Headline as frame
use Rattle.command_frame.specs.Headline.{Follows}
use Rattle.command_frame.specs.Outside.{Outside}
use Rattle.command_frame.specs.Words.{Words}
use Rattle.run_results.specs.declared.status.Status.{Status}
use Rattle.run_results.specs.Statuses.{statuses}
use Rattle.pw_top.specs.declared.top.Report.{Report}
use Rattle.pw_top.specs.Answer.{Answer}
use Rattle.pw_top.specs.CommandLine.{IsAnswer}
use Rattle.pw_top.specs.Playing.{Happened, PlayFollows}

-- what a report says that happened, between two counts of the ticker
abbrev pub reported : Report → ℕ → ℕ → Happened
reported report before now = record {
  history = report.history;
  closed = report.closed;
  before = before;
  now = now;
}

-- REPORTED: where the files report what they hold, there is an answer that is expected of the
-- words, by what happened and by what is held; files, output and status follow it; and so does the
-- run
abbrev pub IsTold : Words → Outside → Outside → Happened → Status → Type 0
IsTold words before now h status = IsSome before.held → (a : Answer)
    × IsAnswer words h (names_in before.held) a
    × Follows statuses a before now status
    × PlayFollows a.outcome h status

-- COMPLETE: where no fault was counted, the status is no fault's; and where besides the files
-- report what they hold, it is that of an expected answer, or memory was short
abbrev pub IsComplete : Words → Outside → Outside → Happened → Status → Type 0
IsComplete words before now h status =
    frame.IsComplete statuses (IsAnswer words h) before now status
