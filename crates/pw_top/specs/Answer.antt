-- The expected answer of a command, at the statuses of `pipegraph`: the frame's.
-- Source: this project's own.
use Rattle.std.specs.Prelude.{Result}
use Rattle.command_frame.specs.declared.work.Work.{Work}
use Rattle.command_frame.specs.Answer as frame
use Rattle.command_frame.specs.Following as following
use Rattle.run_results.specs.declared.status.Status.{Status}
use Rattle.run_results.specs.declared.status.Status.TheVariants as S

-- what a part of a command does up to its end: the places of its loads, in order, and what it gives
-- or how it refuses
abbrev pub Expected : Type 0 → Type 0
Expected T = frame.Expected Status T

-- of a command: its loads; then, where it is not refused, its stores in order and its text
abbrev pub Answer : Type 0
Answer = frame.Answer Status

-- the status of an answer
abbrev pub status_of : Result Work Status → Status
status_of outcome = following.status_of S.Ok outcome
