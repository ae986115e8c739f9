-- How a part of a command ends, at the statuses of `pipegraph`: as the frame says.
-- Source: this project's own.
use Rattle.std.specs.Prelude.{ℕ, Result, All}
use Rattle.pw_outside.specs.Files.{Names, Held}
use Rattle.command_frame.specs.declared.work.Store.{Store}
use Rattle.command_frame.specs.declared.work.Work.{Work}
use Rattle.command_frame.specs.Ending as frame
use Rattle.command_frame.specs.Preparing as preparing
use Rattle.run_results.specs.declared.status.Status.{Status}
use Rattle.run_results.specs.Statuses.{statuses}
use Rattle.pw_top.specs.Answer.{Expected}

-- the result of a part is the end of an answer that is allowed
abbrev pub Ends : {T : Type 0} → (Expected T → Type 0) → Result T Status → Type 0
Ends P r = frame.Ends statuses P r

-- where the files report what they hold
abbrev pub Tells : {T : Type 0} → Held → (Names → Expected T → Type 0) → Result T Status
    → Type 0
Tells held P r = preparing.Tells statuses held P r

-- only a fault of a load has a cause outside, of all that can end a command before its stores
abbrev pub CommandCause : {T : Type 0} → (T → Type 0) → ℕ → ℕ → Result T Status → Type 0
CommandCause P before now r = frame.CommandCause statuses P before now r

-- what a store asks: a place that is never that of the text, and a wave that can be written
abbrev pub IsStorable : Store → Type 0
IsStorable store = frame.IsStorable statuses store

abbrev pub IsDeliverable : Work → Type 0
IsDeliverable work = All IsStorable work.stores
