-- What was made is finished: of accepted work the stores and the text, of a refusal the line.
-- Source: this project's own.
use Rattle.std.specs.Prelude.{◌≡◌, [], Result, Ok, Err}
use Rattle.pw_outside.specs.Causes.{Rose}
use Rattle.command_frame.specs.declared.ending.End.{End}
use Rattle.command_frame.specs.declared.ending.End.TheVariants as E
use Rattle.command_frame.specs.declared.work.Work.{Work}
use Rattle.command_frame.specs.Answer.{Answer}
use Rattle.command_frame.specs.Headline.{Follows}
use Rattle.command_frame.specs.Outside.{Outside}
use Rattle.command_frame.specs.Statuses.{Statuses}
use Rattle.command_frame.specs.Delivery.{LineEnds}
use Rattle.command_frame.specs.Ending.{IsDeliverable}

-- what ends accepted work, with its cause
abbrev pub IsWorkEnd : Outside → Outside → End → Type 0
IsWorkEnd before now E.Done = Unit {0}
IsWorkEnd before now (E.StoreFault place) = Rose before.store_faults now.store_faults
IsWorkEnd before now E.PutFault = Rose before.put_faults now.put_faults
IsWorkEnd before now E.Memory = Unit {0}
IsWorkEnd before now end = ⊥

-- the answer that accepts, with this work
abbrev pub accepted : {S : Type 0} → Work → Answer S
accepted work = record { loads = []; outcome = Ok work }

pub record WorkFinished {S : Type 0} (statuses : Statuses S) (work : Work) (before now : Outside)
    (status : S) : Type 0 where
  pub follows : Follows statuses (accepted work) before now status
  pub end : IsWorkEnd before now (statuses.means status)

-- FINISHED: work was delivered, or as far as the status says; of a refusal the line was put
abbrev pub Finished : {S : Type 0} → Statuses S → Result Work S → Outside → Outside → S
    → Type 0
Finished statuses (Ok work) before now status = WorkFinished statuses work before now status
Finished statuses (Err e) before now status = (now.held ≡ before.held)
    × LineEnds statuses e before.put_faults now.put_faults before.given now.given status

-- a refusal, or work without a store
abbrev pub StoresNothing : {S : Type 0} → Result Work S → Type 0
StoresNothing (Ok work) = work.stores ≡ []
StoresNothing (Err status) = Unit {0}

abbrev pub CanBeDelivered : {S : Type 0} → Statuses S → Result Work S → Type 0
CanBeDelivered statuses (Ok work) = IsDeliverable statuses work
CanBeDelivered statuses (Err status) = Unit {0}
