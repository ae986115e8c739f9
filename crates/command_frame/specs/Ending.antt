-- How a part of a command ends: as an answer that is allowed, at a load of it that failed, or for
-- lack of memory; and with which cause. Source: this project's own.
use Rattle.std.specs.Prelude.{◌≡◌, ℕ, Result, Ok, Err, All, Contains}
use Rattle.pw_outside.specs.Causes.{Rose}
use Rattle.wav_files.specs.WavWriting.{IsWave}
use Rattle.command_frame.specs.declared.ending.End.{End}
use Rattle.command_frame.specs.declared.ending.End.TheVariants as E
use Rattle.command_frame.specs.declared.work.Content.{Content}
use Rattle.command_frame.specs.declared.work.Content.TheVariants.{Bytes, Wave}
use Rattle.command_frame.specs.declared.work.Store.{Store}
use Rattle.command_frame.specs.declared.work.Work.{Work}
use Rattle.command_frame.specs.Answer.{Expected}
use Rattle.command_frame.specs.Statuses.{Statuses}

-- the result is the expected one, or a load of it failed, or memory was short
abbrev pub StopsAt : {S T : Type 0} → Expected S T → S → End → Type 0
StopsAt e status (E.ReadFault place) = Contains e.loads place
StopsAt e status E.Memory = Unit {0}
StopsAt e status end = e.outcome ≡ Err status

abbrev pub IsEnd : {S T : Type 0} → Statuses S → Expected S T → Result T S → Type 0
IsEnd statuses e (Ok x) = e.outcome ≡ Ok x
IsEnd statuses e (Err status) = StopsAt e status (statuses.means status)

pub data IsEndOf {S T : Type 0} (statuses : Statuses S) (e : Expected S T) (r : Result T S)
    : Type 0 where
  is_end : IsEnd statuses e r → IsEndOf statuses e r

-- THE RESULT of a part is the end of an answer that is allowed
pub record Ends {S T : Type 0} (statuses : Statuses S) (P : Expected S T → Type 0)
    (r : Result T S) : Type 0 where
  pub answer : Expected S T
  pub allowed : P answer
  pub ends : IsEndOf statuses answer r

-- of all that can end a command before its stores, only a fault of a load has a cause outside
abbrev pub IsRefusal : ℕ → ℕ → End → Type 0
IsRefusal before now E.Done = ⊥
IsRefusal before now (E.ReadFault place) = Rose before now
IsRefusal before now (E.StoreFault place) = ⊥
IsRefusal before now E.PutFault = ⊥
IsRefusal before now end = Unit {0}

abbrev pub PrepareCause : {S T : Type 0} → Statuses S → (T → Type 0) → ℕ → ℕ
    → Result T S → Type 0
PrepareCause statuses P before now (Ok x) = P x
PrepareCause statuses P before now (Err status) = IsRefusal before now (statuses.means status)

-- the same of a request, whose words were right
abbrev pub IsLateRefusal : ℕ → ℕ → End → Type 0
IsLateRefusal before now (E.Usage word) = ⊥
IsLateRefusal before now end = IsRefusal before now end

abbrev pub CommandCause : {S T : Type 0} → Statuses S → (T → Type 0) → ℕ → ℕ
    → Result T S → Type 0
CommandCause statuses P before now (Ok x) = P x
CommandCause statuses P before now (Err status) =
    IsLateRefusal before now (statuses.means status)

-- what a store asks: a store that fails has a status at its place, and its wave can be written
abbrev pub CanBeWritten : Content → Type 0
CanBeWritten (Bytes bytes) = Unit {0}
CanBeWritten (Wave wav) = IsWave wav

pub record IsStorable {S : Type 0} (statuses : Statuses S) (store : Store) : Type 0 where
  pub placed : statuses.means (statuses.store_fault store.place) ≡ E.StoreFault store.place
  pub content : CanBeWritten store.content

abbrev pub IsDeliverable : {S : Type 0} → Statuses S → Work → Type 0
IsDeliverable statuses work = All (IsStorable statuses) work.stores
