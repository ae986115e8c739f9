-- How far an answer was followed, and what the outside holds then. Source: this project's own.
use Rattle.std.specs.Prelude.{◌≡◌, ◌⊎◌, ℕ, List, [], Result, Ok, Err, Contains}
use Rattle.pw_outside.specs.Files.{Held}
use Rattle.pw_outside.specs.Output.{Given, Gave, GavePart}
use Rattle.pw_outside.specs.Causes.{Rose}
use Rattle.command_frame.specs.declared.ending.End.{End}
use Rattle.command_frame.specs.declared.ending.End.TheVariants as E
use Rattle.command_frame.specs.declared.work.Store.{Store}
use Rattle.command_frame.specs.declared.work.Work.{Work}
use Rattle.command_frame.specs.Answer.{Answer}
use Rattle.command_frame.specs.Statuses.{Statuses}
use Rattle.command_frame.specs.Stores.{AllStored, CutAt, ShortAt, ShortLine}

-- a line was given; of a failed put, a prefix
abbrev pub GaveLine : List ℕ → ℕ → ℕ → Given → Given → Type 0
GaveLine line before now old new = Gave line old new ⊎ (GavePart line old new × Rose before now)

-- the status, the stores and the text of an answer
abbrev pub status_of : {S : Type 0} → S → Result Work S → S
status_of done (Ok work) = done
status_of done (Err status) = status

abbrev pub stores_of : {S : Type 0} → Result Work S → List Store
stores_of (Ok work) = work.stores
stores_of (Err status) = []

abbrev pub text_of : {S : Type 0} → Result Work S → List ℕ
text_of (Ok work) = work.text
text_of (Err status) = []

-- WHAT A STATUS SAYS, by its end: of the answer, of the files, and of the text

abbrev pub StatusFollows : {S : Type 0} → S → Answer S → S → End → Type 0
StatusFollows done a status (E.ReadFault place) = Contains a.loads place
StatusFollows done a status (E.StoreFault place) = status_of done a.outcome ≡ done
StatusFollows done a status E.PutFault = status_of done a.outcome ≡ done
StatusFollows done a status E.Memory = Unit {0}
StatusFollows done a status end = status_of done a.outcome ≡ status

-- the line of a store that failed, by its place
abbrev pub store_line : {S : Type 0} → Statuses S → ℕ → List ℕ
store_line statuses place = statuses.line (statuses.store_fault place)

abbrev pub FilesFollow : {S : Type 0} → Statuses S → List Store → List ℕ → ℕ → ℕ → Held
    → Held → End → Type 0
FilesFollow statuses stores text before now old new E.Done = AllStored stores old new
FilesFollow statuses stores text before now old new E.PutFault = AllStored stores old new
FilesFollow statuses stores text before now old new (E.StoreFault place) =
    CutAt stores place old new
FilesFollow statuses stores text before now old new E.Memory = (new ≡ old)
    ⊎ (ShortAt stores text old new ⊎ ShortLine (store_line statuses) stores before now old new)
FilesFollow statuses stores text before now old new end = new ≡ old

abbrev pub TextFollows : List ℕ → List ℕ → ℕ → ℕ → Given → Given → End → Type 0
TextFollows text line before now old new E.Done = Gave text old new
TextFollows text line before now old new E.PutFault = GavePart text old new
TextFollows text line before now old new E.Memory = (new ≡ old) ⊎ GaveLine line before now old new
TextFollows text line before now old new end = GaveLine line before now old new
