-- Delivery: the stores of an accepted command, then its text, then the line of a status that has
-- one. Source: this project's own.
use Rattle.std.specs.Prelude.{◌≡◌, ◌≢◌, ◌⊎◌, ℕ, List, [], Result, Ok, Err}
use Rattle.pw_outside.specs.declared.files.FileFail.{FileFail}
use Rattle.pw_outside.specs.declared.files.FileFail.TheVariants as F
use Rattle.pw_outside.specs.Files.{Held}
use Rattle.pw_outside.specs.Output.{Given, Gave, GavePart}
use Rattle.pw_outside.specs.Causes.{Rose}
use Rattle.command_frame.specs.declared.ending.End.{End}
use Rattle.command_frame.specs.declared.ending.End.TheVariants as E
use Rattle.command_frame.specs.declared.work.Store.{Store}
use Rattle.command_frame.specs.Following.{GaveLine, TextFollows}
use Rattle.command_frame.specs.Statuses.{Statuses}
use Rattle.command_frame.specs.Stores.{AllStored, CutAt, ShortAt}

-- a status with this end stopped the stores: one failed, with a prefix of it stored, or memory was
-- short for one
abbrev pub StoresStop : {S : Type 0} → Statuses S → S → List Store → ℕ → ℕ → Held → Held
    → End → Type 0
StoresStop statuses status stores before now old new (E.StoreFault place) =
    (status ≡ statuses.store_fault place) × CutAt stores place old new × Rose before now
StoresStop statuses status stores before now old new E.Memory = ShortAt stores [] old new
StoresStop statuses status stores before now old new end = ⊥

abbrev pub StoresDone : {S : Type 0} → Statuses S → List Store → ℕ → ℕ → Held → Held
    → Result (Unit {0}) S → Type 0
StoresDone statuses stores before now old new (Ok done) = AllStored stores old new
StoresDone statuses stores before now old new (Err status) =
    StoresStop statuses status stores before now old new (statuses.means status)

-- the text was put, or a prefix of it; memory can be short only for one that is not empty
abbrev pub TextDone : List ℕ → ℕ → ℕ → Given → Given → Result (Unit {0}) FileFail → Type 0
TextDone text before now old new (Ok done) = Gave text old new
TextDone text before now old new (Err F.Failed) = GavePart text old new × Rose before now
TextDone text before now old new (Err F.Memory) = (text ≢ []) × (new ≡ old)

-- the line of a status was put; or memory was short for it, and the line of that was put or nothing
abbrev pub LineEnds : {S : Type 0} → Statuses S → S → ℕ → ℕ → Given → Given → S → Type 0
LineEnds statuses status before now old new result =
    ((result ≡ status) × GaveLine (statuses.line status) before now old new)
    ⊎ ((statuses.means result ≡ E.Memory) × (statuses.line status ≢ [])
    × ((new ≡ old) ⊎ GaveLine (statuses.line result) before now old new))

-- what ends the text of accepted work: all is done, or a put failed, or memory was short
abbrev pub IsTextEnd : {S : Type 0} → S → S → List ℕ → ℕ → ℕ → End → Type 0
IsTextEnd done status text before now E.Done = done ≡ status
IsTextEnd done status text before now E.PutFault = Rose before now
IsTextEnd done status text before now E.Memory = text ≢ []
IsTextEnd done status text before now end = ⊥

pub record TextEnds {S : Type 0} (statuses : Statuses S) (text : List ℕ) (before now : ℕ)
    (old new : Given) (status : S) : Type 0 where
  pub given : TextFollows text (statuses.line status) before now old new (statuses.means status)
  pub end : IsTextEnd statuses.done status text before now (statuses.means status)
