-- Answers that are allowed: a command's definition by its parts, each with the places of its loads
-- and an outcome that a relation allows, and what comes next. Where memory is short, no more is
-- said than the loads so far.
-- Source: this project's own.
use Rattle.std.specs.Prelude.{◌≡◌, ◌⊎◌, ℕ, List, [], ◌∷◌, Result, Ok, Err}
use Rattle.pw_outside.specs.Files.{Names}
use Rattle.command_frame.specs.Statuses.{Statuses}
use Rattle.command_frame.specs.Answer.{Expected, ended, gone_on, load_outcome}

-- A PART with these loads, whose outcome P allows
abbrev pub Part : {S T : Type 0} → Statuses S → List ℕ → (Result T S → Type 0)
    → Expected S T → Type 0
Part statuses loads P e = (e.loads ≡ loads) × (P e.outcome ⊎ (e.outcome ≡ Err statuses.memory))

-- a part without a load
abbrev pub Reads : {S T : Type 0} → Statuses S → (Result T S → Type 0) → Expected S T → Type 0
Reads statuses P = Part statuses [] P

-- the load of a file at a place, by a limit
abbrev pub IsLoad : {S : Type 0} → Statuses S → Names → ℕ → List ℕ → ℕ → S
    → Expected S (List ℕ) → Type 0
IsLoad statuses names place name limit long = Part statuses (place ∷ [])
    (λ outcome. outcome ≡ load_outcome statuses names place name limit long)

-- a status that this load may end with, whether the files are reported or not
abbrev pub IsLoadStop : {S : Type 0} → Statuses S → ℕ → S → S → Type 0
IsLoadStop statuses place long status = (status ≡ statuses.absent place) ⊎ ((status ≡ long)
    ⊎ ((status ≡ statuses.read_fault place) ⊎ (status ≡ statuses.memory)))

-- WHAT COMES NEXT: an answer of the first part, then one of the next, by what the first gave
pub data Binds {S T U : Type 0} (statuses : Statuses S) (P : Expected S T → Type 0)
    (next : T → Expected S U → Type 0) (e : Expected S U)
    : Type 0 where
  short : (first : Expected S T) → P first → e ≡ ended first.loads statuses.memory
      → Binds statuses P next e
  stops : (first : Expected S T) (status : S) → P first → first.outcome ≡ Err status
      → e ≡ ended first.loads status → Binds statuses P next e
  goes : (first : Expected S T) (x : T) (rest : Expected S U) → P first → first.outcome ≡ Ok x
      → next x rest
      → e ≡ gone_on first.loads rest → Binds statuses P next e
