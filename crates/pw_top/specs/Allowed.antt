-- Answers that are allowed, at the statuses of `pipegraph`: the parts of the frame.
-- Source: this project's own.
use Rattle.std.specs.Prelude.{◌≡◌, ℕ, List, Result, Ok}
use Rattle.pw_lists.specs.declared.limit.Which.{Which}
use Rattle.pw_outside.specs.Files.{Names}
use Rattle.command_frame.specs.Allowed as frame
use Rattle.run_results.specs.declared.status.Status.{Status}
use Rattle.run_results.specs.declared.status.Status.TheVariants as S
use Rattle.run_results.specs.Statuses.{statuses}
use Rattle.pw_top.specs.Answer.{Expected}

-- a part with these loads, whose outcome P allows
abbrev pub Part : {T : Type 0} → List ℕ → (Result T Status → Type 0) → Expected T → Type 0
Part loads P = frame.Part statuses loads P

-- a part without a load
abbrev pub Reads : {T : Type 0} → (Result T Status → Type 0) → Expected T → Type 0
Reads P = frame.Reads statuses P

-- the load of a file at a place, by a limit
abbrev pub IsLoad : Names → ℕ → List ℕ → ℕ → Which → Expected (List ℕ) → Type 0
IsLoad names place name limit which =
    frame.IsLoad statuses names place name limit (S.Limit place which)

-- what comes next: an answer of the first part, then one of the next, by what the first gave
abbrev pub Binds : {T U : Type 0} → (Expected T → Type 0) → (T → Expected U → Type 0)
    → Expected U → Type 0
Binds P next = frame.Binds statuses P next

-- a part that is allowed gives this
pub record Gives {T : Type 0} (P : Expected T → Type 0) (x : T) : Type 0 where
  pub part : Expected T
  pub allowed : P part
  pub gives : part.outcome ≡ Ok x
