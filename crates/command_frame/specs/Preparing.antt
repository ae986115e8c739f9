-- What a part of a command does with the files before any store: it loads, and says how it ends.
-- Source: this project's own.
use Rattle.std.specs.Prelude.{◌≡◌, ℕ, ◌≤◌, Result, Ok, Err, IsSome}
use Rattle.pw_outside.specs.Files.{Names, Held, names_in}
use Rattle.command_frame.specs.declared.work.Work.{Work}
use Rattle.command_frame.specs.Answer.{Expected}
use Rattle.command_frame.specs.FaultCauses.{IsUsage}
use Rattle.command_frame.specs.Statuses.{Statuses}
use Rattle.command_frame.specs.Ending.{Ends}

-- what is held stays, the count of failed loads did not fall, and no store failed; each before and
-- after
pub record LoadsOnly (names names' : Held) (faults faults' made made' : ℕ) : Type 0 where
  pub held : names' ≡ names
  pub later : faults ≤ faults'
  pub stores : made' ≡ made

-- where the files report what they hold, the result is the end of an answer that this allows
abbrev pub Tells : {S T : Type 0} → Statuses S → Held → (Names → Expected S T → Type 0)
    → Result T S → Type 0
Tells statuses held P result = IsSome held → Ends statuses (P (names_in held)) result

-- words were right where something is to be done, and a refusal is Usage exactly where they are not
abbrev pub IsPreparedUsage : {S Q : Type 0} → Statuses S → Result Q ℕ → Result Work S → Type 0
IsPreparedUsage statuses asked (Ok work) = (word : ℕ) → asked ≡ Err word → ⊥
IsPreparedUsage statuses asked (Err status) = IsUsage statuses asked status
