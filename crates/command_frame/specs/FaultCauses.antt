-- The causes of a status, whether the files are reported or not: of a fault, the outside; of Usage,
-- the words. Source: this project's own.
use Rattle.std.specs.Prelude.{◌≡◌, ◌⊎◌, ℕ, Result, Err}
use Rattle.pw_outside.specs.Causes.{Rose}
use Rattle.command_frame.specs.declared.ending.End.{End}
use Rattle.command_frame.specs.declared.ending.End.TheVariants as E
use Rattle.command_frame.specs.Outside.{Outside}
use Rattle.command_frame.specs.Statuses.{Statuses}

-- a fault is answered only where the outside counted one: of a load, of a store, or of a put
abbrev pub EndCaused : Outside → Outside → End → Type 0
EndCaused before now (E.ReadFault place) = Rose before.load_faults now.load_faults
EndCaused before now (E.StoreFault place) = Rose before.store_faults now.store_faults
EndCaused before now E.PutFault = Rose before.put_faults now.put_faults
EndCaused before now end = Unit {0}

abbrev pub Caused : {S : Type 0} → Statuses S → Outside → Outside → S → Type 0
Caused statuses before now status = EndCaused before now (statuses.means status)

-- no fault was counted
pub record HadNoFault (before now : Outside) : Type 0 where
  pub loads : ¬ Rose before.load_faults now.load_faults
  pub stores : ¬ Rose before.store_faults now.store_faults
  pub puts : ¬ Rose before.put_faults now.put_faults

-- Usage is answered exactly where the words are not in the grammar, with the same word; or memory
-- was short
pub record IsUsage {S Q : Type 0} (statuses : Statuses S) (asked : Result Q ℕ) (status : S)
    : Type 0 where
  pub only : (word : ℕ) → statuses.means status ≡ E.Usage word → asked ≡ Err word
  pub always : (word : ℕ) → asked ≡ Err word
      → (status ≡ statuses.usage word) ⊎ (statuses.means status ≡ E.Memory)
