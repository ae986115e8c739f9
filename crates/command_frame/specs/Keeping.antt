-- A program that stores nothing, and files that hold what they held. Source: this project's own.
use Rattle.std.specs.Prelude.{◌≡◌, []}
use Rattle.command_frame.specs.declared.work.Work.{Work}
use Rattle.command_frame.specs.Outside.{Outside}

-- no work that is delivered has a store
abbrev pub HasNoStores : (Work → Type 0) → Type 0
HasNoStores delivers = (work : Work) → delivers work → work.stores ≡ []

-- what the files hold stays, and no store was counted as failed
pub record KeepsFiles (before now : Outside) : Type 0 where
  pub held : now.held ≡ before.held
  pub stores : now.store_faults ≡ before.store_faults
