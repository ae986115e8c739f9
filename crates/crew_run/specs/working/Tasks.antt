-- What a run begins with.
-- Source: this project's own.
use Rattle.std.specs.Prelude.{◌≡◌, ℕ, List, All, length}
use Rattle.crew_run.specs.declared.scope.Task.{Task}
use Rattle.crew_run.specs.Places.{HavePlaces}

-- its members may start, the caller's thread may lead with them, so many entries say who is named,
-- and there are places for all
pub record CanBegin {M B L H : Type 0} (can_lead : L → List M → Type 0) (can_start : M → Type 0)
    (entries : ℕ) (t : Task M B L H) : Type 0 where
  pub leads : can_lead t.lead t.members
  pub members : All can_start t.members
  pub adopt : entries ≡ length t.members
  pub places : HavePlaces (length t.members) t.places
