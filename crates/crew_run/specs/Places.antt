-- The lists of a run before it.
-- Source: this project's own.
use Rattle.std.specs.Prelude.{◌≡◌, ◌≤◌, ℕ, []}
use Rattle.crew_run.specs.declared.places.Places.{Places}
use Rattle.crew_run.specs.Starting.{AreEmpty, HaveRooms}

-- empty, with room for so many members
pub record HavePlaces {M B H : Type 0} (count : ℕ) (p : Places M B H) : Type 0 where
  pub empty : AreEmpty p.lists
  pub rooms : HaveRooms count p.lists
  pub bare : (p.members.list ≡ []) × (p.backs.list ≡ [])
  pub members : count ≤ p.members.spare
  pub backs : count ≤ p.backs.spare
