-- What became of the start of each member of a run.
-- Source: this project's own.
use Rattle.std.specs.Prelude.{◌≡◌, ◌⊎◌, ◌≤◌, ℕ, ◌-◌, Bool, true, false, List, [], ◌∷◌, ◌++◌, Result, IfOk, IfErr}
use Rattle.pw_lists.specs.Listed.{Listed}
use Rattle.crew_run.specs.declared.starting.Held.{Held}
use Rattle.crew_run.specs.declared.starting.Why.{Why}
use Rattle.crew_run.specs.declared.starting.Why.TheVariants.{Named, Refused}
use Rattle.crew_run.specs.declared.starting.Begun.{Begun}
use Rattle.crew_run.specs.declared.starting.Begun.TheVariants.{Running, Done}
use Rattle.crew_run.specs.declared.starting.Start.{Start}
use Rattle.crew_run.specs.declared.starting.Start.TheVariants.{Kept, Gone}
use Rattle.crew_run.specs.declared.starting.Lists.{Lists}

-- what a thread gives back
pub record Returns {M B : Type 0} (R : M → B → Type 0) (given : M) (r : Result B M) : Type 0 where
  pub ok : IfOk r (R given)
  pub err : IfErr r (λ back. back ≡ given)

-- the cause: the member is named; or a thread for its number was asked for, and refused
abbrev pub IsWhy : Bool → ℕ → Why → Type 0
IsWhy named number Named = named ≡ true
IsWhy named number (Refused r) = (named ≡ false) × (r.number ≡ number)

module _ {M B H : Type 0} (given_of : H → M) (number_of : M → ℕ) (R : M → B → Type 0) where
  -- a thread has the member; or one for its number was refused, and it had run all the same
  abbrev pub IsBegun : M → Begun B H → Type 0
  IsBegun given (Running h) = given_of h ≡ given
  IsBegun given (Done r b) = (r.number ≡ number_of given) × R given b

  -- THE START of a member: it is held for its cause, and as it was; or it is not named, and began
  abbrev pub IsStart : Bool → M → Start M B H → Type 0
  IsStart named given (Kept held) = IsWhy named (number_of given) held.why × (held.member ≡ given)
  IsStart named given (Gone begun) = (named ≡ false) × IsBegun given begun

  -- THE STARTS of all members, each named or not; which are held, the list of flags says. All lists
  -- are in the order of the members
  abbrev pub AreBegun : List Bool → List M → List Bool → List (Held M) → List (Begun B H) → Type 0
  AreBegun names [] kept held begun = (kept ≡ []) × (held ≡ []) × (begun ≡ [])
  AreBegun [] (m ∷ ms) kept held begun = ⊥
  AreBegun (n ∷ names) (m ∷ ms) kept held begun =
      ((h : Held M) × (flags : List Bool) × (rest : List (Held M)) × (kept ≡ true ∷ flags)
      × (held ≡ h ∷ rest) × IsStart n m (Kept h) × AreBegun names ms flags rest begun)
      ⊎ ((b : Begun B H) × (flags : List Bool) × (rest : List (Begun B H)) × (kept ≡ false ∷ flags)
      × (begun ≡ b ∷ rest) × IsStart n m (Gone b) × AreBegun names ms flags held rest)

-- one more in a list with room
abbrev pub put : {T : Type 0} → Listed T → T → Listed T
put r x = record { list = r.list ++ x ∷ []; spare = r.spare - 1 }

-- what became of a start is in its list
abbrev pub HasPlaced : {M B H : Type 0} → Lists M B H → Start M B H → Lists M B H → Type 0
HasPlaced l (Kept h) m = m ≡ record l { held = put l.held h; kept = put l.kept true }
HasPlaced l (Gone b) m = m ≡ record l { begun = put l.begun b; kept = put l.kept false }

-- nothing is in the lists; and there is room for so many more in each
pub record AreEmpty {M B H : Type 0} (l : Lists M B H) : Type 0 where
  pub held : l.held.list ≡ []
  pub begun : l.begun.list ≡ []
  pub kept : l.kept.list ≡ []

pub record HaveRooms {M B H : Type 0} (count : ℕ) (l : Lists M B H) : Type 0 where
  pub held : count ≤ l.held.spare
  pub begun : count ≤ l.begun.spare
  pub kept : count ≤ l.kept.spare

-- of all that began, in their order, what they gave back
abbrev pub AreEnded : {M B H : Type 0} → (H → M) → (M → ℕ) → (M → B → Type 0) → List (Begun B H)
    → List B → Type 0
AreEnded {M} f n R [] backs = backs ≡ []
AreEnded {M} {B} f n R (b ∷ begun) backs = (x : B) × (rest : List B) × (backs ≡ x ∷ rest)
    × ((given : M) → IsBegun f n R given b → R given x) × AreEnded f n R begun rest
