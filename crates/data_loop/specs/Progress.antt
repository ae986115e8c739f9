-- What a loop remembers of how far its followers are, so that a turn need not look at all of them,
-- and one pass over them.
-- Source: this project's own.
use Rattle.std.specs.Prelude.{◌≡◌, ◌≢◌, ℕ, ◌+◌, ◌<◌, ◌≤◌, Bool, false, cond, not, eqb, List, ◌++◌, All, length, filter, take, slice_index_or}
use Rattle.board_rule.specs.declared.view.View.{View}
use Rattle.board_rule.specs.Layout.{BoardLayout, first}
use Rattle.board_rule.specs.activation.SeatNodes.{IsMember}
use Rattle.data_loop.specs.declared.did.Did.{Did}
use Rattle.data_loop.specs.declared.progress.Progress.{Progress}
use Rattle.data_loop.specs.declared.member.Member.{Member}
use Rattle.data_loop.specs.declared.epoch_state.EpochState.{EpochState}
use Rattle.data_loop.specs.Tries.{no_member}
use Rattle.data_loop.specs.LoopTurn.{next_in, least_next, HasGone}

-- in the first cycle of an epoch
abbrev pub first_progress : Progress
first_progress = record { least = 0; from = 0 }

-- the members are the seat's
abbrev pub AreOwn : BoardLayout → View → List Member → Type 0
AreOwn p v members = All (λ m. IsMember false p v (p.index m.node)) members

-- no member before an index has ended just `least` cycles
abbrev pub NoneAt : BoardLayout → View → List Member → ℕ → ℕ → Type 0
NoneAt p v members least from =
    All (λ m. next_in p v m.node ≢ first p + least) (take from members)

-- THE PROGRESS of the members: none has ended fewer cycles than `least`, and those before `from`
-- have ended more
pub record IsProgressOf (p : BoardLayout) (v : View) (members : List Member) (f : Progress)
    : Type 0 where
  pub floor : All (λ m. first p + f.least ≤ next_in p v m.node) members
  pub past : NoneAt p v members f.least f.from

-- the first member at an index or after it that has ended `least` cycles, or the number of members
pub record IsFirstAt (p : BoardLayout) (v : View) (members : List Member) (least from at : ℕ)
    : Type 0 where
  pub none : NoneAt p v members least from → NoneAt p v members least at
  pub here : at < length members
      → next_in p v (slice_index_or members at no_member).node ≡ first p + least

-- the progress now: `least` is the fewest cycles that a member has ended, or all where there is no
-- member
pub record IsProgressNow (p : BoardLayout) (v : View) (members : List Member) (f : Progress)
    : Type 0 where
  pub progress : IsProgressOf p v members f
  pub exact : first p + f.least ≡ least_next p v members

-- A PASS tries the members that have ended `least` cycles, or the others
abbrev pub is_chosen : BoardLayout → View → ℕ → Bool → Member → Bool
is_chosen p v least at m =
    let here = eqb (next_in p v m.node) (first p + least) in cond at here (not here)

abbrev pub chosen_in : BoardLayout → EpochState → ℕ → Bool → List Member
chosen_in p g least at = filter (is_chosen p g.seat.knows least at) g.members

abbrev pub HasPassed : BoardLayout → ℕ → Bool → EpochState → Did → List (ℕ × ℕ)
    → List (ℕ × ℕ)
    → EpochState → Type 0
HasPassed p least at g did old new h = (more : List (ℕ × ℕ)) × (new ≡ old ++ more)
    × HasGone p g (chosen_in p g least at) did more h
