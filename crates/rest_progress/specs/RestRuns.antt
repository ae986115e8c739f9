-- Runs of a crew on a board: where one begins, and what it is. Source: this project's own.
use Rattle.std.specs.Prelude.{◌≡◌, ℕ, zero, suc, ◌<◌, Bool, false, Option, Some}
use mathlib.Core.Option.{some}
use lib.ListN.{get_elem?}
use Rattle.atomic_table.specs.Table.{State}
use Rattle.board_rule.specs.declared.view.View.{View}
use Rattle.board_rule.specs.Layout.{BoardLayout, nodes}
use Rattle.board_rule.specs.BoardRule.{Holds}
use Rattle.board_progress.specs.Progress.{IsStaffed}
use Rattle.board_progress.specs.Ends.{AreWords}
use Rattle.rest_progress.specs.Sleepers.{Crew, RunState, seat_at}
use Rattle.rest_progress.specs.RestSteps.{RestSteps}

-- MANNED: who is gone before the run begins is no node's home, and not all are gone
pub record IsManned (p : BoardLayout) (crew : Crew) (gone : ℕ → Bool) : Type 0 where
  pub homes : (n a : ℕ) → n < nodes p → crew.home (seat_at p n) ≡ Some a → gone a ≡ false
  pub someone : (a : ℕ) × (a < crew.threads) × (gone a ≡ false)

-- A STATE TO BEGIN WITH: the board meets its rule, and all its seats are there; no thread is
-- asleep, nothing is tried or owed, and it is manned
pub record IsFresh (p : BoardLayout) (crew : Crew) (s : RunState) : Type 0 where
  pub rule : Holds p s.board
  pub words : AreWords s.board
  pub staffed : IsStaffed p s.board.views
  pub awake : (a : ℕ) → (s.sleepers a).asleep ≡ false
  pub untried : (a n : ℕ) → (s.sleepers a).tried n ≡ false
  pub clear : (a b : ℕ) → (s.sleepers a).owes b ≡ false
  pub manned : IsManned p crew (λ a. (s.sleepers a).gone)

-- A RUN of k steps
abbrev pub RestRuns : BoardLayout → Crew → ℕ → RunState → RunState → Type 0
RestRuns p crew zero s t = s ≡ t
RestRuns p crew (suc k) s t = (u : RunState) × RestSteps p crew s u × RestRuns p crew k u t

-- a board, and threads of which none is asleep, or has tried a node, or owes anybody
abbrev pub all_awake : State (Option ℕ) View → (ℕ → Bool) → (ℕ → Bool) → RunState
all_awake board tokens gone = record {
  board = board;
  tokens = tokens;
  sleepers = λ a. record { owes = λ b. false; tried = λ n. false; asleep = false; gone = gone a };
}

-- A RUN CAN BEGIN so in each state of the board that meets the rule, and in which a seat has the
-- view v
abbrev pub CanBegin : BoardLayout → View → Type 0
CanBegin p v = (crew : Crew) (board : State (Option ℕ) View) (tokens gone : ℕ → Bool)
    → Holds p board → AreWords board → ((i : ℕ) × (get_elem? board.views i ≡ some v))
    → IsManned p crew gone → IsFresh p crew (all_awake board tokens gone)
