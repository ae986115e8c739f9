-- A board goes on, and from each state its end can be reached.
-- Source: PipeWire's documentation, "Graph Scheduling"; the statement is this project's.
use Rattle.std.specs.Prelude.{◌≡◌, ℕ, zero, suc, ◌+◌, ◌^◌, ◌<◌, ◌≤◌, Option, slice_index}
use mathlib.Core.Option.{some}
use lib.ListN.{get_elem?}
use Rattle.atomic_table.specs.Table.{State}
use Rattle.board_rule.specs.declared.view.View.{View}
use Rattle.board_rule.specs.Layout.{BoardLayout}
use Rattle.board_rule.specs.BoardRule.{Holds}
use Rattle.board_progress.specs.Moves.{Move, moved}
use Rattle.board_progress.specs.Progress.{Advances, IsTick, SomeWork, IsStaffed, HaveEnded}
use Rattle.board_progress.specs.VainSteps.{VainSteps}
use Rattle.board_progress.specs.Runs.{board_left, Runs}

-- each number fits a word of the table
abbrev pub AreWords : State (Option ℕ) View → Type 0
AreWords s = (i : ℕ) → slice_index s.words i < 2 ^ 64

-- t IS FURTHER than s: the rule holds, all seats are there, and less is left
pub record IsFurther (p : BoardLayout) (s t : State (Option ℕ) View) : Type 0 where
  pub rule : Holds p t
  pub words : AreWords t
  pub staffed : IsStaffed p t.views
  pub less : board_left p t.views < board_left p s.views

-- t IS AS FAR as s, but for what is to be loaded again: the rule holds, all seats are there, and no
-- more is left than before and `back`
pub record IsAsFar (p : BoardLayout) (back : ℕ) (s t : State (Option ℕ) View) : Type 0 where
  pub rule : Holds p t
  pub words : AreWords t
  pub staffed : IsStaffed p t.views
  pub most : board_left p t.views ≤ board_left p s.views + back

-- NOTHING IS LOST BY A STEP IN VAIN: after each that a seat can take the state is as far
abbrev pub LosesNothing : BoardLayout → State (Option ℕ) View → Type 0
LosesNothing p s = (i : ℕ) (v : View) (x : Move) (back : ℕ) → get_elem? s.views i ≡ some v
    → VainSteps p s.words v x back → IsAsFar p back s (moved s i x)

-- A BOARD GOES ON: some seat can take an advance, one that is no Tick, and after each that one can take it is further
pub record GoesOn (p : BoardLayout) (s : State (Option ℕ) View) : Type 0 where
  pub can : SomeWork p s
  pub after : (i : ℕ) (v : View) (x : Move) → get_elem? s.views i ≡ some v
      → Advances p s.words v x → IsFurther p s (moved s i x)

-- a run in which no advance is a Tick
abbrev pub HasNoTick : (p : BoardLayout) (n : ℕ) (s t : State (Option ℕ) View) → Runs p n s t
    → Type 0
HasNoTick p zero s t r = Unit {0}
HasNoTick p (suc n) s t r = (IsTick p s.words r.1.1 r.1.2 r.1.4 → ⊥)
    × HasNoTick p n (moved s r.1.0 r.1.2) t r.1.5

-- THE END CAN BE REACHED: by a run no longer than what is left, and without a Tick
pub record ReachesEnd (p : BoardLayout) (s : State (Option ℕ) View) : Type 0 where
  pub steps : ℕ
  pub state : State (Option ℕ) View
  pub run : Runs p steps s state
  pub unticked : HasNoTick p steps s state run
  pub few : steps ≤ board_left p s.views
  pub rule : Holds p state
  pub words : AreWords state
  pub staffed : IsStaffed p state.views
  pub ended : HaveEnded p state.views
