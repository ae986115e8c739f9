-- How many steps a run has left at most, and what steps in vain add.
-- Source: this project's own.
use Rattle.std.specs.Prelude.{ℕ, zero, suc, ◌+◌, ◌*◌, ◌≤◌, Bool, cond}
use Rattle.board_rule.specs.Sums.{total}
use Rattle.board_rule.specs.Layout.{BoardLayout}
use Rattle.board_progress.specs.Runs.{board_left}
use Rattle.rest_progress.specs.Sleepers.{Crew, Sleeper, RunState}
use Rattle.rest_progress.specs.RestSteps.{RestSteps}
use Rattle.rest_progress.specs.RestSteps.RestSteps.{tries, gives}
use Rattle.rest_progress.specs.RestRuns.{RestRuns}

-- 1 for what is so
abbrev pub one_if : Bool → ℕ
one_if b = cond b 1 0

-- how many threads a thread has still to unpark; 1 for a thread that is up
abbrev pub debts : ℕ → Sleeper → ℕ
debts threads x = total (λ b. one_if (x.owes b)) threads

abbrev pub one_if_up : Sleeper → ℕ
one_if_up x = cond x.asleep 0 (cond x.gone 0 1)

-- STEPS LEFT, at most: an advance may be followed by an unpark, that by a take, and that by a rest,
-- or by leaving
abbrev pub rests_left : BoardLayout → ℕ → RunState → ℕ
rests_left p threads s = 4 * board_left p s.board.views
    + 3 * total (λ a. debts threads (s.sleepers a)) threads
    + 2 * total (λ a. one_if (s.tokens a)) threads
    + total (λ a. one_if_up (s.sleepers a)) threads

-- what a step in vain adds: a try, and an unpark that was not owed
abbrev pub wasted : (p : BoardLayout) (crew : Crew) (s t : RunState) → RestSteps p crew s t → ℕ
wasted p crew s t (tries a i v x back y up may at e) = 1 + 4 * back
wasted p crew s t (gives a b low high e) = cond ((s.sleepers a).owes b) 0 3
wasted p crew s t _ = 0

abbrev pub run_wasted : (p : BoardLayout) (crew : Crew) (k : ℕ) (s t : RunState)
    → RestRuns p crew k s t → ℕ
run_wasted p crew zero s t y = 0
run_wasted p crew (suc k) s t y = wasted p crew s y.0 y.1 + run_wasted p crew k y.0 t y.2

-- A RUN HAS FEW STEPS: no more than there were left, and than its steps in vain add
abbrev pub HasFewSteps : (p : BoardLayout) (crew : Crew) (k : ℕ) (s t : RunState)
    → RestRuns p crew k s t → Type 0
HasFewSteps p crew k s t y = k + rests_left p crew.threads t
    ≤ rests_left p crew.threads s + run_wasted p crew k s t y
