-- The steps of a run: of a seat of its board by a thread, and of a thread's parker.
-- Source: PipeWire's documentation, "Data loops"; the kinds are this project's own.
use Rattle.std.specs.Prelude.{◌≡◌, ℕ, ◌<◌, List, Option, Some, None}
use mathlib.Core.Logic.{inl, inr}
use mathlib.Core.Option.{some}
use lib.ListN.{get_elem?}
use Rattle.board_rule.specs.declared.view.View.{View}
use Rattle.board_rule.specs.Layout.{BoardLayout}
use Rattle.board_progress.specs.Moves.{Move}
use Rattle.board_progress.specs.NodeAdvances.{NodeAdvances, last_target}
use Rattle.board_progress.specs.NodeAdvances.NodeAdvances.{triggers}
use Rattle.board_progress.specs.Progress.{Advances}
use Rattle.board_progress.specs.VainSteps.{VainSteps}
use Rattle.board_progress.specs.VainSteps.VainSteps.{claims_early}
use Rattle.rest_progress.specs.Sleepers.{Crew, RunState, MayStep, IsUp, HasToken}
use Rattle.rest_progress.specs.Rests.{MayRest, MayLeave}
use Rattle.rest_progress.specs.AfterSteps.{after_trigger, after_try, with_sleeper, with_move, given, laid, taken, left}

-- the node that a step triggers, and the one that it tries in vain
abbrev pub node_triggered : (p : BoardLayout) (words : List ℕ) (v : View) (x : Move)
    → NodeAdvances p words v x → Option ℕ
node_triggered p words v x (triggers b m may e) = Some (last_target b p v m)
node_triggered p words v x _ = None

abbrev pub triggered_by : (p : BoardLayout) (words : List ℕ) (v : View) (x : Move)
    → Advances p words v x → Option ℕ
triggered_by p words v x (inl y) = node_triggered p words v x y
triggered_by p words v x (inr y) = None

abbrev pub tried_by : (p : BoardLayout) (words : List ℕ) (v : View) (x : Move) (back : ℕ)
    → VainSteps p words v x back → Option ℕ
tried_by p words v x back (claims_early b m found may is late none e) = Some m
tried_by p words v x back _ = None

-- A STEP of a thread, after which the state is t: an advance or a step in vain of a seat that it may
-- step; an unpark; the beginning of a rest; the take of its token; and that it leaves the board. A
-- thread that is not up may give tokens, and take its own: it is on the board of another epoch
pub data RestSteps (p : BoardLayout) (crew : Crew) (s t : RunState) : Type 0 where
  advances : (a i : ℕ) (v : View) (x : Move) (y : Advances p s.board.words v x) → IsUp crew s a
      → MayStep crew.home a v.number → get_elem? s.board.views i ≡ some v
      → t ≡ with_sleeper (with_move s i x) a
      (after_trigger p crew.home a (triggered_by p s.board.words v x y) (s.sleepers a))
      → RestSteps p crew s t
  tries : (a i : ℕ) (v : View) (x : Move) (back : ℕ) (y : VainSteps p s.board.words v x back)
      → IsUp crew s a → MayStep crew.home a v.number → get_elem? s.board.views i ≡ some v
      → t ≡ with_sleeper (with_move s i x) a
      (after_try (tried_by p s.board.words v x back y) (s.sleepers a))
      → RestSteps p crew s t
  gives : (a b : ℕ) → a < crew.threads → b < crew.threads → t ≡ given s a b → RestSteps p crew s t
  lies_down : (a : ℕ) → IsUp crew s a → MayRest p crew s a → t ≡ laid s a → RestSteps p crew s t
  takes : (a : ℕ) → a < crew.threads → HasToken s a → t ≡ taken s a → RestSteps p crew s t
  leaves : (a : ℕ) → IsUp crew s a → MayLeave p crew s a → t ≡ left s a → RestSteps p crew s t
