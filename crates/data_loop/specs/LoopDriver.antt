-- The driver's node and the loop that it belongs to.
-- Source: PipeWire's documentation, "Graph Scheduling": one node drives a graph; which loop has it
-- is this project's own.
use Rattle.std.specs.Prelude.{◌≡◌, ◌≢◌, ◌⊎◌, ◌+◌, [], Contains}
use Rattle.pw_lists.specs.Limits.{dummy_node}
use Rattle.cycle_model.specs.Expected.{expected_samples}
use Rattle.board_rule.specs.declared.view.View.{View}
use Rattle.board_rule.specs.Layout.{BoardLayout, first}
use Rattle.data_loop.specs.declared.loop_state.LoopState.{LoopState}
use Rattle.data_loop.specs.declared.epoch_state.EpochState.{EpochState}
use Rattle.data_loop.specs.Loops.{plan_of, HasEpochState}

-- the samples that a seat expects are those of the loop's plan in its epoch
abbrev pub HasSamplesOf : LoopState → View → Type 0
HasSamplesOf s v = v.expect ≡ expected_samples (plan_of s) s.run_model.waves.value s.epoch

-- the driver is the dummy, or a node of the loop
abbrev pub DrivesFrom : BoardLayout → LoopState → Type 0
DrivesFrom p s = (p.shape.driver ≡ dummy_node) ⊎ Contains s.nodes p.shape.driver

-- where the driver is a node of the loop that works, the loop has led each cycle before this one
abbrev pub HasLedSoFar : BoardLayout → LoopState → View → Type 0
HasLedSoFar p s v = (g : EpochState) → HasEpochState s s.epoch g → g.driver ≢ []
    → first p + s.led ≡ v.lead.cycle

-- and then it has led one cycle more
abbrev pub HasLed : LoopState → LoopState → Type 0
HasLed s t = (g : EpochState) → HasEpochState s s.epoch g
    → ((g.driver ≢ []) × (t.led ≡ s.led + 1)) ⊎ ((g.driver ≡ []) × (t.led ≡ s.led))
