-- What a node has received at any time of the run, and where the run ends.
-- Source: PipeWire's documentation, "Graph Scheduling": a node runs after those it depends on.
use Rattle.std.specs.Prelude.{ℕ, ◌==◌, length, if◌then◌else◌}
use Rattle.cycle_model.specs.declared.received.Received.{Received}
use Rattle.cycle_model.specs.Cycle.{outputs}
use Rattle.cycle_model.specs.Epochs.{all_cycles}
use Rattle.cycle_model.specs.Progress.{received_until, received_before}
use Rattle.node_state.specs.declared.node_state.NodeState.{NodeState}
use Rattle.node_progress.specs.declared.run_model.RunModel.{RunModel}
use Rattle.node_progress.specs.NodeStates.{first_of, IsNodeState}

-- what the node n has received before the cycle c of epoch k. A cycle that begins the epoch begins
-- after the node was released, if it is
abbrev pub received_now : RunModel → ℕ → ℕ → ℕ → Received
received_now run_model k c n = if c == first_of run_model.plan.value k
    then received_before run_model.plan.value
    (outputs run_model.plan.value run_model.waves.value) c n
    else received_until run_model.plan.value
    (outputs run_model.plan.value run_model.waves.value) c n

-- the state of the node n after all epochs
abbrev pub IsNodeAtEnd : RunModel → ℕ → NodeState → Type 0
IsNodeAtEnd run_model n s = IsNodeState run_model (length run_model.plan.value.epochs)
    (all_cycles run_model.plan.value) n s
