-- The loops of a run after its last epoch: all nodes of the plan are theirs.
-- Source: this project's own: sinks keep the streams that they receive, meters their peaks.
use Rattle.std.specs.Prelude.{◌≡◌, ℕ, ◌<◌, ◌≤◌, List, All, Contains, length, slice_index_or}
use Rattle.pw_graph.specs.declared.plan.Plan.{Plan}
use Rattle.wav_files.specs.declared.wav.WavIn.{WavIn}
use Rattle.data_loop.specs.declared.loop_state.LoopState.{LoopState}
use Rattle.data_loop.specs.Loops.{plan_of, IsLoop}
use Rattle.data_loop.specs.LoopKept.{IsDone, IsDoneWith}

-- the loop at an index has the node
abbrev pub HasNodeAt : List LoopState → ℕ → ℕ → Type 0
HasNodeAt loops n i = (i < length loops)
    × ((d : LoopState) → Contains (slice_index_or loops i d).nodes n)

-- a loop of this plan and these waves has done all epochs
pub record IsDoneOf (plan : Plan) (waves : List WavIn) (s : LoopState) : Type 0 where
  pub done : IsDone s
  pub plan_is : plan_of s ≡ plan
  pub waves_are : s.run_model.waves.value ≡ waves

-- all of them have, and each node of the plan is one of some loop
pub record AreDone (plan : Plan) (waves : List WavIn) (loops : List LoopState) : Type 0 where
  pub each : All (IsDoneOf plan waves) loops
  pub nodes : (n : ℕ) → n < length plan.nodes → (i : ℕ) × HasNodeAt loops n i

-- loops of this plan in which each of its nodes is
pub record HaveAll (plan : Plan) (loops : List LoopState) : Type 0 where
  pub each : All (λ s. IsLoop s × (plan_of s ≡ plan)) loops
  pub nodes : (n : ℕ) → n < length plan.nodes → (i : ℕ) × HasNodeAt loops n i

-- the streams of the nodes below n may have been moved out of them
pub record AreLeftFrom (n : ℕ) (waves : List WavIn) (loops : List LoopState) : Type 0 where
  pub waves_are : All (λ s. s.run_model.waves.value ≡ waves) loops
  pub done : (m : ℕ) → n ≤ m → All (λ s. IsDoneWith s m) loops
