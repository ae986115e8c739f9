-- What a run of a plan begins with.
-- Source: this project's own.
use Rattle.std.specs.Prelude.{◌≡◌, ℕ, ◌<◌, List, All, length, map}
use Rattle.std.specs.List.{enumerate_from}
use Rattle.pw_graph.specs.declared.plan.Plan.{Plan}
use Rattle.wav_files.specs.declared.wav.WavIn.{WavIn}
use Rattle.graph_run.specs.declared.preparing.Prepared.{Prepared}
use Rattle.graph_run.specs.Assignment.{loop_of, owner_row}
use Rattle.graph_run.specs.Boards.{AreBoardsBy, driver_of}
use Rattle.graph_run.specs.Threads.{CanStart, CanDrive, HasNode}

-- PREPARED: boards, loops and drivers' seats of the plan, and the queues of its nodes by loop. Each
-- node of the plan is one of some loop
pub record IsPrepared (plan : Plan) (waves : List WavIn) (loops : ℕ)
    (r : Prepared) : Type 0 where
  pub plan_is : r.shared.run_model.plan.value ≡ plan
  pub waves_are : r.shared.run_model.waves.value ≡ waves
  pub shapes : AreBoardsBy plan (loop_of plan loops) loops r.shared.boards
  pub drivers : r.driving.drivers
      ≡ map (driver_of plan waves loops) (enumerate_from 0 r.shared.boards)
  pub owner : r.shared.ways.owner ≡ owner_row plan loops
  pub loops_are : r.shared.ways.loops ≡ loops
  pub can_start : All (CanStart r.shared) r.loops
  pub can_drive : CanDrive r.shared r.driving
  pub count : length r.loops ≡ loops
  pub nodes : (n : ℕ) → n < length plan.nodes → HasNode r.driving.own r.loops n
