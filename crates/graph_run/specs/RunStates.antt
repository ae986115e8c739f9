-- The states of a run of a plan: before its first cycle, where one thread has all of it; and after
-- its last, whichever threads ran it.
-- Source: this project's own.
use Rattle.std.specs.Prelude.{◌≡◌, ℕ, ◌<◌, List, [], length, map, Contains}
use Rattle.std.specs.List.{AllZip, enumerate_from, range_with_len}
use Rattle.pw_graph.specs.declared.plan.Plan.{Plan}
use Rattle.pw_graph.specs.SoundPlan.{IsSoundPlan}
use Rattle.wav_files.specs.declared.wav.WavIn.{WavIn}
use Rattle.cycle_model.specs.Expected.{expected_samples}
use Rattle.graph_run.specs.declared.alone.AloneRun.{AloneRun}
use Rattle.graph_run.specs.declared.ended.EndedRun.{EndedRun}
use Rattle.graph_run.specs.Assignment.{loop_of}
use Rattle.graph_run.specs.Boards.{AreBoardsBy, driver_of}
use Rattle.graph_run.specs.Closing.{HasEnded}
use Rattle.graph_run.specs.Leads.{checks_of}
use Rattle.graph_run.specs.Outcomes.{AreDone}
use Rattle.graph_run.specs.Rooms.{AreRooms}
use Rattle.graph_run.specs.Threads.{CanDrive}

-- PREPARED for one thread: boards, the driver's own loop and its seats, all of a sound plan; the
-- loop has all nodes, and there is room for it and for what is answered
pub record IsAloneRun (plan : Plan) (waves : List WavIn) (r : AloneRun) : Type 0 where
  pub sound : IsSoundPlan plan
  pub plan_is : r.shared.run_model.plan.value ≡ plan
  pub waves_are : r.shared.run_model.waves.value ≡ waves
  pub shapes : AreBoardsBy plan (loop_of plan 0) 0 r.shared.boards
  pub drivers : r.driving.drivers
      ≡ map (driver_of plan waves 0) (enumerate_from 0 r.shared.boards)
  pub can_drive : CanDrive r.shared r.driving
  pub nodes : (n : ℕ) → n < length plan.nodes → Contains r.driving.own.nodes n
  pub empty : r.done.list ≡ []
  pub room : 0 < r.done.spare
  pub rooms : AreRooms plan r.rooms

-- the plan and the waves that a run was made with
abbrev pub run_plan_of : AloneRun → Plan
run_plan_of r = r.shared.run_model.plan.value

abbrev pub run_waves_of : AloneRun → List WavIn
run_waves_of r = r.shared.run_model.waves.value

abbrev pub CanRunAlone : AloneRun → Type 0
CanRunAlone r = IsAloneRun (run_plan_of r) (run_waves_of r) r

-- ENDED: each node of the plan is one of some loop, all loops have done all epochs, and the
-- drivers' seats have ended their boards, one an epoch with the samples of the cycle function
pub record IsEndedRun (plan : Plan) (waves : List WavIn) (e : EndedRun) : Type 0 where
  pub shapes : map (λ b. b.board_shape.shape) e.boards ≡ map (λ x. x.shape) plan.epochs
  pub done : AreDone plan waves e.done
  pub ended : AllZip HasEnded e.boards e.drivers
  pub expects : map (λ s. s.knows.expect) e.drivers
      ≡ map (expected_samples plan waves) (range_with_len 0 (length plan.epochs))
  pub rooms : AreRooms plan e.rooms

-- its boards have the seats of a seating of `loops` loops
abbrev pub HasBoardsBy : Plan → (ℕ → ℕ) → ℕ → EndedRun → Type 0
HasBoardsBy plan f loops e = AreBoardsBy plan f loops e.boards

-- the run of one thread has ended, on its own boards and without a check
pub record HasRunAlone (r : AloneRun) (e : EndedRun) : Type 0 where
  pub ended : IsEndedRun (run_plan_of r) (run_waves_of r) e
  pub boards : e.boards ≡ r.shared.boards
  pub quiet : checks_of e.drivers ≡ 0
