-- A plan before its first cycle: its boards and its loops, by a seating.
-- Source: PipeWire's documentation, "Graph Scheduling" and "Data loops"; boards and seats are this
-- project's own.
use Rattle.std.specs.Prelude.{◌≡◌, ℕ, List, [], ◌∷◌, ◌++◌, map}
use Rattle.std.specs.List.{enumerate_from}
use Rattle.pw_graph.specs.declared.plan.Plan.{Plan}
use Rattle.wav_files.specs.declared.wav.WavIn.{WavIn}
use Rattle.board_rule.specs.Known.{Known}
use Rattle.node_progress.specs.declared.run_model.RunModel.{RunModel}
use Rattle.graph_run.specs.declared.opening.OpenedRun.{OpenedRun}
use Rattle.graph_run.specs.declared.seating.Seating.{Seating}
use Rattle.graph_run.specs.Boards.{AreBoardsBy, driver_of}
use Rattle.graph_run.specs.Loops.{AreLoopsOf}
use Rattle.graph_run.specs.LoopsOnPlan.{AreReady, AreFirstLeads}
use Rattle.graph_run.specs.Seating.{holder_of}

-- OPENED by a function that gives each node a seat, with `loops` seats beside the driver's own: the
-- boards of the plan, the driver's seats, which are ready to lead, and the loops of the seats and
-- last the driver's own, which are ready to run
pub record IsOpenedBy (plan : Plan) (waves : List WavIn) (f : ℕ → ℕ) (loops : ℕ)
    (o : OpenedRun) : Type 0 where
  pub shapes : AreBoardsBy plan f loops o.boards
  pub drivers : o.drivers ≡ map (driver_of plan waves loops) (enumerate_from 0 o.boards)
  pub leads : (run_model : RunModel) → run_model.plan.value ≡ plan → run_model.waves.value ≡ waves
      → AreFirstLeads run_model o.boards o.drivers
  pub ready : AreReady o.boards loops (o.loops ++ o.own ∷ [])
  pub rows : List (List Known)
  pub are : AreLoopsOf plan waves f rows (o.loops ++ o.own ∷ [])

-- and by the list of a seating
abbrev pub IsOpenedRun : Plan → List WavIn → Seating → OpenedRun → Type 0
IsOpenedRun plan waves s o = IsOpenedBy plan waves (holder_of s) s.loops o
