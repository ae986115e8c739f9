-- What the buffer rule reads of the phases of nodes, and whose seat knows the ends of a node and
-- its blocks.
-- Source: this project's own; the phases are those of src/view.rt.
use Rattle.std.specs.Prelude.{ℕ, ◌+◌, cond, eqb, sum_by, take}
use Rattle.pw_graph.specs.Pools.{pools_of}
use Rattle.board_rule.specs.declared.view.Phase.{Phase}
use Rattle.board_rule.specs.declared.view.Phase.TheVariants.{Running, Done, FinishDrawn, Telling}
use Rattle.board_rule.specs.declared.view.DriverPhase.{DriverPhase}
use Rattle.board_rule.specs.declared.view.DriverPhase.TheVariants as drives
use Rattle.board_rule.specs.Layout.{BoardLayout}
use Rattle.board_rule.specs.View.{Whole}
pub use Rattle.board_rule.specs.start.Owners.{holder}
use Rattle.board_rule.specs.buffers.Areas.{Span}

-- 1 from the store of FINISHED on, and 1 from the store of Start on
abbrev pub phase_over : Phase → ℕ
phase_over Done = 1
phase_over FinishDrawn = 1
phase_over (Telling i owes) = 1
phase_over _ = 0

abbrev pub phase_begun : Phase → ℕ
phase_begun Running = 1
phase_begun f = phase_over f

abbrev pub drive_over : DriverPhase → ℕ
drive_over drives.Done = 1
drive_over drives.FinishDrawn = 1
drive_over drives.FinishStored = 1
drive_over drives.EndDrawn = 1
drive_over _ = 0

abbrev pub drive_begun : DriverPhase → ℕ
drive_begun drives.Running = 1
drive_begun d = drive_over d

module _ (p : BoardLayout) where
  abbrev pub spans : Whole → ℕ → Span
  spans g n = record {
    ended = cond (eqb n p.driver) (g.lead.cycle + drive_over g.lead.drive)
        ((g.nodes n).next + phase_over (g.nodes n).phase);
    begun = cond (eqb n p.driver) (g.lead.cycle + drive_begun g.lead.drive)
        ((g.nodes n).next + phase_begun (g.nodes n).phase);
  }

  -- where a view has the block b of the pool q
  abbrev pub block_at : ℕ → ℕ → ℕ
  block_at q b = sum_by (λ x. x.blocks) (take q (pools_of p.shape)) + b
