-- What the activation rule reads of the phases of all nodes.
-- Source: PipeWire's documentation, "Graph Scheduling"; spa/graph/graph.h, spa_graph_state.
use Rattle.std.specs.Prelude.{ℕ, cond, eqb}
use Rattle.board_rule.specs.Layout.{BoardLayout, nodes}
use Rattle.board_rule.specs.activation.Left.{dependencies, left_of}
use Rattle.board_rule.specs.Sums.{total, times}
use Rattle.board_rule.specs.activation.Phases.{phase_rest, phase_owing, phase_stage, drive_rest, drive_owing, drive_stage}
use Rattle.board_rule.specs.View.{Whole}
use Rattle.board_rule.specs.activation.NodeRow.{Progress}

module _ (p : BoardLayout) where
  abbrev pub progress : Whole → Progress
  progress g = record {
    rest = λ m. cond (eqb m p.driver) (drive_rest (p.targets m) g.lead.drive)
        (phase_rest (p.targets m) (eqb (g.nodes m).next g.lead.cycle) (g.nodes m).phase);
    owing = λ m. cond (eqb m p.driver) (drive_owing (p.targets m) g.lead.drive)
        (phase_owing (p.targets m) (g.nodes m).phase);
    stage = λ m. cond (eqb m p.driver) (drive_stage g.lead.drive)
        (phase_stage (eqb (g.nodes m).next g.lead.cycle) (g.nodes m).phase);
  }

  -- the dependencies of n that have yet to lower it, and the phases that owe it
  abbrev pub left : Progress → ℕ → ℕ
  left s n = left_of (λ m. times n (s.rest m)) (dependencies p n)

  abbrev pub debts : Progress → ℕ → ℕ
  debts s n = total (λ m. times n (s.owing m)) (nodes p)
