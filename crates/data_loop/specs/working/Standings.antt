-- A loop on the board of an epoch: its members rest, and their states stand at their cycles.
-- Source: PipeWire's documentation, "Graph Scheduling"; which loop has a node is this project's
-- own.
use Rattle.std.specs.Prelude.{◌≡◌, ℕ}
use Rattle.cycle_model.specs.Expected.{epoch_rows}
use Rattle.board_rule.specs.declared.view.View.{View}
use Rattle.board_rule.specs.Layout.{BoardLayout}
use Rattle.board_rule.specs.View.{node_of}
use Rattle.data_loop.specs.declared.member.Member.{Member}
use Rattle.node_progress.specs.declared.run_model.RunModel.{RunModel}
use Rattle.node_progress.specs.NodeStates.{IsWorkedIn}
use Rattle.data_loop.specs.Members.{member_of}

-- the member is that of a node that works in the cycle c of epoch k, in which it is, on the epoch's
-- board
pub record IsPlayer (run_model : RunModel) (p : BoardLayout) (v : View) (k c : ℕ)
    (m : Member) : Type 0 where
  pub works : IsWorkedIn run_model k c m.node
  pub shape : p.shape ≡ works.epoch.shape
  pub expect : v.expect ≡ epoch_rows run_model.plan.value run_model.waves.value works.epoch
  pub now : (node_of v (p.index m.node)).next ≡ c
  pub member : m ≡ member_of run_model.plan.value works.epoch m.node m.at
