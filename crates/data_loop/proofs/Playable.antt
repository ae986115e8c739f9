-- When a follower may play, by the cycle function.
use Rattle.std.specs.Prelude.{◌≡◌, ℕ, ℤ, ◌+◌, ◌<◌, ◌≤◌, ◌⊎◌, List, Contains, length}
use Rattle.pw_graph.specs.KindPorts.{input_count}
use Rattle.pw_lists.specs.Limits.{links_limit}
use Rattle.pw_graph.specs.PlanForms.{kind_at}
use Rattle.node_state.specs.declared.node_state.NodeState.{NodeState}
use Rattle.board_rule.specs.declared.view.View.{View}
use Rattle.board_rule.specs.Layout.{BoardLayout}
use Rattle.board_rule.specs.View.{node_of}
use Rattle.board_rule.specs.buffers.EndViews.{pool_at}
use Rattle.data_loop.specs.turns.Ends.{fills_of}
use Rattle.data_loop.specs.declared.member.Member.{Member}
use Rattle.node_progress.specs.declared.run_model.RunModel.{RunModel}
use Rattle.node_progress.specs.Standing.{port_at, wide_at}
use Rattle.node_progress.specs.NodeStates.{IsNodeState, IsWorkedIn, IsOutputRow}
use Rattle.data_loop.specs.working.Inputs.{AreLong, IsWide}
use Rattle.data_loop.specs.Gathering.{inputs_of, IsBoardOf}

-- a node of the loop, with its links and pools on the board
pub record IsMemberOf (run_model : RunModel) (p : BoardLayout) (m : Member) : Type 0 where
  pub inputs : m.inputs ≡ inputs_of p.shape m.node
  pub pools : m.pools ≡ fills_of p.shape m.node
  pub few : length m.inputs ≤ links_limit
  pub first_output : m.first_output ≡ input_count (kind_at run_model.plan.value m.node)

-- the pool is that of the output o, whose row is not empty
abbrev pub IsPoolFor : RunModel → BoardLayout → ℕ → ℕ → List ℤ → ℕ → Type 0
IsPoolFor run_model p n o row q =
    ((pool_at p q).port ≡ port_at n (input_count (kind_at run_model.plan.value n) + o))
    × (0 < length row)

-- in the cycle c of epoch k, in which the node n is, its state stands at the cycle, and the rows
-- fit its ports; a row of n links has `width` samples
pub record MayPlay (run_model : RunModel) (p : BoardLayout) (v : View) (k c n width : ℕ) (s : NodeState)
    (a b left right : List ℤ) : Type 0 where
  pub works : IsWorkedIn run_model k c n
  pub state : IsNodeState run_model k c n s
  pub board : IsBoardOf run_model p v works.epoch
  pub now : (node_of v (p.index n)).next ≡ c
  pub left_fits : IsOutputRow run_model.plan.value works.epoch n 0 left
  pub right_fits : IsOutputRow run_model.plan.value works.epoch n 1 right
  pub first_width : length a ≡ wide_at run_model.plan.value c n 0
  pub second_width : length b ≡ wide_at run_model.plan.value c n 1
  pub second : IsWide width (length b) (inputs_of p.shape n)
  pub long : AreLong p width (inputs_of p.shape n)
  pub rows : (q : ℕ) → Contains (fills_of p.shape n) q
      → IsPoolFor run_model p n 0 left q ⊎ IsPoolFor run_model p n 1 right q
