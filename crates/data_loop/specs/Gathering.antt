-- What the inputs of a node receive on a board whose samples are those of the cycle function.
-- Source: PipeWire's documentation, "Graph Scheduling" and "SPA Buffers".
use Rattle.std.specs.Prelude.{◌≡◌, ℕ, ◌<◌, ◌≤◌, ◌==◌, Bool, List, All, Some, map, filter, length}
use Rattle.std.specs.List.{enumerate_from}
use Rattle.pw_graph.specs.declared.shape.Shape.{Shape}
use Rattle.pw_graph.specs.declared.shape.ShapeLink.{ShapeLink}
use Rattle.pw_graph.specs.declared.plan.Epoch.{Epoch}
use Rattle.cycle_model.specs.Epochs.{epoch_at}
use Rattle.cycle_model.specs.Expected.{epoch_rows}
use Rattle.board_rule.specs.declared.view.View.{View}
use Rattle.board_rule.specs.Layout.{BoardLayout, first, last}
use Rattle.board_rule.specs.buffers.EndViews.{link_at, pool_at, pool_of}
use Rattle.board_rule.specs.buffers.ReaderSteps.{read_cycle}
use Rattle.data_loop.specs.declared.inputs.Input.{Input}
use Rattle.node_progress.specs.declared.run_model.RunModel.{RunModel}
use Rattle.node_progress.specs.Standing.{wide_at}

abbrev pub input_from : ℕ × ShapeLink → Input
input_from e = record { link = e.0; second = e.1.to.port == 1 }

-- the links into a node, each with its input
abbrev pub inputs_of : Shape → ℕ → List Input
inputs_of shape n = map input_from (filter (λ e. e.1.to.node == n) (enumerate_from 0 shape.links))

-- the board is that of an epoch of the plan, and its samples are those of the cycle function
pub record IsBoardOf (run_model : RunModel) (p : BoardLayout) (v : View) (e : Epoch) : Type 0 where
  pub shape : p.shape ≡ e.shape
  pub expect : v.expect ≡ epoch_rows run_model.plan.value run_model.waves.value e
  pub quantum : p.shape.quantum ≡ run_model.plan.value.quantum
  pub two : All (λ l. l.to.port < 2) p.shape.links
  pub channels : (l : ℕ) → l < length p.shape.links
      → (pool_at p (pool_of p l)).channels ≡ (link_at p l).channels

-- the node n reads its inputs in the cycle c, on a board of the cycle's epoch; a and b are the
-- widths of these inputs
pub record ReadsInputs (is_driver : Bool) (run_model : RunModel) (p : BoardLayout) (v : View)
    (c n : ℕ) (inputs : List Input) (a b : ℕ) : Type 0 where
  pub epoch : Epoch
  pub here : epoch_at run_model.plan.value c ≡ Some epoch
  pub board : IsBoardOf run_model p v epoch
  pub inside : (first p ≤ c) × (c < last p)
  pub inputs_are : inputs ≡ inputs_of p.shape n
  pub now : (l : ℕ) → l < length p.shape.links → (link_at p l).to.node ≡ n
      → read_cycle is_driver p v l ≡ c
  pub first_width : a ≡ wide_at run_model.plan.value c n 0
  pub second_width : b ≡ wide_at run_model.plan.value c n 1
