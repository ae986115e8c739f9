-- Views: what each seat knows, what all know together, and the views after a step.
-- Source: this project's own; the phases are those of src/view.rt.
use Rattle.std.specs.Prelude.{ℕ, List, suc, cond, eqb, slice_set as set, slice_index_or}
use Rattle.board_rule.specs.declared.view.NodeView.{NodeView}
use Rattle.board_rule.specs.declared.view.DriverView.{DriverView}
use Rattle.board_rule.specs.declared.view.Trail.{Trail}
use Rattle.board_rule.specs.declared.view.Found.{Found}
use Rattle.pw_graph.specs.declared.event.Event.{Event}
use Rattle.board_rule.specs.declared.view.View.{View}
use Rattle.board_rule.specs.buffers.BlockReadings.{Ends}
pub use Rattle.board_rule.specs.start.StartViews.{Samples, idle, resting, unwritten, unread, no_trail, first_view, driver_view}
pub use Rattle.board_rule.specs.start.StartViews.{first_write, is_delayed, first_block, blocks_at_first, first_blocks}
pub use Rattle.board_rule.specs.start.StartViews.{loop_view}

-- what all seats know together; seat_at gives for a number the index of its view among the table's
-- views. The ends of links and the blocks, the events of
-- earlier cycles, those between Begin and End of the driver's cycle so far, the late set that is
-- stored in it, and what its last check has loaded
pub record Whole : Type 0 where
  pub lead : DriverView
  pub split : ℕ
  pub nodes : ℕ → NodeView
  pub seat_at : ℕ → ℕ
  pub expect : Samples
  pub ends : Ends
  pub past : List Event
  pub inside : List Event
  pub late : ℕ
  pub looks : List Found

-- f, with x at m
abbrev pub put : {A : Type 0} → (ℕ → A) → ℕ → A → ℕ → A
put f m x i = cond (eqb i m) x (f i)

-- a split, as the driver's seat sees it
abbrev pub split_off : Samples → View → View
split_off e v = record v { split = suc v.split; expect = e }

-- a follower, as a view has it
abbrev pub node_of : View → ℕ → NodeView
node_of v m = slice_index_or v.nodes m (idle 0)

-- the whole after a step of a follower or of the driver's seat, and the view of the seat that made
-- it
abbrev pub with_node : Whole → ℕ → NodeView → Whole
with_node g m x = record g { nodes = put g.nodes m x }

abbrev pub with_lead : Whole → DriverView → Whole
with_lead g x = record g { lead = x }

abbrev pub view_node : View → ℕ → NodeView → Trail → View
view_node v m x t = record v { nodes = set v.nodes m x; trail = t }

abbrev pub view_lead : View → DriverView → Trail → View
view_lead v x t = record v { lead = x; trail = t }

abbrev pub view_trail : View → Trail → View
view_trail v t = record v { trail = t }
