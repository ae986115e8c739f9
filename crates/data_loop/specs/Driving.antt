-- The turn of the driver's node on a board, from its waking to its Finish: the links that it reads,
-- and what it does not change.
-- Source: PipeWire's documentation, "Graph Scheduling" and "SPA Buffers"; the calls are this
-- project's own.
use Rattle.std.specs.Prelude.{◌≡◌, ◌≢◌, ℕ, ◌+◌, ◌<◌, true, length}
use Rattle.pw_graph.specs.Layout.{event_count}
use Rattle.cycle_model.specs.Expected.{epoch_rows}
use Rattle.board_rule.specs.declared.view.DriverPhase.TheVariants.{FinishStored}
use Rattle.board_rule.specs.declared.view.View.{View}
use Rattle.board_rule.specs.Layout.{BoardLayout}
use Rattle.board_rule.specs.buffers.EndViews.{reader_of, read_of}
use Rattle.board_rule.specs.activation.SeatNodes.{HasNode}
use Rattle.board_rule.specs.activation.WorkSteps.{untold}
use Rattle.activation_words.specs.Calls.{IsAwake}
use Rattle.io_areas.specs.Ends.{IsReadUpTo}
use Rattle.node_progress.specs.declared.run_model.RunModel.{RunModel}
use Rattle.node_progress.specs.NodeStates.{IsWorkedIn}
use Rattle.data_loop.specs.declared.member.Member.{Member}
use Rattle.data_loop.specs.Members.{member_of}

-- each link into the driver's node is read in the cycles before c, and not in c
abbrev pub IsDriverRead : BoardLayout → View → ℕ → Type 0
IsDriverRead p v c = (l : ℕ) → l < length p.shape.links → reader_of p l ≡ p.driver
    → IsReadUpTo v l c

-- no link leads to it
abbrev pub HasNoLinkIn : BoardLayout → Type 0
HasNoLinkIn p = (l : ℕ) → l < length p.shape.links → reader_of p l ≢ p.driver

-- the driver's node is awake in the cycle c, and has read none of its links in it
pub record MayDrive (p : BoardLayout) (v : View) (c : ℕ) : Type 0 where
  pub node : HasNode true p v p.driver
  pub awake : IsAwake true v p.driver
  pub cycle : v.lead.cycle ≡ c
  pub even : IsDriverRead p v c

-- the member is that of the driver's node, which works in the cycle c of epoch k, on the epoch's
-- board
pub record IsDriverPlayer (run_model : RunModel) (p : BoardLayout) (v : View) (k c : ℕ)
    (m : Member) : Type 0 where
  pub works : IsWorkedIn run_model k c m.node
  pub shape : p.shape ≡ works.epoch.shape
  pub expect : v.expect ≡ epoch_rows run_model.plan.value run_model.waves.value works.epoch
  pub driver : m.node ≡ p.shape.driver
  pub member : m ≡ member_of run_model.plan.value works.epoch m.node m.at

-- THE TURN: from the view v to the view w the driver's node has its Start and its Finish stored in
-- the cycle c, and each link into it is read in c. The seat has forgotten what its last begin told;
-- but for its phase, the two tickets and what it has read, all is as before
pub record HasDriven (p : BoardLayout) (v : View) (c : ℕ) (w : View) : Type 0 where
  pub cycle : w.lead.cycle ≡ c
  pub even : IsDriverRead p w (c + 1)
  pub others : (l : ℕ) → reader_of p l ≢ p.driver → read_of w l ≡ read_of v l
  pub ends : length w.reads ≡ length v.reads
  pub words : length w.words_read ≡ length v.words_read
  pub drawn : (w.lead.start < event_count p.shape) × (w.lead.finish < event_count p.shape)
  pub is : w ≡ record v {
    lead = record v.lead {
      drive = FinishStored;
      start = w.lead.start;
      finish = w.lead.finish;
    };
    reads = w.reads;
    words_read = w.words_read;
    trail = untold v.trail;
  }
