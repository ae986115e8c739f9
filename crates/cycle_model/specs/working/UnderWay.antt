-- How far a cycle has got, and what is known of it before.
-- Source: PipeWire's documentation, "Graph Scheduling": a node runs after those it depends on.
use Rattle.std.specs.Prelude.{◌≡◌, ℕ, suc, ◌<◌, true, false, List, All, Some, length, slice_index_or}
use Rattle.pw_graph.specs.declared.ids.PortId.{PortId}
use Rattle.pw_graph.specs.declared.plan.Epoch.{Epoch}
use Rattle.pw_graph.specs.declared.plan.Plan.{Plan}
use Rattle.cycle_model.specs.declared.received.Received.{Received}
use Rattle.cycle_model.specs.declared.received.Given.{Given}
use Rattle.cycle_model.specs.Epochs.{epoch_at}
use Rattle.cycle_model.specs.Cycle.{outputs}
use Rattle.cycle_model.specs.working.NodeOrder.{is_among}
use Rattle.cycle_model.specs.Renderable.{IsRenderable}
use Rattle.wav_files.specs.declared.wav.WavIn.{WavIn}
use Rattle.cycle_model.specs.working.Known.{given_at}
use Rattle.cycle_model.specs.Progress.{received_until, received_before, nothing, IsOutputOf, TellsBefore}

-- how far a cycle has got: these nodes are done
pub record IsUnderWay (plan : Plan) (waves : List WavIn) (c : ℕ) (done : List ℕ)
    (received : List Received)
    (now : List Given) : Type 0 where
  pub counted : length received ≡ length plan.nodes
  pub worked : (n : ℕ) → n < length plan.nodes → is_among done n ≡ true
      → slice_index_or received n nothing ≡ received_until plan (outputs plan waves) (suc c) n
  pub waiting : (n : ℕ) → n < length plan.nodes → is_among done n ≡ false
      → slice_index_or received n nothing ≡ received_before plan (outputs plan waves) c n
  pub only : All (λ g. is_among done g.port.node ≡ true) now
  pub told : (port : PortId) → is_among done port.node ≡ true → IsOutputOf plan port
      → given_at now port ≡ outputs plan waves c port

-- what is known of a cycle
pub record IsCycle (plan : Plan) (waves : List WavIn) (c : ℕ) (e : Epoch)
    (earlier : List Given) : Type 0 where
  pub renderable : IsRenderable plan waves
  pub here : epoch_at plan c ≡ Some e
  pub told : TellsBefore plan (outputs plan waves) c earlier
