-- The links of a shape, dealt to the nodes that read them.
-- Source: PipeWire's documentation, "Graph Scheduling" (a link joins an output port to an input
-- port).
use Rattle.std.specs.Prelude.{◌≡◌, ℕ, ◌<◌, List, length, slice_index_or}
use Rattle.pw_graph.specs.declared.plan.Epoch.{Epoch}
use Rattle.pw_graph.specs.declared.plan.Plan.{Plan}
use Rattle.pw_graph.specs.declared.shape.Shape.{Shape}
use Rattle.data_loop.specs.declared.dealing.DealtLinks.{DealtLinks}
use Rattle.data_loop.specs.declared.inputs.Input.{Input}
use Rattle.data_loop.specs.Gathering.{inputs_of}

-- of each number of a node that the table has, the links into the node
abbrev pub AreDealt : Shape → List (List Input) → Type 0
AreDealt shape dealt = (n : ℕ) (d : List Input) → n < length dealt
    → slice_index_or dealt n d ≡ inputs_of shape n

-- those of the epoch n of a plan
abbrev pub AreLinksIn : Plan → ℕ → DealtLinks → Type 0
AreLinksIn plan n links = (e : Epoch)
    → AreDealt (slice_index_or plan.epochs n e).shape links.inputs
