-- Claiming a node, and ending its work: what each asks of the view of its seat, and the view after
-- it. Nodes are indexes.
-- Source: PipeWire's documentation, "Graph Scheduling"; the kinds are this project's.
use Rattle.std.specs.Prelude.{◌≡◌, ℕ, ◌+◌, ◌<◌, Bool, true, false, cond, eqb, [], ◌∷◌, length}
use Rattle.board_rule.specs.declared.view.Phase.TheVariants.{Idle, Awake, Running, Done}
use Rattle.board_rule.specs.declared.view.DriverPhase.TheVariants as drives
use Rattle.board_rule.specs.declared.view.Trail.{Trail}
use Rattle.board_rule.specs.declared.view.View.{View}
use Rattle.pw_graph.specs.Words.{triggered_word}
use Rattle.board_rule.specs.Layout.{BoardLayout}
use Rattle.board_rule.specs.View.{node_of, view_trail}
use Rattle.board_rule.specs.buffers.EndViews.{write_of, read_of, writer_of, reader_of}
use Rattle.board_rule.specs.activation.SeatNodes.{cycle_of, HasNode, phased, driven}

-- CLAIMING: the node waits to be triggered. It is awake where the word was TRIGGERED of its cycle;
-- else the seat remembers the word
abbrev pub IsAsleep : Bool → View → ℕ → Type 0
IsAsleep true v m = v.lead.drive ≡ drives.Waiting
IsAsleep false v m = (node_of v m).phase ≡ Idle

abbrev pub Claims : Bool → BoardLayout → View → ℕ → Type 0
Claims is_driver p v m = HasNode is_driver p v m × IsAsleep is_driver v m

abbrev pub woken : Bool → View → ℕ → View
woken true v m = driven v drives.Awake v.trail
woken false v m = phased v m Awake v.trail

abbrev pub tried : BoardLayout → View → ℕ → ℕ → View
tried p v m found = view_trail v
    (record v.trail { tries = record { node = p.number m; word = found } ∷ v.trail.tries })

abbrev pub claimed : Bool → BoardLayout → View → ℕ → ℕ → View
claimed is_driver p v m found = cond (eqb found (triggered_word (cycle_of is_driver v m)))
    (woken is_driver v m)
    (tried p v m found)

-- ENDING A NODE: it works, and all its buffers are given on: in its cycle each link from it is
-- published, and each link into it given back
abbrev pub IsRunning : Bool → View → ℕ → Type 0
IsRunning true v m = v.lead.drive ≡ drives.Running
IsRunning false v m = (node_of v m).phase ≡ Running

abbrev pub IsGivenOn : BoardLayout → View → ℕ → ℕ → Type 0
IsGivenOn p v m c = ((l : ℕ) → l < length p.shape.links → writer_of p l ≡ m
    → (write_of v l).stored ≡ c + 1)
    × ((l : ℕ) → l < length p.shape.links → reader_of p l ≡ m
    → (read_of v l).stored ≡ c + 1)

abbrev pub IsReadyToFinish : Bool → BoardLayout → View → ℕ → Type 0
IsReadyToFinish is_driver p v m = HasNode is_driver p v m × IsRunning is_driver v m
    × IsGivenOn p v m (cycle_of is_driver v m)

-- the seat forgets what its last begin or finish found
abbrev pub untold : Trail → Trail
untold t = record t { told = [] }

abbrev pub finished : Bool → View → ℕ → View
finished true v m = driven v drives.Done (untold v.trail)
finished false v m = phased v m Done (untold v.trail)
