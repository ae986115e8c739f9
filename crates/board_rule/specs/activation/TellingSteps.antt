-- Lowering a target, and triggering it: what each asks of the view of its seat, and the view after
-- it. Nodes are indexes.
-- Source: PipeWire's documentation, "Graph Scheduling"; spa/graph/graph.h, spa_graph_link_trigger.
use Rattle.std.specs.Prelude.{ℕ, suc, ◌+◌, ◌<◌, Bool, true, false, cond, eqb, ◌∷◌, length, slice_index}
use Rattle.board_rule.specs.declared.view.Phase.{Phase}
use Rattle.board_rule.specs.declared.view.Phase.TheVariants.{Idle, Telling}
use Rattle.board_rule.specs.declared.view.DriverPhase.{DriverPhase}
use Rattle.board_rule.specs.declared.view.DriverPhase.TheVariants as drives
use Rattle.board_rule.specs.declared.view.NodeView.{NodeView}
use Rattle.board_rule.specs.declared.view.Trail.{Trail}
use Rattle.board_rule.specs.declared.view.View.{View}
use Rattle.board_rule.specs.Layout.{BoardLayout}
use Rattle.board_rule.specs.View.{node_of, view_node}
use Rattle.board_rule.specs.activation.SeatNodes.{HasNode, driven}
pub use Rattle.board_rule.specs.activation.Taken.{lowered_of, taken_of, taken}

-- LOWERING A TARGET: one is left, and no trigger is owed
abbrev pub CanTell : ℕ → Phase → Type 0
CanTell n (Telling i false) = i < n
CanTell n _ = ⊥

abbrev pub CanKick : ℕ → DriverPhase → Type 0
CanKick n (drives.Kick i false) = i < n
CanKick n _ = ⊥

abbrev pub Lowers : Bool → BoardLayout → View → ℕ → Type 0
Lowers true p v m = HasNode true p v m × CanKick (length (p.targets m)) v.lead.drive
Lowers false p v m = HasNode false p v m × CanTell (length (p.targets m)) (node_of v m).phase

-- the first i of n targets are lowered, and the last of these may be owed; after the last without a
-- debt the cycle is over for the node
abbrev pub settled : ℕ → NodeView → ℕ → Bool → NodeView
settled n x i owes = cond owes (record x { phase = Telling i true })
    (cond (eqb i n) (record x { next = x.next + 1; phase = Idle })
    (record x { phase = Telling i false }))

abbrev pub kicked : ℕ → ℕ → Bool → DriverPhase
kicked n i owes = cond owes (drives.Kick i true)
    (cond (eqb i n) drives.Waiting (drives.Kick i false))

abbrev pub settles : Bool → BoardLayout → View → ℕ → ℕ → Bool → Trail → View
settles true p v m i owes t = driven v (kicked (length (p.targets m)) i owes) t
settles false p v m i owes t = view_node v m (settled (length (p.targets m)) (node_of v m) i owes) t

-- the seat remembers the pending word of each target that it lowered
abbrev pub told_trail : Trail → ℕ → ℕ → Trail
told_trail t n word = record t { told = record { node = n; word = word } ∷ t.told }

-- the number of the target that is next
abbrev pub target_of : Bool → BoardLayout → View → ℕ → ℕ
target_of is_driver p v m = p.number (slice_index (p.targets m) (taken is_driver v m))

abbrev pub lowered : Bool → BoardLayout → View → ℕ → ℕ → View
lowered is_driver p v m found = settles is_driver p v m (taken is_driver v m + 1) (eqb found 1)
    (told_trail v.trail (target_of is_driver p v m) found)

-- TRIGGERING: the target that was lowered last is owed
abbrev pub Indebted : ℕ → Phase → Type 0
Indebted n (Telling i true) = (0 < i) × (i < suc n)
Indebted n _ = ⊥

abbrev pub KickIndebted : ℕ → DriverPhase → Type 0
KickIndebted n (drives.Kick i true) = (0 < i) × (i < suc n)
KickIndebted n _ = ⊥

abbrev pub Triggers : Bool → BoardLayout → View → ℕ → Type 0
Triggers true p v m = HasNode true p v m × KickIndebted (length (p.targets m)) v.lead.drive
Triggers false p v m = HasNode false p v m × Indebted (length (p.targets m)) (node_of v m).phase

abbrev pub triggered : Bool → BoardLayout → View → ℕ → View
triggered is_driver p v m = settles is_driver p v m (taken is_driver v m) false v.trail
