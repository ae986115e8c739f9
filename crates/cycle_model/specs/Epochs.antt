-- Cycles of a plan: which epoch one belongs to, and what that epoch's graph has. Source: this
-- project's own.
use Rattle.std.specs.Prelude.{ℕ, ◌+◌, ◌-◌, ◌==◌, ◌&&◌, Bool, List, [], Option, Some, None, option_map, unwrap_or, map, filter, find, fold}
use Rattle.std.specs.Prelude.{sum_by, nat_lt, nat_le, if◌then◌else◌}
use Rattle.std.specs.List.{list_any, range_with_len}
use Rattle.pw_graph.specs.declared.ids.PortId.{PortId}
use Rattle.pw_graph.specs.declared.shape.ShapeLink.{ShapeLink}
use Rattle.pw_graph.specs.declared.plan.Epoch.{Epoch}
use Rattle.pw_graph.specs.declared.plan.PortForm.{PortForm}
use Rattle.pw_graph.specs.declared.plan.Plan.{Plan}
use Rattle.pw_graph.specs.Pools.{is_same_port}

-- a cycle lies in an epoch; the first epoch in which it lies
abbrev pub is_within : Epoch → ℕ → Bool
is_within epoch cycle = nat_le epoch.shape.first cycle
    && nat_lt cycle (epoch.shape.first + epoch.shape.cycles)

abbrev pub epoch_at : Plan → ℕ → Option Epoch
epoch_at plan cycle = find (λ e. is_within e cycle) plan.epochs

-- a list of the cycle's epoch; of no epoch, nothing
abbrev pub listed : {X : Type 0} → (Epoch → List X) → Option Epoch → List X
listed f None = []
listed f (Some epoch) = f epoch

-- the active nodes, the live links and the forms of a cycle, and the first cycle of its epoch
abbrev pub nodes_at : Plan → ℕ → List ℕ
nodes_at plan cycle = listed (λ e. map (λ n. n.node) e.shape.nodes) (epoch_at plan cycle)

abbrev pub links_at : Plan → ℕ → List ShapeLink
links_at plan cycle = listed (λ e. e.shape.links) (epoch_at plan cycle)

abbrev pub forms_at : Plan → ℕ → List PortForm
forms_at plan cycle = listed (λ e. e.forms) (epoch_at plan cycle)

abbrev pub first_at : Plan → ℕ → ℕ
first_at plan cycle = unwrap_or (option_map (λ e. e.shape.first) (epoch_at plan cycle)) 0

-- a node is active in a cycle; the live links into a port
abbrev pub is_active : Plan → ℕ → ℕ → Bool
is_active plan cycle node = list_any (λ n. n == node) (nodes_at plan cycle)

abbrev pub links_into : Plan → ℕ → PortId → List ShapeLink
links_into plan cycle port = filter (λ l. is_same_port l.to port) (links_at plan cycle)

-- the channels of a port, 0 without a form
abbrev pub channels_of : List PortForm → PortId → ℕ
channels_of forms port = unwrap_or
    (option_map (λ f. f.channels) (find (λ f. is_same_port f.port port) forms)) 0

abbrev pub channels_at : Plan → ℕ → PortId → ℕ
channels_at plan cycle port = channels_of (forms_at plan cycle) port

-- the cycles from one to another, both included, in which a node is active
abbrev pub active_cycles : Plan → ℕ → ℕ → ℕ → List ℕ
active_cycles plan from to node = filter (λ k. is_active plan k node)
    (range_with_len from (to + 1 - from))

-- where a node's stream begins: with the last epoch, up to the cycle, for which it is fresh
abbrev pub is_fresh : Epoch → ℕ → Bool
is_fresh epoch node = list_any (λ f. f.node == node) epoch.fresh

abbrev pub stream_start : Plan → ℕ → ℕ → ℕ
stream_start plan cycle node =
    fold (λ start e. if nat_le e.shape.first cycle && is_fresh e node then e.shape.first
    else start) 0 plan.epochs

-- the cycles of all epochs
abbrev pub all_cycles : Plan → ℕ
all_cycles plan = sum_by (λ e. e.shape.cycles) plan.epochs
