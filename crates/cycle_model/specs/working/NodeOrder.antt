-- The order of an epoch's nodes: each after those whose output it gets in the same cycle.
-- Source: PipeWire's documentation, "Graph Scheduling": a node runs after those it depends on.
use Rattle.std.specs.Prelude.{◌≡◌, ℕ, ◌<◌, ◌==◌, Bool, true, false, List, All, take, length, slice_index}
use Rattle.std.specs.List.{list_any}
use Rattle.pw_graph.specs.declared.plan.Epoch.{Epoch}
use Rattle.cycle_model.specs.Mixing.{takes_part}

-- a node is among others
abbrev pub is_among : List ℕ → ℕ → Bool
is_among nodes node = list_any (λ n. n == node) nodes

-- an active node that may come after these: it is not one of them, and each link into it that is
-- not delayed leads from one of them
pub record MayFollow (epoch : Epoch) (done : List ℕ) (node : ℕ) : Type 0 where
  pub active : takes_part epoch node ≡ true
  pub other : is_among done node ≡ false
  pub ready : All (λ l. l.delayed ≡ false → l.to.node ≡ node
      → is_among done l.from.node ≡ true) epoch.shape.links

-- each node of the list may follow those before it
abbrev pub IsOrder : Epoch → List ℕ → Type 0
IsOrder epoch order = (i : ℕ) → i < length order
    → MayFollow epoch (take i order) (slice_index order i)

-- each active node is in the list
abbrev pub IsWhole : Epoch → List ℕ → Type 0
IsWhole epoch order = (node : ℕ) → takes_part epoch node ≡ true
    → is_among order node ≡ true
