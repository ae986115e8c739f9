-- The epochs so far add up to the sums of the graph.
-- Source: this project's own.
use Rattle.std.specs.Prelude.{◌≡◌, ℕ, ◌+◌, ◌*◌, ◌≤◌, List, [], ◌∷◌, None, All, sum_by}
use Rattle.pw_graph.specs.declared.kind.Kind.{Kind}
use Rattle.pw_graph.specs.declared.plan.Epoch.{Epoch}
use Rattle.pw_graph.specs.PlanSums.{epoch_events}
use Rattle.graph_lines.specs.declared.limits.Sums.{Sums}
use Rattle.graph_lines.specs.Sums.{sink_samples, block_bytes, passed}

-- epochs that follow one another from a cycle up to another
abbrev pub FollowTo : ℕ → List Epoch → ℕ → Type 0
FollowTo first [] next = first ≡ next
FollowTo first (e ∷ es) next = (e.shape.first ≡ first)
    × FollowTo (first + e.shape.cycles) es next

-- the sums are those of the epochs, and pass no limit
pub record AreSummed (quantum : ℕ) (kinds : List Kind) (epochs : List Epoch) (first : ℕ)
    (sums : Sums) : Type 0 where
  pub follow : FollowTo 0 epochs first
  pub cycles : 3 * first ≤ sums.events
  pub quanta : All (λ e. e.shape.quantum ≡ quantum) epochs
  pub events : sums.events ≡ sum_by epoch_events epochs
  pub samples : sums.samples ≡ sum_by (sink_samples kinds) epochs
  pub bytes : sums.bytes ≡ sum_by block_bytes epochs
  pub within : passed sums ≡ None
