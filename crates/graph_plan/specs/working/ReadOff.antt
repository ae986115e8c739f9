-- What is said of a node, read off the epochs so far: its cycles, if it had a form, its channels.
-- Source: this project's own.
use Rattle.std.specs.Prelude.{◌≡◌, ℕ, ◌<◌, ◌==◌, Bool, List, length, fold, find, sum_by}
use Rattle.std.specs.Prelude.{option_map, unwrap_or}
use Rattle.std.specs.List.{list_any}
use Rattle.pw_graph.specs.declared.plan.Epoch.{Epoch}
use Rattle.graph_lines.specs.declared.graph.Graph.{Graph}
use Rattle.graph_lines.specs.Activity.{standing}
use Rattle.graph_lines.specs.EpochLines.{cycles_in, is_formed_sink}

-- the cycles that a node was active in
abbrev pub ran_in : List Epoch → ℕ → ℕ
ran_in epochs n = sum_by (λ e. cycles_in e n) epochs

-- it is a sink that had a form in some epoch
abbrev pub was_formed_sink : Graph → List Epoch → ℕ → Bool
was_formed_sink g epochs n = list_any (λ e. is_formed_sink g e n) epochs

-- the channels with which an epoch names a node, else those before
abbrev pub told_by : ℕ → ℕ → Epoch → ℕ
told_by n before e =
    unwrap_or (option_map (λ f. f.channels) (find (λ f. f.node == n) e.fresh)) before

-- the channels with which the last epoch that names it does; 0 where no epoch does
abbrev pub told_in : List Epoch → ℕ → ℕ
told_in epochs n = fold (told_by n) 0 epochs

-- READ OFF: so it is with each node
pub record IsReadOff (g : Graph) : Type 0 where
  pub ran : (n : ℕ) → n < length g.nodes → (standing g.nodes n).ran ≡ ran_in g.epochs n
  pub kept : (n : ℕ) → n < length g.nodes
      → (standing g.nodes n).kept ≡ was_formed_sink g g.epochs n
  pub told : (n : ℕ) → n < length g.nodes → (standing g.nodes n).told ≡ told_in g.epochs n
