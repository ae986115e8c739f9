-- Several parts as one: each node as its own part ends it, and what the sinks and meters of all
-- parts have, ascending by node.
-- Source: PipeWire's documentation, "Graph Scheduling" (several drivers); parts are this project's.
use Rattle.std.specs.Prelude.{ℕ, ◌==◌, List, [], find, filter_map, flat_map, slice_get, Option, Some, None}
use Rattle.std.specs.List.{range_with_len}
use Rattle.pw_graph.specs.declared.parts.Part.{Part}
use Rattle.pw_graph.specs.declared.parts.Parts.{Parts}
use Rattle.pw_graph.specs.declared.plan.Plan.{Plan}
use Rattle.pw_graph.specs.declared.plan.PlanNode.{PlanNode}
use Rattle.wav_files.specs.declared.outcome.Kept.{Kept}
use Rattle.wav_files.specs.declared.outcome.Outcome.{Outcome}
use Rattle.wav_files.specs.declared.outcome.Peak.{Peak}
use Rattle.graph_plan.specs.Parts.{is_among}

-- the node of this number in the plan of a part, if there is a part
abbrev pub node_of : ℕ → Option Part → Option PlanNode
node_of n None = None
node_of n (Some part) = slice_get part.plan.nodes n

-- the node as the part that has it ends it
abbrev pub node_in : List Part → ℕ → Option PlanNode
node_in parts n = node_of n (find (λ part. is_among part.nodes n) parts)

-- the nodes of all parts, and what each `link` and `unlink` line did; epochs have no text
abbrev pub joined_plan : ℕ → Parts → Plan
joined_plan count p = record {
  quantum = 0;
  nodes = filter_map (node_in p.parts) (range_with_len 0 count);
  epochs = [];
  lines = p.lines;
}

-- what several runs have left, one after the other
abbrev pub all_of : List Outcome → Outcome
all_of outcomes = record {
  history = flat_map (λ o. o.history) outcomes;
  sinks = flat_map (λ o. o.sinks) outcomes;
  peaks = flat_map (λ o. o.peaks) outcomes;
}

-- what a sink has kept, and the peak of a meter
abbrev pub kept_at : List Kept → ℕ → Option Kept
kept_at sinks n = find (λ k. k.node == n) sinks

abbrev pub peak_at : List Peak → ℕ → Option Peak
peak_at peaks n = find (λ p. p.node == n) peaks

-- ASCENDING by node, and without the history
abbrev pub in_order : ℕ → Outcome → Outcome
in_order count all = record {
  history = [];
  sinks = filter_map (kept_at all.sinks) (range_with_len 0 count);
  peaks = filter_map (peak_at all.peaks) (range_with_len 0 count);
}
