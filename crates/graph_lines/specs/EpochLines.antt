-- What a line does that makes an epoch, and what any line does.
-- Source: this project's script grammar and limits.
use Rattle.std.specs.Prelude.{◌≡◌, ℕ, zero, suc, ◌+◌, ◌<◌, ◌==◌, ◌||◌, ◌&&◌, Bool, false, List, [], ◌∷◌, ◌++◌}
use Rattle.std.specs.Prelude.{Some, None, length, slice_index_or, if◌then◌else◌}
use Rattle.std.specs.List.{list_any}
use Rattle.pw_graph.specs.declared.kind.Kind.TheVariants.{Dummy}
use Rattle.pw_graph.specs.declared.plan.Epoch.{Epoch}
use Rattle.pw_graph.specs.PlanSums.{is_sink}
use Rattle.wav_files.specs.declared.wav.WavIn.{WavIn}
use Rattle.graph_script.specs.declared.command.Command.{Command}
use Rattle.graph_script.specs.declared.command.Command.TheVariants as C
use Rattle.graph_lines.specs.declared.graph.Graph.{Graph}
use Rattle.graph_lines.specs.declared.graph.Stepped.{Stepped}
use Rattle.graph_lines.specs.declared.graph.Stepped.TheVariants as T
use Rattle.graph_lines.specs.declared.standing.Standing.{Standing}
use Rattle.graph_lines.specs.Activity.{standing}
use Rattle.graph_lines.specs.Draining.{DrainsFor}
use Rattle.graph_lines.specs.Sums.{sums_with, passed}
use Rattle.graph_lines.specs.Epochs.{has_node, IsEpochOf}
use Rattle.graph_lines.specs.Fresh.{ChannelsIn}
use Rattle.graph_lines.specs.Lines.{Does}

-- the cycles of an epoch that a node is active in, and whether it is a sink that has a form in it
abbrev pub cycles_in : Epoch → ℕ → ℕ
cycles_in e n = if has_node e.shape n then e.shape.cycles else 0

abbrev pub is_formed_sink : Graph → Epoch → ℕ → Bool
is_formed_sink g e n = is_sink (slice_index_or g.kinds n Dummy)
    && list_any (λ f. f.port.node == n) e.forms

-- what is said of a node after an epoch: its channels were noted, it ran, and a sink with a form in
-- it keeps its format
pub record StandsAfter (g : Graph) (e : Epoch) (n : ℕ) (after : Standing) : Type 0 where
  pub told : ChannelsIn g n after.told
  pub rest : after ≡ record (standing g.nodes n) {
    gave_up = false;
    told = after.told;
    kept = (standing g.nodes n).kept || is_formed_sink g e n;
    ran = (standing g.nodes n).ran + cycles_in e n;
  }

-- AFTER AN EPOCH: one epoch more, the next cycle's number, the new sums, and what is said of the
-- nodes
pub record IsAfter (g : Graph) (e : Epoch) (after : Graph) : Type 0 where
  pub many : length after.nodes ≡ length g.nodes
  pub nodes : (n : ℕ) → n < length g.nodes → StandsAfter g e n (standing after.nodes n)
  pub same : after ≡ record g {
    epochs = g.epochs ++ e ∷ [];
    first = g.first + e.shape.cycles;
    sums = sums_with g.kinds g.sums e;
    nodes = after.nodes;
  }

-- an epoch is taken where the sums with it pass no limit
abbrev pub IsTaken : Graph → Epoch → Stepped → Graph → Type 0
IsTaken g e T.Done after = (passed (sums_with g.kinds g.sums e) ≡ None) × IsAfter g e after
IsTaken g e (T.Passed which) after = passed (sums_with g.kinds g.sums e) ≡ Some which

-- RUN for some cycles: an epoch of them; no cycles make no epoch, pass no limit, and nothing is
-- forgotten
abbrev pub RunsFor : Graph → ℕ → Stepped → Graph → Type 0
RunsFor g zero stepped after = (stepped ≡ T.Done) × (after ≡ g)
RunsFor g (suc n) stepped after = (e : Epoch) × IsEpochOf g (suc n) e × IsTaken g e stepped after

-- ANY LINE
abbrev pub Steps : List WavIn → Graph → Command → Stepped → Graph → Type 0
Steps waves g (C.Cycles n) stepped after = RunsFor g n stepped after
Steps waves g C.Drain stepped after = (n : ℕ) × DrainsFor waves g n × RunsFor g n stepped after
Steps waves g command stepped after = Does g command stepped after
