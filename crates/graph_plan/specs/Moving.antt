-- What a line does to one part, whatever its sums; the epoch that it makes of it, and the sums
-- then.
-- Source: this project's script grammar.
use Rattle.std.specs.Prelude.{◌≡◌, ℕ, zero, suc, Bool, true, false, List, Option, Some, None, map, sum_by, zip}
use Rattle.pw_graph.specs.declared.plan.Epoch.{Epoch}
use Rattle.wav_files.specs.declared.wav.WavIn.{WavIn}
use Rattle.graph_script.specs.declared.command.Command.{Command}
use Rattle.graph_script.specs.declared.command.Command.TheVariants as C
use Rattle.graph_script.specs.declared.script.Line.{Line}
use Rattle.graph_lines.specs.declared.graph.Graph.{Graph}
use Rattle.graph_lines.specs.declared.graph.Stepped.TheVariants as T
use Rattle.graph_lines.specs.declared.limits.Sums.{Sums}
use Rattle.graph_lines.specs.Draining.{DrainsFor}
use Rattle.graph_lines.specs.EpochLines.{IsAfter}
use Rattle.graph_lines.specs.Epochs.{IsEpochOf}
use Rattle.graph_lines.specs.Lines.{Does}
use Rattle.graph_lines.specs.Sums.{sums_with}
use Rattle.graph_lines.specs.Upcoming.{IsEpochFor}
use Rattle.graph_plan.specs.declared.member.Member.{Member}
use Rattle.graph_plan.specs.PartLines.{is_line_of}

-- a graph runs on for some cycles: an epoch of them is taken
abbrev pub RunsOn : Graph → ℕ → Graph → Type 0
RunsOn g zero after = after ≡ g
RunsOn g (suc n) after = (e : Epoch) × IsEpochOf g (suc n) e × IsAfter g e after

-- a line is done, whatever the sums
abbrev pub MovesOn : List WavIn → Graph → Command → Graph → Type 0
MovesOn waves g (C.Cycles n) after = RunsOn g n after
MovesOn waves g C.Drain after = (n : ℕ) × DrainsFor waves g n × RunsOn g n after
MovesOn waves g command after = Does g command T.Done after

-- OF A PART its lines are done, and other lines leave it
abbrev pub MovesIf : Bool → List WavIn → Graph → Command → Graph → Type 0
MovesIf true waves g command after = MovesOn waves g command after
MovesIf false waves g command after = after ≡ g

abbrev pub Moves : List WavIn → Line → Member → Member → Type 0
Moves waves l m after = (after.nodes ≡ m.nodes)
    × MovesIf (is_line_of m.nodes l) waves m.graph l.command after.graph

-- the epoch of a `cycles` or `drain` line of some cycles; other lines make no epoch
abbrev pub Makes : List WavIn → Graph → Command → Option Epoch → Type 0
Makes waves g (C.Cycles n) made = IsEpochFor g n made
Makes waves g C.Drain made = (n : ℕ) × DrainsFor waves g n × IsEpochFor g n made
Makes waves g other made = made ≡ None

abbrev pub MakesIf : Bool → List WavIn → Graph → Command → Option Epoch → Type 0
MakesIf true waves g command made = Makes waves g command made
MakesIf false waves g command made = made ≡ None

-- THE EPOCH that a line makes of a part
abbrev pub MakesOf : List WavIn → Line → Member → Option Epoch → Type 0
MakesOf waves l m made = MakesIf (is_line_of m.nodes l) waves m.graph l.command made

-- the sums of a part with it, and those of several parts
abbrev pub own_sums : Member → Option Epoch → Sums
own_sums m None = m.graph.sums
own_sums m (Some e) = sums_with m.graph.kinds m.graph.sums e

abbrev pub all_sums : List Member → List (Option Epoch) → List Sums
all_sums members epochs = map (λ x. own_sums x.0 x.1) (zip members epochs)

abbrev pub total : List Sums → Sums
total all = record {
  events = sum_by (λ s. s.events) all;
  samples = sum_by (λ s. s.samples) all;
  bytes = sum_by (λ s. s.bytes) all;
}
