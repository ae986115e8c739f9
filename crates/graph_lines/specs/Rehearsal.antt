-- Rehearsal: what lines do to links and formats, where epochs leave nothing but what formats hang
-- on.
-- Source: this project's.
use Rattle.std.specs.Prelude.{◌≡◌, ℕ, zero, suc, ◌+◌, ◌-◌, ◌^◌, ◌||◌, min, List, [], ◌∷◌, ◌++◌, length, map, drop}
use Rattle.std.specs.List.{range_with_len}
use Rattle.pw_graph.specs.declared.plan.Epoch.{Epoch}
use Rattle.wav_files.specs.declared.wav.WavIn.{WavIn}
use Rattle.graph_script.specs.declared.command.Command.{Command}
use Rattle.graph_script.specs.declared.command.Command.TheVariants as C
use Rattle.graph_script.specs.declared.script.Line.{Line}
use Rattle.graph_lines.specs.declared.graph.Graph.{Graph}
use Rattle.graph_lines.specs.declared.graph.Stepped.{Stepped}
use Rattle.graph_lines.specs.declared.graph.Stepped.TheVariants as T
use Rattle.graph_lines.specs.declared.standing.Standing.{Standing}
use Rattle.graph_lines.specs.declared.wire.Wire.{Wire}
use Rattle.graph_lines.specs.Activity.{standing}
use Rattle.graph_lines.specs.Draining.{DrainsFor}
use Rattle.graph_lines.specs.EpochLines.{cycles_in, is_formed_sink}
use Rattle.graph_lines.specs.Epochs.{IsEpochOf}
use Rattle.graph_lines.specs.Lines.{Does}

-- what an epoch leaves of a node: a sink that has a form in it keeps its format, and its cycles are
-- counted, up to the greatest number of 32 bits, which is above the frames of each file
abbrev pub standing_past : Graph → Epoch → ℕ → Standing
standing_past g e n = record (standing g.nodes n) {
  kept = (standing g.nodes n).kept || is_formed_sink g e n;
  ran = min ((standing g.nodes n).ran + cycles_in e n) (2 ^ 32 - 1);
}

-- PAST AN EPOCH: so it is with each node, and all else stays
abbrev pub gone_past : Graph → Epoch → Graph
gone_past g e = record g {
  nodes = map (standing_past g e) (range_with_len 0 (length g.nodes));
}

-- past an epoch of n cycles; where n is 0, all is as it was
abbrev pub GoesPast : Graph → ℕ → Graph → Type 0
GoesPast g zero after = after ≡ g
GoesPast g (suc n) after = (e : Epoch) × IsEpochOf g (suc n) e × (after ≡ gone_past g e)

-- ANY LINE of a rehearsal: no epoch is made, and no sum has a limit
abbrev pub Rehearses : List WavIn → Graph → Command → Stepped → Graph → Type 0
Rehearses waves g (C.Cycles n) stepped after = (stepped ≡ T.Done) × GoesPast g n after
Rehearses waves g C.Drain stepped after = (stepped ≡ T.Done)
    × ((n : ℕ) × DrainsFor waves g n × GoesPast g n after)
Rehearses waves g command stepped after = Does g command stepped after

-- EVERY LINK that lines make, at whatever line; a line that has 256 links before it makes no link
abbrev pub HasMade : List WavIn → Graph → List Line → List Wire → Type 0
HasMade waves g [] made = made ≡ []
HasMade waves g (l ∷ ls) made = (stepped : Stepped) × (next : Graph) × (later : List Wire)
    × Rehearses waves g l.command stepped next × HasMade waves next ls later
    × (made ≡ drop (length g.wires) next.wires ++ later)
