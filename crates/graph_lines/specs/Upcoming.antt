-- The epoch that a line would make, read off the graph before that line.
-- Source: this project's script grammar.
use Rattle.std.specs.Prelude.{◌≡◌, ℕ, zero, suc, ◌+◌, List, Option, Some, None}
use Rattle.pw_graph.specs.declared.plan.Epoch.{Epoch}
use Rattle.pw_lists.specs.Limits.{events_limit}
use Rattle.wav_files.specs.declared.wav.WavIn.{WavIn}
use Rattle.graph_script.specs.declared.command.Command.{Command}
use Rattle.graph_script.specs.declared.command.Command.TheVariants as C
use Rattle.graph_lines.specs.declared.graph.Graph.{Graph}
use Rattle.graph_lines.specs.Epochs.{IsEpochOf}
use Rattle.graph_lines.specs.Gathering.{DrainsUpTo}

-- the epoch of n cycles; none where n is 0
abbrev pub IsEpochFor : Graph → ℕ → Option Epoch → Type 0
IsEpochFor g zero made = made ≡ None
IsEpochFor g (suc n) made = (e : Epoch) × IsEpochOf g (suc n) e × (made ≡ Some e)

-- UPCOMING: the epoch of a `cycles` or `drain` line; other lines make no epoch. A drain counts at
-- most one cycle more than there may be events, with which it passes their limit
abbrev pub IsUpcoming : List WavIn → Graph → Command → Option Epoch → Type 0
IsUpcoming waves g (C.Cycles n) made = IsEpochFor g n made
IsUpcoming waves g C.Drain made = (n : ℕ) × DrainsUpTo (events_limit + 1) waves g n
    × IsEpochFor g n made
IsUpcoming waves g other made = made ≡ None
