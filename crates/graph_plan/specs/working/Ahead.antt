-- The epochs that a line would make of the parts, and the sums of all parts with them.
-- Source: this project's own.
use Rattle.std.specs.Prelude.{◌≡◌, ◌+◌, Bool, true, false, List, Option, None, Result, Ok, Err}
use Rattle.std.specs.List.{AllZip}
use Rattle.pw_lists.specs.declared.limit.Which.{Which}
use Rattle.pw_graph.specs.declared.plan.Epoch.{Epoch}
use Rattle.wav_files.specs.declared.wav.WavIn.{WavIn}
use Rattle.graph_script.specs.declared.command.Command.{Command}
use Rattle.graph_script.specs.declared.command.Command.TheVariants as C
use Rattle.graph_script.specs.declared.script.Line.{Line}
use Rattle.graph_lines.specs.declared.graph.Graph.{Graph}
use Rattle.graph_lines.specs.declared.limits.Sums.{Sums}
use Rattle.graph_lines.specs.Sums.{passed, capped_sums}
use Rattle.graph_lines.specs.Upcoming.{IsUpcoming}
use Rattle.graph_plan.specs.declared.member.Member.{Member}
use Rattle.graph_plan.specs.declared.moving.Ahead.{Ahead}
use Rattle.graph_plan.specs.Moving.{MakesOf, all_sums, total}
use Rattle.graph_plan.specs.PartLines.{is_line_of}
use Rattle.graph_plan.specs.Together.{HasSums}

-- a line that may make an epoch
abbrev pub is_run : Command → Bool
is_run (C.Cycles n) = true
is_run C.Drain = true
is_run _ = false

-- sums, added
abbrev pub both_sums : Sums → Sums → Sums
both_sums a b = record {
  events = a.events + b.events;
  samples = a.samples + b.samples;
  bytes = a.bytes + b.bytes;
}

-- the epoch that a line would make of a part; a drain is cut where it passes a limit in any case
abbrev pub IsAheadIf : Bool → List WavIn → Graph → Command → Option Epoch → Type 0
IsAheadIf true waves g command made = IsUpcoming waves g command made
IsAheadIf false waves g command made = made ≡ None

abbrev pub IsAhead : List WavIn → Line → Member → Option Epoch → Type 0
IsAhead waves l m made = IsAheadIf (is_line_of m.nodes l) waves m.graph l.command made

-- those of all parts, and what they add up to
pub record AreAhead (waves : List WavIn) (l : Line) (members : List Member) (a : Ahead)
    : Type 0 where
  pub each : AllZip (IsAhead waves l) members a.epochs
  pub sums : a.sums ≡ capped_sums (total (all_sums members a.epochs))

-- the epochs that a line makes of all parts, whose sums pass no limit; or the limit
pub record AreToCome (waves : List WavIn) (l : Line) (members : List Member)
    (epochs : List (Option Epoch)) : Type 0 where
  pub each : AllZip (MakesOf waves l) members epochs
  pub within : passed (total (all_sums members epochs)) ≡ None

abbrev pub AreJudged : List WavIn → Line → List Member → Result (List (Option Epoch)) Which
    → Type 0
AreJudged waves l members (Ok epochs) = AreToCome waves l members epochs
AreJudged waves l members (Err which) = HasSums waves members l which
