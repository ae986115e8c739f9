-- All parts of a script, followed together: the sums that have a limit are those of all of them.
-- Source: this project's script grammar and limits.
use Rattle.std.specs.Prelude.{◌≡◌, ◌⊎◌, ℕ, ◌-◌, ◌&&◌, Bool, true, List, [], ◌∷◌, ◌++◌, map, length, find}
use Rattle.std.specs.Prelude.{Option, Some, None, Result, Ok, Err, Contains, slice_get, option_to_list}
use Rattle.std.specs.List.{AllZip}
use Rattle.std.specs.Option.{option_map_or}
use Rattle.pw_lists.specs.declared.limit.Which.{Which}
use Rattle.pw_lists.specs.declared.limit.Which.TheVariants as W
use Rattle.pw_graph.specs.declared.plan.Epoch.{Epoch}
use Rattle.pw_graph.specs.declared.plan.LinkLine.{LinkLine}
use Rattle.wav_files.specs.declared.wav.WavIn.{WavIn}
use Rattle.graph_script.specs.declared.command.Command.{Command}
use Rattle.graph_script.specs.declared.command.Command.TheVariants as C
use Rattle.graph_script.specs.declared.script.Line.{Line}
use Rattle.graph_lines.specs.declared.graph.Graph.{Graph}
use Rattle.graph_lines.specs.declared.graph.Stepped.TheVariants as T
use Rattle.graph_lines.specs.Lines.{Does}
use Rattle.graph_lines.specs.Rehearsal.{Rehearses}
use Rattle.graph_lines.specs.Sums.{passed}
use Rattle.graph_plan.specs.declared.member.Member.{Member}
use Rattle.graph_plan.specs.declared.together.Together.{Together}
use Rattle.graph_plan.specs.Moving.{Moves, MakesOf, all_sums, total}
use Rattle.graph_plan.specs.PartLines.{is_line_of}
use Rattle.graph_plan.specs.Parts.{is_among}

-- what a `link` or `unlink` line did: in the first part that has both nodes, else in the whole
abbrev pub has_both : ℕ → ℕ → Member → Bool
has_both a b m = is_among m.nodes a && is_among m.nodes b

abbrev pub last_line : Graph → List LinkLine
last_line g = option_to_list (slice_get g.lines (length g.lines - 1))

abbrev pub said_last : Graph → List Member → ℕ → ℕ → List LinkLine
said_last whole members a b =
    last_line (option_map_or (λ m. m.graph) (find (has_both a b) members) whole)

abbrev pub noted : Graph → List Member → Command → List LinkLine
noted whole members (C.Link from to) = said_last whole members from.node to.node
noted whole members (C.Unlink from to) = said_last whole members from.node to.node
noted whole members other = []

-- A LINE is done in the whole, which makes no epoch, and in each part
pub record GoesOn (waves : List WavIn) (t : Together) (l : Line) (next : Together) : Type 0 where
  pub whole : Rehearses waves t.whole l.command T.Done next.whole
  pub members : AllZip (Moves waves l) t.members next.members
  pub sums : passed (total (map (λ m. m.graph.sums) next.members)) ≡ None
  pub lines : next.lines ≡ t.lines ++ noted next.whole next.members l.command

-- 256 links are there, in the whole or in the part of the line
pub record HasManyIn (members : List Member) (l : Line) : Type 0 where
  pub member : Member
  pub there : Contains members member
  pub line_of : is_line_of member.nodes l ≡ true
  pub after : Graph
  pub passes : Does member.graph l.command (T.Passed W.Links) after

abbrev pub HasMany : List WavIn → Together → Line → Type 0
HasMany waves t l = HasManyIn t.members l
    ⊎ ((after : Graph) × Rehearses waves t.whole l.command (T.Passed W.Links) after)

-- the sums of all parts, with the epochs that the line makes of them, pass a limit
pub record HasSums (waves : List WavIn) (members : List Member) (l : Line) (which : Which)
    : Type 0 where
  pub epochs : List (Option Epoch)
  pub made : AllZip (MakesOf waves l) members epochs
  pub passes : passed (total (all_sums members epochs)) ≡ Some which

-- A LIMIT is passed
abbrev pub Passes : List WavIn → Together → Line → Which → Type 0
Passes waves t l which =
    ((which ≡ W.Links) × HasMany waves t l) ⊎ HasSums waves t.members l which

-- ALL LINES, up to the end or to the first one that passes a limit
abbrev pub FollowTogether : List WavIn → Together → List Line
    → Result Together (ℕ × Which) → Type 0
FollowTogether waves t [] outcome = outcome ≡ Ok t
FollowTogether waves t (l ∷ ls) outcome =
    ((next : Together) × GoesOn waves t l next × FollowTogether waves next ls outcome)
    ⊎ ((which : Which) × Passes waves t l which × (outcome ≡ Err (l.line, which)))
