-- The links that the lines of a script refuse for want of a common format.
-- Source: PipeWire's documentation, "Graph Scheduling", and "Objects Design", Link;
-- spa/pod/filter.h; the lines are this project's.
use Rattle.std.specs.Prelude.{◌≡◌, ℕ, List, [], ◌∷◌, ◌++◌, length, slice_get}
use Rattle.std.specs.Prelude.{Option, Some, None, option_and_then, option_to_list}
use Rattle.pw_graph.specs.declared.ids.PortId.{PortId}
use Rattle.pw_graph.specs.declared.plan.LineOutcome.{LineOutcome}
use Rattle.pw_graph.specs.declared.plan.LineOutcome.TheVariants as O
use Rattle.pw_graph.specs.declared.plan.LinkLine.{LinkLine}
use Rattle.wav_files.specs.declared.wav.WavIn.{WavIn}
use Rattle.graph_script.specs.declared.command.Command.{Command}
use Rattle.graph_script.specs.declared.command.Command.TheVariants as C
use Rattle.graph_script.specs.declared.script.Line.{Line}
use Rattle.port_model.specs.declared.port_state.Node.{Node}
use Rattle.graph_lines.specs.declared.graph.Graph.{Graph}
use Rattle.graph_lines.specs.declared.graph.Stepped.{Stepped}
use Rattle.graph_lines.specs.Rehearsal.{Rehearses}
use Rattle.graph_lines.specs.Start.{IsStart}
use Rattle.refused_links.specs.declared.refused_link.RefusedLink.{RefusedLink}
use Rattle.refused_links.specs.Sides.{HasSides}

-- the key of an outcome without a common format
abbrev pub key_in : LineOutcome → Option ℕ
key_in (O.NoFormat key) = Some key
key_in other = None

-- the key at which the line that is noted at a place found no common format, if it did
abbrev pub noted_key : List LinkLine → ℕ → Option ℕ
noted_key lines place = option_and_then (λ l. key_in l.outcome) (slice_get lines place)

-- REFUSED LINK of a `link` line: the line is noted, behind those before it, as without a common
-- format, and before the line its ports part at the noted key
pub record IsRefusedLink (g : Graph) (number : ℕ) (output input : PortId) (after : Graph)
    (r : RefusedLink) : Type 0 where
  pub line : r.line ≡ number
  pub place : r.place ≡ length g.lines
  pub from : r.from ≡ output
  pub to : r.to ≡ input
  pub noted : noted_key after.lines (length g.lines) ≡ Some r.key
  pub sides : HasSides g.ports output input r.key r.sides

-- what a `link` line adds: nothing where it is not noted so, else its refused link
abbrev pub LinkAdds : Graph → ℕ → PortId → PortId → Graph → Option RefusedLink → Type 0
LinkAdds g number from to after None = noted_key after.lines (length g.lines) ≡ None
LinkAdds g number from to after (Some r) = IsRefusedLink g number from to after r

-- what a line adds: nothing, unless it is a `link` line
abbrev pub Adds : Graph → ℕ → Command → Graph → Option RefusedLink → Type 0
Adds g number (C.Link from to) after added = LinkAdds g number from to after added
Adds g number other after added = added ≡ None

-- ONE LINE: from the graph before it to the graph after it, and what it adds
abbrev pub RefusesAt : List WavIn → Graph → Line → Graph → Option RefusedLink → Type 0
RefusesAt waves g l after added = (stepped : Stepped)
    × Rehearses waves g l.command stepped after × Adds g l.line l.command after added

-- ALL LINES: what they add, one after the other
abbrev pub Refuses : List WavIn → Graph → List Line → List RefusedLink → Type 0
Refuses waves g [] refused = refused ≡ []
Refuses waves g (l ∷ ls) refused = (after : Graph) × (added : Option RefusedLink)
    × (later : List RefusedLink) × RefusesAt waves g l after added
    × Refuses waves after ls later × (refused ≡ option_to_list added ++ later)

-- REFUSED LINKS of a script with these waves and ports
abbrev pub AreRefusedLinks : List Line → List WavIn → List Node → List RefusedLink → Type 0
AreRefusedLinks lines waves ports refused =
    (start : Graph) × IsStart lines ports start × Refuses waves start lines refused
