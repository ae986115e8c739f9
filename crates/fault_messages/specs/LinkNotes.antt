-- Why links were not made, in words, by what the plan says of each line with two ends. Source: the
-- causes are those of PipeWire's documentation, "Objects Design", Link; the sentences are this
-- project's own.
use Rattle.std.specs.Prelude.{ℕ, ◌==◌, Bool, true, false, List, [], ◌++◌, codes, filter, flat_map, zip, if◌then◌else◌}
use Rattle.pw_graph.specs.declared.plan.LineOutcome.{LineOutcome}
use Rattle.pw_graph.specs.declared.plan.LineOutcome.TheVariants as O
use Rattle.pw_graph.specs.declared.plan.LinkLine.{LinkLine}
use Rattle.pw_graph.specs.declared.plan.PlanNode.{PlanNode}
use Rattle.graph_script.specs.declared.script.Line.{Line}
use Rattle.refused_links.specs.declared.refused_link.RefusedLink.{RefusedLink}
use Rattle.fault_messages.specs.KeyNames.{clash_said}
use Rattle.fault_messages.specs.LinkEnds.{quoted_end}
use Rattle.fault_messages.specs.NoteHeads.{note_at}
use Rattle.fault_messages.specs.Places.{Words}
use Rattle.fault_messages.specs.RefusedSides.{entry_of, sides_part}
use Rattle.fault_messages.specs.ScriptLines.{has_ends}

-- of a loop: both ends are of one node, or a way leads back
abbrev pub loop_said : LinkLine → List ℕ
loop_said link =
    if link.from.node == link.to.node then codes "a node is not linked to itself"
    else codes "it would close a loop, which only a link of an async node may"

-- whether a link is not made, and the cause; nothing of lines that did what they ask for
abbrev pub is_refused : LineOutcome → Bool
is_refused (O.Linked rate channels buffers) = false
is_refused O.Gone = false
is_refused O.NotThere = false
is_refused _ = true

-- of a key: what both sides admit there
abbrev pub key_cause : List PlanNode → List RefusedLink → ℕ → LinkLine → ℕ → List ℕ
key_cause nodes refused n link key =
    clash_said key ++ sides_part nodes link key (entry_of refused n key)

abbrev pub cause_said : List PlanNode → List RefusedLink → ℕ → LinkLine → LineOutcome → List ℕ
cause_said nodes refused n link (O.NoFormat key) = key_cause nodes refused n link key
cause_said nodes refused n link O.NoBuffers = codes "no number of buffers suits both ports"
cause_said nodes refused n link O.Looped = loop_said link
cause_said nodes refused n link O.Twice = codes "it is there already"
cause_said nodes refused n link (O.Linked rate channels buffers) = []
cause_said nodes refused n link O.Gone = []
cause_said nodes refused n link O.NotThere = []

unfoldable pub ends_head : List PlanNode → LinkLine → List ℕ
ends_head nodes link = quoted_end nodes link.from
    ++ (codes " to " ++ (quoted_end nodes link.to ++ codes " is no link: "))

abbrev pub refused_said : List PlanNode → List RefusedLink → ℕ → LinkLine → List ℕ
refused_said nodes refused n link =
    ends_head nodes link ++ cause_said nodes refused n link link.outcome

-- the note on a line of the script, by its number and by what it did
abbrev pub link_note : Words → List PlanNode → List RefusedLink → ℕ → LinkLine → List ℕ
link_note words nodes refused n link =
    if is_refused link.outcome then note_at words n (refused_said nodes refused n link) else []

-- THE NOTES ON LINKS: the lines with two ends and what they did have one order
abbrev pub link_notes : Words → List PlanNode → List RefusedLink → List Line → List LinkLine
    → List ℕ
link_notes words nodes refused lines links =
    flat_map (λ p. link_note words nodes refused p.0.line p.1)
    (zip (filter (λ line. has_ends line.command) lines) links)
