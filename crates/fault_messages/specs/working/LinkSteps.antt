-- Notes on links, one line of the script at a time: a line with two ends takes the first of what is
-- left. Source: this project's own.
use Rattle.std.specs.Prelude.{ℕ, List, [], ◌∷◌, if◌then◌else◌}
use Rattle.pw_graph.specs.declared.plan.LinkLine.{LinkLine}
use Rattle.pw_graph.specs.declared.plan.PlanNode.{PlanNode}
use Rattle.graph_script.specs.declared.script.Line.{Line}
use Rattle.refused_links.specs.declared.refused_link.RefusedLink.{RefusedLink}
use Rattle.fault_messages.specs.LinkNotes.{link_note}
use Rattle.fault_messages.specs.Places.{Words}
use Rattle.fault_messages.specs.ScriptLines.{has_ends}

-- the note on a line
abbrev pub first_note : Words → List PlanNode → List RefusedLink → ℕ → List LinkLine → List ℕ
first_note words nodes refused n [] = []
first_note words nodes refused n (link ∷ links) = link_note words nodes refused n link

abbrev pub link_part : Words → List PlanNode → List RefusedLink → Line → List LinkLine → List ℕ
link_part words nodes refused line links =
    if has_ends line.command then first_note words nodes refused line.line links else []

-- what is left after it
abbrev pub links_after : List LinkLine → List LinkLine
links_after [] = []
links_after (link ∷ links) = links

abbrev pub links_behind : Line → List LinkLine → List LinkLine
links_behind line links = if has_ends line.command then links_after links else links
