-- The line of a `link` or `unlink` in a text. Source: the form is this project's own.
use Rattle.std.specs.Prelude.{ℕ, List, [], ◌∷◌, codes, decimal}
use Rattle.pw_graph.specs.declared.plan.PlanNode.{PlanNode}
use Rattle.pw_graph.specs.declared.plan.LinkLine.{LinkLine}
use Rattle.pw_graph.specs.declared.plan.LineOutcome.{LineOutcome}
use Rattle.pw_graph.specs.declared.plan.LineOutcome.TheVariants.{Linked, NoFormat, NoBuffers, Looped, Twice, Gone, NotThere}
use Rattle.cycle_trace.specs.NodeNames.{endpoint}
use Rattle.cycle_trace.specs.Words.{line}

-- its first word
abbrev pub link_word : LineOutcome → List ℕ
link_word (Linked rate channels buffers) = codes "link"
link_word (NoFormat key) = codes "nolink"
link_word NoBuffers = codes "nolink"
link_word Looped = codes "nolink"
link_word Twice = codes "nolink"
link_word Gone = codes "unlink"
link_word NotThere = codes "nounlink"

-- the words after its two ports
abbrev pub link_details : LineOutcome → List (List ℕ)
link_details (Linked rate channels buffers) = decimal rate ∷ decimal channels
    ∷ decimal buffers ∷ []
link_details (NoFormat key) = decimal key ∷ []
link_details NoBuffers = codes "buffers" ∷ []
link_details Looped = codes "loop" ∷ []
link_details Twice = codes "twice" ∷ []
link_details Gone = []
link_details NotThere = []

-- the whole line
abbrev pub link_line : List PlanNode → LinkLine → List ℕ
link_line nodes l = line (link_word l.outcome)
    (endpoint nodes l.from ∷ endpoint nodes l.to ∷ link_details l.outcome)
