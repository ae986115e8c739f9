-- What a whole script means: its plan, or the first line that passes a limit.
-- Source: this project's.
use Rattle.std.specs.Prelude.{ℕ, List, Result, Ok, Err}
use Rattle.pw_graph.specs.declared.plan.Plan.{Plan}
use Rattle.wav_files.specs.declared.wav.WavIn.{WavIn}
use Rattle.graph_script.specs.declared.script.Line.{Line}
use Rattle.port_model.specs.declared.port_state.Node.{Node}
use Rattle.graph_lines.specs.declared.graph.Graph.{Graph}
use Rattle.graph_lines.specs.Start.{IsStart}
use Rattle.graph_plan.specs.declared.fault.PlanFault.{PlanFault}
use Rattle.graph_plan.specs.declared.fault.PlanFault.TheVariants as F
use Rattle.graph_plan.specs.Following.{Follows}
use Rattle.graph_plan.specs.PlanOf.{IsPlanOf}

-- what is left of following the lines from a graph on, unless memory runs out
abbrev pub IsFollowed : List WavIn → Graph → List Line → Result Graph PlanFault → Type 0
IsFollowed waves g lines (Ok end) = Follows waves g lines (Ok end)
IsFollowed waves g lines (Err (F.Limit line which)) = Follows waves g lines (Err (line, which))
IsFollowed waves g lines (Err F.Memory) = Unit {0}

-- what is answered of the lines from a graph on, unless memory runs out
abbrev pub IsAnswer : List (List ℕ) → List WavIn → Graph → List Line
    → Result Plan PlanFault
    → Type 0
IsAnswer names waves g lines (Ok plan) =
    (end : Graph) × Follows waves g lines (Ok end) × IsPlanOf names end plan
IsAnswer names waves g lines (Err (F.Limit line which)) = Follows waves g lines (Err (line, which))
IsAnswer names waves g lines (Err F.Memory) = Unit {0}

-- PLANNED: so from the graph before the first line, with these ports
abbrev pub IsPlanned : List Line → List (List ℕ) → List WavIn → List Node
    → Result Plan PlanFault → Type 0
IsPlanned lines names waves ports (Err F.Memory) = Unit {0}
IsPlanned lines names waves ports outcome =
    (start : Graph) × IsStart lines ports start × IsAnswer names waves start lines outcome
