-- What the parts of a script mean: a plan for each of them, or the first line that passes a limit.
-- Source: this project's.
use Rattle.std.specs.Prelude.{◌≡◌, ℕ, List, [], map, length, Result, Ok, Err, Contains}
use Rattle.std.specs.List.{AllZip}
use Rattle.pw_graph.specs.declared.parts.Part.{Part}
use Rattle.pw_graph.specs.declared.parts.Parts.{Parts}
use Rattle.pw_graph.specs.declared.plan.LineOutcome.{LineOutcome}
use Rattle.pw_graph.specs.declared.plan.LineOutcome.TheVariants as O
use Rattle.pw_graph.specs.declared.plan.LinkLine.{LinkLine}
use Rattle.wav_files.specs.declared.wav.WavIn.{WavIn}
use Rattle.graph_script.specs.declared.script.Line.{Line}
use Rattle.port_model.specs.declared.port_state.Node.{Node}
use Rattle.graph_lines.specs.declared.graph.Graph.{Graph}
use Rattle.graph_lines.specs.Start.{IsStart}
use Rattle.graph_plan.specs.declared.fault.PlanFault.{PlanFault}
use Rattle.graph_plan.specs.declared.fault.PlanFault.TheVariants as F
use Rattle.graph_plan.specs.declared.member.Member.{Member}
use Rattle.graph_plan.specs.declared.together.Together.{Together}
use Rattle.graph_plan.specs.Together.{FollowTogether}
use Rattle.graph_plan.specs.Parts.{IsPartition}
use Rattle.graph_plan.specs.PlanOf.{IsPlanOf}

-- before the first line: the graph of the whole and of each part is the same, and no line was
-- noted
abbrev pub begun : Graph → List (List ℕ) → Together
begun start parts = record {
  whole = start;
  members = map (λ nodes. record { nodes = nodes; graph = start }) parts;
  lines = [];
}

abbrev pub AreBegun : List Line → List Node → List (List ℕ) → Together → Type 0
AreBegun lines ports parts t =
    (start : Graph) × IsStart lines ports start × (t ≡ begun start parts)

abbrev pub IsBegun : List Line → ℕ → List WavIn → List Node → Together → Type 0
IsBegun lines count waves ports t = (parts : List (List ℕ))
    × IsPartition lines count waves ports parts × AreBegun lines ports parts t

-- at the end: the plan of each part is read off its graph
pub record IsPartOfMember (names : List (List ℕ)) (m : Member) (part : Part) : Type 0 where
  pub nodes : part.nodes ≡ m.nodes
  pub plan : IsPlanOf names m.graph part.plan

pub record ArePartsOf (names : List (List ℕ)) (end : Together) (p : Parts) : Type 0 where
  pub parts : AllZip (IsPartOfMember names) end.members p.parts
  pub lines : p.lines ≡ end.lines

-- what is answered of the lines from there on, unless memory runs out
abbrev pub IsPartsAnswer : List (List ℕ) → List WavIn → Together → List Line
    → Result Parts PlanFault → Type 0
IsPartsAnswer names waves t lines (Ok p) =
    (end : Together) × FollowTogether waves t lines (Ok end) × ArePartsOf names end p
IsPartsAnswer names waves t lines (Err (F.Limit line which)) =
    FollowTogether waves t lines (Err (line, which))
IsPartsAnswer names waves t lines (Err F.Memory) = Unit {0}

-- PARTED: so from before the first line, with these ports
abbrev pub IsParted : List Line → List (List ℕ) → List WavIn → List Node
    → Result Parts PlanFault → Type 0
IsParted lines names waves ports (Err F.Memory) = Unit {0}
IsParted lines names waves ports outcome = (t : Together)
    × IsBegun lines (length names) waves ports t × IsPartsAnswer names waves t lines outcome

-- a line whose two nodes are in one part, and an outcome by which no link is made or taken away
pub record IsWithin (p : Parts) (l : LinkLine) : Type 0 where
  pub part : Part
  pub there : Contains p.parts part
  pub from : Contains part.nodes l.from.node
  pub to : Contains part.nodes l.to.node

abbrev pub IsNoChange : LineOutcome → Type 0
IsNoChange (O.Linked rate channels buffers) = ⊥
IsNoChange O.Gone = ⊥
IsNoChange _ = Unit {0}
