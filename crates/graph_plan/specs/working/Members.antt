-- The state before and after a line in the whole and in all parts.
-- Source: this project's own.
use Rattle.std.specs.Prelude.{◌≡◌, ℕ, List, Result, Ok, Err, All, length}
use Rattle.pw_graph.specs.declared.kind.Kind.{Kind}
use Rattle.wav_files.specs.declared.wav.WavIn.{WavIn}
use Rattle.graph_script.specs.declared.script.Line.{Line}
use Rattle.port_model.specs.declared.port_state.Node.{Node}
use Rattle.graph_lines.specs.Conditions.{MayStep}
use Rattle.graph_lines.specs.Ready.{IsReady, HasRan}
use Rattle.graph_lines.specs.Start.{IsStart}
use Rattle.graph_plan.specs.declared.fault.PlanFault.{PlanFault}
use Rattle.graph_plan.specs.declared.fault.PlanFault.TheVariants as F
use Rattle.graph_plan.specs.declared.member.Member.{Member}
use Rattle.graph_plan.specs.declared.together.Together.{Together}
use Rattle.graph_plan.specs.Together.{FollowTogether}

-- the next line may follow in a part, and this line may
pub record IsStanding (m : Member) : Type 0 where
  pub ready : IsReady m.graph
  pub ran : HasRan m.graph

pub record IsReadyFor (l : Line) (m : Member) : Type 0 where
  pub stands : IsStanding m
  pub may : MayStep m.graph l.command

-- a part whose nodes are of these kinds, or are `count`
pub record IsMemberOf (kinds : List Kind) (m : Member) : Type 0 where
  pub stands : IsStanding m
  pub kinds_are : m.graph.kinds ≡ kinds

pub record IsLastMember (count : ℕ) (m : Member) : Type 0 where
  pub stands : IsStanding m
  pub named : count ≡ length m.graph.kinds

-- the next line may follow in the whole and in each part
pub record AreReady (t : Together) : Type 0 where
  pub whole : IsReady t.whole
  pub members : All (IsMemberOf t.whole.kinds) t.members

-- a part of these nodes before the first line
pub record IsFirst (lines : List Line) (ports : List Node) (nodes : List ℕ) (m : Member)
    : Type 0 where
  pub nodes_are : m.nodes ≡ nodes
  pub start : IsStart lines ports m.graph
  pub stands : IsStanding m

-- what is left of following the lines together, unless memory runs out
abbrev pub AreFollowed : List WavIn → Together → List Line → Result Together PlanFault
    → Type 0
AreFollowed waves t lines (Ok end) = FollowTogether waves t lines (Ok end)
AreFollowed waves t lines (Err (F.Limit line which)) =
    FollowTogether waves t lines (Err (line, which))
AreFollowed waves t lines (Err F.Memory) = Unit {0}
