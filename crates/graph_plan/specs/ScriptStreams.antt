-- The streams of a script: the cycle with which a node's stream up to another cycle begins, read
-- off the lines, and what a plan's streams have to be.
-- Source: this project's: a node whose last link went gives up its formats, and its stream begins
-- anew.
use Rattle.std.specs.Prelude.{◌≡◌, ℕ, ◌==◌, ◌<◌, ◌&&◌, ◌||◌, Bool, false, not, nat_le, if◌then◌else◌, List, [], ◌∷◌, length, ℤ}
use Rattle.std.specs.List.{flat_map}
use Rattle.pw_graph.specs.declared.ids.PortId.{PortId}
use Rattle.pw_graph.specs.declared.plan.Plan.{Plan}
use Rattle.pw_graph.specs.KindPorts.{input_count}
use Rattle.pw_graph.specs.PlanForms.{kind_at}
use Rattle.wav_files.specs.declared.wav.WavIn.{WavIn}
use Rattle.cycle_model.specs.Cycle.{Outputs, input_of, stream_of}
use Rattle.cycle_model.specs.Epochs.{active_cycles, all_cycles}
use Rattle.graph_script.specs.declared.command.Command.{Command}
use Rattle.graph_script.specs.declared.command.Command.TheVariants as C
use Rattle.graph_script.specs.declared.script.Line.{Line}
use Rattle.port_model.specs.declared.port_state.Node.{Node}
use Rattle.link_negotiation.specs.Links.{are_linked, has_link}
use Rattle.link_negotiation.specs.Unlinking.{without}
use Rattle.graph_lines.specs.declared.graph.Graph.{Graph}
use Rattle.graph_lines.specs.declared.graph.Stepped.TheVariants as T
use Rattle.graph_lines.specs.Activity.{standing}
use Rattle.graph_lines.specs.EpochLines.{Steps}
use Rattle.graph_lines.specs.Start.{IsStart}
use Rattle.graph_plan.specs.PlanOf.{IsPlanOf}

-- GIVING UP: the line takes the last link of the node away, and the node is no sink that has frames
abbrev pub gives_up : Graph → Command → ℕ → Bool
gives_up g (C.Unlink from to) n = are_linked g.links.made from to
    && (((n == from.node) || (n == to.node))
    && (not (has_link (without from to g.links.made) n) && not (standing g.nodes n).kept))
gives_up g command n = false

-- the first cycle after a giving up before a cycle; else what began before
abbrev pub begins_after : Graph → Command → ℕ → ℕ → ℕ → ℕ
begins_after g command cycle n begins =
    if gives_up g command n && nat_le g.first cycle then g.first else begins

-- the lines lead from a graph to this end, and by them the node's stream up to a cycle, which would
-- begin with one cycle, begins with another
abbrev pub LeadsTo : List WavIn → Graph → List Line → ℕ → ℕ → ℕ → Graph → ℕ
    → Type 0
LeadsTo waves g [] cycle n begins end begin = (end ≡ g) × (begin ≡ begins)
LeadsTo waves g (l ∷ ls) cycle n begins end begin =
    (next : Graph) × Steps waves g l.command T.Done next
    × LeadsTo waves next ls cycle n (begins_after g l.command cycle n begins) end begin

-- the stream of a port up to a cycle that begins with a cycle: its inputs in the cycles in which
-- its node was active
abbrev pub stream_from : Plan → Outputs → ℕ → ℕ → PortId → List ℤ
stream_from plan out begin cycle port =
    flat_map (λ k. input_of plan out k port) (active_cycles plan begin cycle port.node)

-- what a node's inputs have received up to a cycle, whatever the outputs gave, is what they have
-- received since the node gave up last
pub record IsOfScript (waves : List WavIn) (start : Graph) (lines : List Line)
    (names : List (List ℕ)) (plan : Plan) (cycle n : ℕ) : Type 0 where
  pub end : Graph
  pub begin : ℕ
  pub leads : LeadsTo waves start lines cycle n 0 end begin
  pub planned : IsPlanOf names end plan
  pub same : (out : Outputs) (port : ℕ) → port < input_count (kind_at plan n)
      → stream_of plan out cycle (record { node = n; port = port })
      ≡ stream_from plan out begin cycle (record { node = n; port = port })

-- THE STREAMS OF A PLAN ARE THOSE OF ITS SCRIPT
pub record HasScriptStreams (waves : List WavIn) (with_ports : List Node) (lines : List Line)
    (names : List (List ℕ)) (plan : Plan) : Type 0 where
  pub start : Graph
  pub starts : IsStart lines with_ports start
  pub each : (cycle n : ℕ) → cycle < all_cycles plan → n < length plan.nodes
      → IsOfScript waves start lines names plan cycle n
