-- What a `link` line does to a graph.
-- Source: PipeWire's documentation, "Objects Design", Link; the limit of links is this project's.
use Rattle.std.specs.Prelude.{◌≡◌, ℕ, [], ◌∷◌, ◌++◌}
use Rattle.pw_graph.specs.declared.ids.PortId.{PortId}
use Rattle.pw_lists.specs.declared.limit.Which.TheVariants as W
use Rattle.pw_graph.specs.declared.plan.LineOutcome.{LineOutcome}
use Rattle.pw_graph.specs.declared.plan.LineOutcome.TheVariants as O
use Rattle.port_model.specs.PortState.{AtPort}
use Rattle.port_model.specs.Forms.{HasForm}
use Rattle.link_negotiation.specs.declared.negotiation.Linked.{Linked}
use Rattle.link_negotiation.specs.declared.negotiation.Linked.TheVariants as L
use Rattle.link_negotiation.specs.LinkOutcome.{IsLinkOutcome, LeavesLink}
use Rattle.graph_lines.specs.declared.graph.Graph.{Graph}
use Rattle.graph_lines.specs.declared.graph.Stepped.{Stepped}
use Rattle.graph_lines.specs.declared.graph.Stepped.TheVariants as T

-- a line with an outcome is noted
abbrev pub Notes : Graph → PortId → PortId → LineOutcome → Graph → Type 0
Notes g from to outcome after =
    after.lines ≡ g.lines ++ record { from = from; to = to; outcome = outcome } ∷ []

-- a line that changes nothing else
abbrev pub NotesAlone : Graph → PortId → PortId → LineOutcome → Stepped → Graph → Type 0
NotesAlone g from to outcome stepped after =
    (stepped ≡ T.Done) × (after.wires ≡ g.wires) × Notes g from to outcome after

-- what is noted of a link: one that is made by its form and its buffers; a limit is passed where
-- there are 256 links
abbrev pub IsRecorded : Graph → PortId → PortId → Linked → Stepped → Graph → Type 0
IsRecorded g from to (L.Made format buffers) stepped after = (stepped ≡ T.Done)
    × (after.wires ≡ g.wires ++ record { from = from; to = to; buffers = buffers } ∷ [])
    × ((rate : ℕ) × (channels : ℕ)
    × AtPort after.ports from (λ node s. HasForm node s rate channels)
    × Notes g from to (O.Linked rate channels buffers) after)
IsRecorded g from to (L.NoFormat key) stepped after = NotesAlone g from to
    (O.NoFormat key) stepped after
IsRecorded g from to L.NoBuffers stepped after = NotesAlone g from to O.NoBuffers stepped after
IsRecorded g from to L.Twice stepped after = NotesAlone g from to O.Twice stepped after
IsRecorded g from to L.Loop stepped after = NotesAlone g from to O.Looped stepped after
IsRecorded g from to L.Many stepped after =
    (stepped ≡ T.Passed W.Links) × (after.wires ≡ g.wires) × (after.lines ≡ g.lines)

-- LINK LINE: the outcome of the link, the graph after it, and what is noted; nodes and epochs
-- stay
pub record LinksLine (g : Graph) (from to : PortId) (stepped : Stepped)
    (after : Graph) : Type 0 where
  pub linked : Linked
  pub outcome : IsLinkOutcome g.links g.ports from to linked
  pub leaves : LeavesLink g.links g.ports from to linked after.links after.ports
  pub noted : IsRecorded g from to linked stepped after
  pub same : after ≡ record g {
    ports = after.ports;
    links = after.links;
    wires = after.wires;
    lines = after.lines;
  }
