-- What an `unlink` line does to a graph.
-- Source: PipeWire's documentation, "Objects Design", Link; that a node without a link gives up its
-- formats is this project's.
use Rattle.std.specs.Prelude.{◌≡◌, ◌↔◌, ℕ, ◌<◌, ◌||◌, ◌==◌, true, not, List, filter, slice_set}
use Rattle.std.specs.Int.{bit_at}
use Rattle.pw_graph.specs.declared.ids.PortId.{PortId}
use Rattle.pw_graph.specs.declared.plan.LineOutcome.TheVariants as O
use Rattle.link_negotiation.specs.declared.unlinking.Unlinked.{Unlinked}
use Rattle.link_negotiation.specs.declared.unlinking.Unlinked.TheVariants as U
use Rattle.link_negotiation.specs.Links.{joins, link_of}
use Rattle.link_negotiation.specs.Unlinking.{HasUnlinked}
use Rattle.graph_lines.specs.declared.graph.Graph.{Graph}
use Rattle.graph_lines.specs.declared.standing.Standing.{Standing}
use Rattle.graph_lines.specs.declared.wire.Wire.{Wire}
use Rattle.graph_lines.specs.Activity.{standing}
use Rattle.graph_lines.specs.LinkLines.{Notes}

-- the bits of the nodes that keep their formats: of a sink that was active in a cycle in which it
-- had a form
abbrev pub HasKept : List Standing → ℕ → Type 0
HasKept nodes keep = (n : ℕ) → n < 64
    → (bit_at keep n ≡ 1) ↔ ((standing nodes n).kept ≡ true)

-- a node gave up its formats where its bit is set
abbrev pub giving : ℕ → ℕ → List Standing → List Standing
giving set n nodes =
    let s = standing nodes n in
    slice_set nodes n (record s { gave_up = s.gave_up || (bit_at set n == 1) })

-- the links without one
abbrev pub wires_without : PortId → PortId → List Wire → List Wire
wires_without from to wires = filter (λ w. not (joins from to (link_of w.from w.to))) wires

-- what is noted of a link that is to go
abbrev pub IsTakenAway : Graph → PortId → PortId → Unlinked → Graph → Type 0
IsTakenAway g from to U.NotThere after = (after.wires ≡ g.wires) × (after.nodes ≡ g.nodes)
    × Notes g from to O.NotThere after
IsTakenAway g from to (U.Gone gave_up) after =
    (after.wires ≡ wires_without from to g.wires)
    × (after.nodes ≡ giving gave_up to.node (giving gave_up from.node g.nodes))
    × Notes g from to O.Gone after

-- UNLINK LINE: the link goes, and each of its two nodes that has no link left gives up its formats,
-- but for those kept
pub record UnlinksLine (g : Graph) (from to : PortId) (after : Graph) : Type 0 where
  pub keep : ℕ
  pub kept : HasKept g.nodes keep
  pub unlinked : Unlinked
  pub outcome : HasUnlinked g.links g.ports from to keep unlinked after.links after.ports
  pub noted : IsTakenAway g from to unlinked after
  pub same : after ≡ record g {
    ports = after.ports;
    links = after.links;
    wires = after.wires;
    nodes = after.nodes;
    lines = after.lines;
  }
