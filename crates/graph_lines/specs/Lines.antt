-- What a line of a script does to the graph, but for the lines that make epochs.
-- Source: this project's script grammar; PipeWire's documentation, "Graph Scheduling" (asynchronous
-- nodes).
use Rattle.std.specs.Prelude.{◌≡◌, ◌⊎◌, ℕ, true, false, Some, slice_set}
use Rattle.graph_script.specs.declared.command.Command.{Command}
use Rattle.graph_script.specs.declared.command.Command.TheVariants as C
use Rattle.port_model.specs.PortState.{with_port, buffered}
use Rattle.link_negotiation.specs.Links.{has_link}
use Rattle.graph_lines.specs.declared.graph.Graph.{Graph}
use Rattle.graph_lines.specs.declared.graph.Stepped.{Stepped}
use Rattle.graph_lines.specs.declared.graph.Stepped.TheVariants as T
use Rattle.graph_lines.specs.declared.standing.Standing.{Standing}
use Rattle.graph_lines.specs.Activity.{standing}
use Rattle.graph_lines.specs.LinkLines.{LinksLine}
use Rattle.graph_lines.specs.UnlinkLines.{UnlinksLine}

-- the graph with one node changed
abbrev pub with_node : Graph → ℕ → (Standing → Standing) → Graph
with_node g n f = record g { nodes = slice_set g.nodes n (f (standing g.nodes n)) }

abbrev pub made : Standing → Standing
made s = record s { there = true }

abbrev pub prior : ℕ → Standing → Standing
prior p s = record s { priority = Some p }

abbrev pub looped : ℕ → Standing → Standing
looped k s = record s { k = k }

abbrev pub switched_on : Standing → Standing
switched_on s = record s { on = true }

abbrev pub switched_off : Standing → Standing
switched_off s = record s { on = false }

abbrev pub mark : Standing → Standing
mark s = record s { marked = true }

-- a node is marked, with its links, if it has no link yet
abbrev pub Marks : Graph → ℕ → Graph → Type 0
Marks g n after = ((has_link g.links.made n ≡ true) × (after ≡ g))
    ⊎ ((has_link g.links.made n ≡ false)
    × (after ≡ record (with_node g n mark) {
      links = record g.links { marks = slice_set g.links.marks n true };
    }))

-- LINE: what a command leaves; a `quantum` line and an `offer` line were taken before the first
-- line
abbrev pub Does : Graph → Command → Stepped → Graph → Type 0
Does g (C.Source n file) stepped after = (stepped ≡ T.Done) × (after ≡ with_node g n made)
Does g (C.Square n rate channels period amp) stepped after = (stepped ≡ T.Done)
    × (after ≡ with_node g n made)
Does g (C.Gain n gain) stepped after = (stepped ≡ T.Done) × (after ≡ with_node g n made)
Does g (C.Mix2 n ga gb) stepped after = (stepped ≡ T.Done) × (after ≡ with_node g n made)
Does g (C.Delay n frames) stepped after = (stepped ≡ T.Done) × (after ≡ with_node g n made)
Does g (C.Map n channels list) stepped after = (stepped ≡ T.Done)
    × (after ≡ with_node g n made)
Does g (C.Split n) stepped after = (stepped ≡ T.Done) × (after ≡ with_node g n made)
Does g (C.Sink n file) stepped after = (stepped ≡ T.Done) × (after ≡ with_node g n made)
Does g (C.Meter n) stepped after = (stepped ≡ T.Done) × (after ≡ with_node g n made)
Does g (C.Driver n p) stepped after = (stepped ≡ T.Done) × (after ≡ with_node g n (prior p))
Does g (C.Loop n k) stepped after = (stepped ≡ T.Done) × (after ≡ with_node g n (looped k))
Does g (C.On n) stepped after = (stepped ≡ T.Done) × (after ≡ with_node g n switched_on)
Does g (C.Off n) stepped after = (stepped ≡ T.Done) × (after ≡ with_node g n switched_off)
Does g (C.Async n) stepped after = (stepped ≡ T.Done) × Marks g n after
Does g (C.Buffers port n) stepped after =
    (stepped ≡ T.Done) × (after ≡ record g { ports = with_port g.ports port (buffered n) })
Does g (C.Link from to) stepped after = LinksLine g from to stepped after
Does g (C.Unlink from to) stepped after = (stepped ≡ T.Done) × UnlinksLine g from to after
Does g (C.Quantum n) stepped after = (stepped ≡ T.Done) × (after ≡ g)
Does g (C.Offer port file) stepped after = (stepped ≡ T.Done) × (after ≡ g)
Does g (C.Cycles n) stepped after = ⊥
Does g C.Drain stepped after = ⊥
