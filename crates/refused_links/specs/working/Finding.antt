-- What is found of a `link` line in the graph after it.
-- Source: this project's own.
use Rattle.std.specs.Prelude.{◌≡◌, ℕ, List, Option, Some, None}
use Rattle.format_filter.specs.declared.choice.Choice.{Choice}
use Rattle.pw_graph.specs.declared.ids.PortId.{PortId}
use Rattle.pw_graph.specs.declared.kind.Kind.{Kind}
use Rattle.graph_script.specs.declared.command.Command.{Command}
use Rattle.graph_script.specs.declared.command.Command.TheVariants as C
use Rattle.port_model.specs.declared.port_state.Node.{Node}
use Rattle.port_model.specs.declared.sharing.Offered.{Offered}
use Rattle.port_model.specs.declared.sharing.Offered.TheVariants.{Offer, Nothing}
use Rattle.link_negotiation.specs.Negotiation.{OffersAt}
use Rattle.graph_lines.specs.declared.graph.Graph.{Graph}
use Rattle.graph_lines.specs.Conditions.{MayStep}
use Rattle.graph_lines.specs.Ready.{IsReady}
use Rattle.refused_links.specs.declared.refused_link.RefusedLink.{RefusedLink}
use Rattle.refused_links.specs.declared.refused_link.Sides.{Sides}
use Rattle.refused_links.specs.Refused.{noted_key}
use Rattle.refused_links.specs.Sides.{choice_at, Tells}

-- a line may be done in any graph of these kinds
abbrev pub MayFollow : List Kind → Command → Type 0
MayFollow kinds command = (g : Graph) → IsReady g → g.kinds ≡ kinds → MayStep g command

-- what is offered at a key
abbrev pub offered_at : ℕ → Offered → Option Choice
offered_at key (Offer offer) = choice_at offer key
offered_at key (Nothing k) = None

-- what is told of two ports, by what they offer
abbrev pub ShowsSides : List Node → PortId → PortId → ℕ → Sides → Type 0
ShowsSides nodes from to key sides = (own : Offered) × (other : Offered)
    × OffersAt nodes from own × OffersAt nodes to other
    × Tells nodes from to own other key sides

-- a link that is noted at a place as refused
pub record IsFoundLink (g : Graph) (number at : ℕ) (output input : PortId)
    (r : RefusedLink) : Type 0 where
  pub line : r.line ≡ number
  pub place : r.place ≡ at
  pub from : r.from ≡ output
  pub to : r.to ≡ input
  pub noted : noted_key g.lines at ≡ Some r.key
  pub sides : ShowsSides g.ports output input r.key r.sides

abbrev pub FindsLink : Graph → ℕ → ℕ → PortId → PortId → Option RefusedLink → Type 0
FindsLink g number at from to None = noted_key g.lines at ≡ None
FindsLink g number at from to (Some r) = IsFoundLink g number at from to r

-- what is found of a line: nothing, unless it is a `link` line
abbrev pub Finds : Graph → ℕ → ℕ → Command → Option RefusedLink → Type 0
Finds g number at (C.Link from to) found = FindsLink g number at from to found
Finds g number at other found = found ≡ None
