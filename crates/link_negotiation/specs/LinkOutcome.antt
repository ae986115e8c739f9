-- What a link line does: the first condition that holds decides, and only a link changes anything.
-- Source: PipeWire's documentation, "Objects Design", Link; the order of conditions is ours.
use Rattle.std.specs.Prelude.{◌≡◌, ◌⊎◌, ℕ, ◌<◌, ◌≤◌, true, false, List, [], ◌∷◌, ◌++◌, length, Option, Some, None}
use Rattle.pw_lists.specs.Limits.{links_limit, buffers_limit}
use Rattle.std.specs.Option.{option_or}
use Rattle.pw_graph.specs.SoundShape.{IsBetween}
use Rattle.pw_graph.specs.declared.ids.PortId.{PortId}
use Rattle.format_filter.specs.declared.format.Format.{Format}
use Rattle.port_model.specs.declared.port_state.PortState.{PortState}
use Rattle.port_model.specs.declared.port_state.Node.{Node}
use Rattle.port_model.specs.PortState.{with_port}
use Rattle.port_model.specs.SoundPorts.{MayTake}
use Rattle.link_negotiation.specs.declared.negotiation.Linked.{Linked}
use Rattle.link_negotiation.specs.declared.negotiation.Linked.TheVariants.{Made, NoFormat, NoBuffers, Twice, Loop, Many}
use Rattle.link_negotiation.specs.declared.common_formats.Negotiated.TheVariants as negotiated
use Rattle.link_negotiation.specs.Links.{LinkState, link_of, are_linked, IsSynchronousLoop}
use Rattle.link_negotiation.specs.Negotiation.{Negotiates, SharesBuffers}

-- not there already, and no loop
pub record IsNewLink (s : LinkState) (from to : PortId) : Type 0 where
  pub once : are_linked s.made from to ≡ false
  pub other : from.node ≡ to.node → ⊥
  pub straight : IsSynchronousLoop s from to → ⊥

-- there is a common format, and a number of buffers
abbrev pub HasFormat : List Node → PortId → PortId → Type 0
HasFormat nodes from to = (f : Format) × Negotiates nodes from to (negotiated.Format f)

abbrev pub HasCount : List Node → PortId → PortId → Type 0
HasCount nodes from to = (n : ℕ) × SharesBuffers nodes from to (Some n)

-- of a link that is new: no format; no number of buffers; too many links; else it is made
abbrev pub IsSettled : LinkState → List Node → PortId → PortId → Linked → Type 0
IsSettled s nodes from to (NoFormat key) = Negotiates nodes from to (negotiated.NoFormat key)
IsSettled s nodes from to NoBuffers = HasFormat nodes from to × SharesBuffers nodes from to None
IsSettled s nodes from to Many = HasFormat nodes from to × HasCount nodes from to
    × (links_limit ≤ length s.made)
IsSettled s nodes from to (Made format buffers) =
    Negotiates nodes from to (negotiated.Format format)
    × SharesBuffers nodes from to (Some buffers)
    × (length s.made < links_limit)
IsSettled s nodes from to other = ⊥

-- of a new link with a format: by the number of buffers, and by how many links there are
abbrev pub IsCounted : LinkState → Format → Option ℕ → Linked → Type 0
IsCounted s format None linked = linked ≡ NoBuffers
IsCounted s format (Some n) linked =
    ((links_limit ≤ length s.made) × (linked ≡ Many))
    ⊎ ((length s.made < links_limit) × (linked ≡ Made format n))

-- LINK OUTCOME: twice; a loop; else as a new link is settled
abbrev pub IsLinkOutcome : LinkState → List Node → PortId → PortId → Linked → Type 0
IsLinkOutcome s nodes from to Twice = are_linked s.made from to ≡ true
IsLinkOutcome s nodes from to Loop = (are_linked s.made from to ≡ false)
    × ((from.node ≡ to.node) ⊎ IsSynchronousLoop s from to)
IsLinkOutcome s nodes from to linked = IsNewLink s from to × IsSettled s nodes from to linked

-- a port without a format takes one, if it may
abbrev pub given : Format → PortState → PortState
given format s = record s { format = option_or s.format (Some format) }

abbrev pub MayBeGiven : Format → Node → PortState → Type 0
MayBeGiven format node s = s.format ≡ None → MayTake format node s

-- both ports take it
abbrev pub formatted : List Node → PortId → PortId → Format → List Node
formatted nodes from to format = with_port (with_port nodes from (given format)) to (given format)

-- THE GRAPH AFTER a link line
abbrev pub LeavesLink : LinkState → List Node → PortId → PortId → Linked → LinkState
    → List Node → Type 0
LeavesLink s nodes from to (Made format buffers) t after =
    (t ≡ record s { made = s.made ++ link_of from to ∷ [] })
    × (after ≡ formatted nodes from to format)
LeavesLink s nodes from to other t after = (t ≡ s) × (after ≡ nodes)

-- a link that is made has at least one buffer, and not too many
abbrev pub HasFewBuffers : Linked → Type 0
HasFewBuffers (Made format buffers) = IsBetween 1 buffers_limit buffers
HasFewBuffers other = Unit {0}
