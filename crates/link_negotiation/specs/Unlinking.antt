-- What taking a link away does: a node that has no link left gives its formats up.
-- Source: this project's own.
use Rattle.std.specs.Prelude.{◌≡◌, ℕ, ◌==◌, ◌&&◌, ◌^◌, Bool, true, false, not, List, if◌then◌else◌}
use Rattle.std.specs.List.{filter}
use Rattle.std.specs.Int.{bit_at}
use Rattle.std.specs.Int.Bits.{bit_or}
use Rattle.pw_graph.specs.declared.ids.PortId.{PortId}
use Rattle.port_model.specs.declared.port_state.Node.{Node}
use Rattle.port_model.specs.PortState.{with_released}
use Rattle.link_negotiation.specs.declared.link.Link.{Link}
use Rattle.link_negotiation.specs.declared.unlinking.Unlinked.{Unlinked}
use Rattle.link_negotiation.specs.declared.unlinking.Unlinked.TheVariants.{Gone, NotThere}
use Rattle.link_negotiation.specs.Links.{LinkState, joins, are_linked, has_link}

-- the links without one
abbrev pub without : PortId → PortId → List Link → List Link
without from to made = filter (λ l. not (joins from to l)) made

-- RELEASE by the last link: a node without a link gives its formats up, unless its bit is among
-- those that keep them
abbrev pub is_released : List Link → ℕ → ℕ → Bool
is_released made keep n = not (has_link made n) && (bit_at keep n == 0)

abbrev pub releasing : List Link → ℕ → ℕ → List Node → List Node
releasing made keep n nodes = if is_released made keep n then with_released nodes n else nodes

abbrev pub giving_up : List Link → ℕ → ℕ → ℕ → ℕ
giving_up made keep n set = if is_released made keep n then bit_or set (2 ^ n) else set

-- UNLINK OUTCOME, and the graph after it
abbrev pub HasUnlinked : LinkState → List Node → PortId → PortId → ℕ → Unlinked
    → LinkState → List Node → Type 0
HasUnlinked s nodes from to keep NotThere t after = (are_linked s.made from to ≡ false)
    × (t ≡ s) × (after ≡ nodes)
HasUnlinked s nodes from to keep (Gone gave_up) t after = let left = without from to s.made in
    (are_linked s.made from to ≡ true) × (t ≡ record s { made = left })
    × (gave_up ≡ giving_up left keep to.node (giving_up left keep from.node 0))
    × (after ≡ releasing left keep to.node (releasing left keep from.node nodes))
