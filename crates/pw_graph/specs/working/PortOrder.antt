-- The order of ports, and lists of ports that ascend.
-- Source: this project's own.
use Rattle.std.specs.Prelude.{◌≡◌, ◌<◌, ◌⊎◌, List, [], ◌∷◌, All}
use Rattle.pw_graph.specs.declared.ids.PortId.{PortId}

-- before, in numbers
abbrev pub Before : PortId → PortId → Type 0
Before p q = (p.node < q.node) ⊎ ((p.node ≡ q.node) × (p.port < q.port))

-- each port is before all later ones
abbrev pub Rise : List PortId → Type 0
Rise [] = Unit {0}
Rise (p ∷ ps) = All (Before p) ps × Rise ps
