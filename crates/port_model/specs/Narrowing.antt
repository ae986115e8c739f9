-- How a file narrows what a port offers.
-- Source: SPA POD, "Object"; spa/pod/filter.h, spa_pod_filter.
use Rattle.std.specs.Prelude.{◌≡◌, ◌≢◌, List, None}
use Rattle.std.specs.List.{All}
use Rattle.pw_graph.specs.declared.ids.PortId.{PortId}
use Rattle.format_filter.specs.declared.format.Format.{Format}
use Rattle.format_filter.specs.declared.common.Filtered.TheVariants.{Common, Types}
use Rattle.format_filter.specs.declared.common.Filtered.TheVariants as filtered
use Rattle.format_filter.specs.CommonFormat.{Filters}
use Rattle.port_model.specs.declared.narrowing.Narrowed.{Narrowed}
use Rattle.port_model.specs.declared.narrowing.Narrowed.TheVariants.{Done, NotFormat, Clash}
use Rattle.port_model.specs.declared.port_state.Node.{Node}
use Rattle.port_model.specs.PortState.{AtPort, with_port, offering}
use Rattle.port_model.specs.Keys.{format_object}

-- no port of the node has a format
abbrev pub IsUnformatted : Node → Type 0
IsUnformatted node = All (λ s. s.format ≡ None) node.ports

-- NARROWING: the file is no Format (0x40003), or clashes with the port's own offer, first at this
-- key, and nothing changes; else the own offer becomes the common format of both
abbrev pub Narrows : List Node → PortId → Format → Narrowed → List Node → Type 0
Narrows nodes port file NotFormat later = (file.object ≢ format_object) × (later ≡ nodes)
Narrows nodes port file (Clash key) later =
    AtPort nodes port (λ node s. Filters s.own file (filtered.Clash key)) × (later ≡ nodes)
Narrows nodes port file Done later = AtPort nodes port
    (λ node s. (own : Format) × Filters s.own file (Common own)
    × (later ≡ with_port nodes port (offering own)))
