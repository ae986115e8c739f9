-- Forms of ports in an epoch: their rate and channels; a sink or meter without a format has none.
-- Source: PipeWire's documentation, "SPA POD" (a port's Format); the rest is this project's.
use Rattle.std.specs.Prelude.{◌≡◌, ℕ, List, map, Option, Some, None, IsSome}
use Rattle.pw_graph.specs.declared.ids.PortId.{PortId}
use Rattle.pw_graph.specs.declared.kind.Kind.{Kind}
use Rattle.pw_graph.specs.KindRanges.{IsSinkOrMeter}
use Rattle.port_model.specs.declared.port_state.PortState.{PortState}
use Rattle.port_model.specs.declared.port_state.Node.{Node}
use Rattle.port_model.specs.PortState.{IsPort, AtPort}
use Rattle.port_model.specs.Forms.{HasForm}

-- the kinds of the nodes, by number
abbrev pub HasKinds : List Node → List Kind → Type 0
HasKinds nodes kinds = map (λ n. n.kind) nodes ≡ kinds

-- a form; of a sink or meter only where it has a format
abbrev pub IsFormOfPort : ℕ → ℕ → Node → PortState → Type 0
IsFormOfPort rate channels node s = HasForm node s rate channels
    × (IsSinkOrMeter node.kind → IsSome s.format)

-- FORM of a port
abbrev pub FormIn : List Node → PortId → ℕ → ℕ → Type 0
FormIn nodes port rate channels =
    IsPort nodes port × AtPort nodes port (IsFormOfPort rate channels)

abbrev pub IsFormIn : List Node → PortId → Option (ℕ × ℕ) → Type 0
IsFormIn nodes port None = (rate channels : ℕ) → FormIn nodes port rate channels → ⊥
IsFormIn nodes port (Some form) = FormIn nodes port form.0 form.1
