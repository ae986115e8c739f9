-- What ports gave in a cycle, and the inputs that follow. Source: PipeWire's documentation,
-- "Graph Scheduling"; spa/node/io.h, spa_io_async_buffers.
use Rattle.std.specs.Prelude.{ℕ, ◌*◌, Bool, List, [], map, filter, find, fold}
use Rattle.std.specs.Prelude.{option_map, unwrap_or, ℤ, if◌then◌else◌}
use Rattle.pw_graph.specs.declared.ids.PortId.{PortId}
use Rattle.pw_graph.specs.declared.shape.ShapeLink.{ShapeLink}
use Rattle.pw_graph.specs.declared.plan.Epoch.{Epoch}
use Rattle.pw_lists.specs.Samples.{clamped, silence, summed}
use Rattle.pw_graph.specs.Pools.{is_same_port}
use Rattle.cycle_model.specs.declared.received.Given.{Given}
use Rattle.cycle_model.specs.Epochs.{channels_of}

-- what a port gave, nothing if it is not known
abbrev pub given_at : List Given → PortId → List ℤ
given_at given port = unwrap_or
    (option_map (λ g. g.samples) (find (λ g. is_same_port g.port port) given)) []

-- what a link brings, in an epoch's first cycle or in a later one, by what ports gave before and
-- now
abbrev pub brought_by : ℕ → Bool → List Given → List Given → ShapeLink → List ℤ
brought_by quantum first before now link =
    if link.delayed then (if first then silence (quantum * link.channels)
    else given_at before link.from)
    else given_at now link.from

-- the input of a port
abbrev pub input_by : ℕ → Bool → List Given → List Given → Epoch → PortId → List ℤ
input_by quantum first before now epoch port =
    map clamped (fold summed (silence (quantum * channels_of epoch.forms port))
    (map (brought_by quantum first before now)
    (filter (λ l. is_same_port l.to port) epoch.shape.links)))
