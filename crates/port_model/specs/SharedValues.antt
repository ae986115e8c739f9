-- The values that the ports of a node share, and the offer of a port with them.
-- Source: PipeWire's documentation, "Objects Design", Port; spa/param/format.h; sharing is this
-- project's.
use Rattle.std.specs.Prelude.{ℕ, List, [], ◌∷◌, map, Option, Some, None, unwrap_or, option_and_then, if◌then◌else◌}
use Rattle.std.specs.Option.{option_map_or, option_or}
use Rattle.pod_codec.specs.declared.pod.Pod.{Pod}
use Rattle.format_filter.specs.declared.choice.Choice.{Choice}
use Rattle.format_filter.specs.declared.choice.Choice.TheVariants.{Only}
use Rattle.format_filter.specs.declared.format.Field.{Field}
use Rattle.format_filter.specs.declared.format.Format.{Format}
use Rattle.format_filter.specs.CommonFormat.{field_of}
use Rattle.port_model.specs.declared.port_state.PortState.{PortState}
use Rattle.port_model.specs.declared.port_state.Node.{Node}
use Rattle.port_model.specs.Offers.{is_shared_key}

-- the one value that a choice is
abbrev pub only_of : Choice → Option Pod
only_of (Only value) = Some value
only_of other = None

-- the value of a format at a key
abbrev pub value_at : List Field → ℕ → Option Pod
value_at fields key = option_and_then (λ f. only_of f.choice) (field_of fields key)

-- the format of the first port that has one
abbrev pub first_format : List PortState → Option Format
first_format [] = None
first_format (s ∷ ss) = option_or s.format (first_format ss)

-- SHARED VALUE of a node at a key, where one of its ports has its format
abbrev pub shared_value : Node → ℕ → Option Pod
shared_value node key =
    if is_shared_key node.kind key
    then option_and_then (λ f. value_at f.fields key) (first_format node.ports) else None

-- a field with only the shared value
abbrev pub shared_field : Node → Field → Field
shared_field node f = record f { choice = option_map_or Only (shared_value node f.key) f.choice }

-- OFFER of a port: only its format, else its own offer with only the shared values
abbrev pub offer_of : Node → PortState → Format
offer_of node s = unwrap_or s.format
    (record s.own { fields = map (shared_field node) s.own.fields })
