-- What a port offers: its kind's offer, narrowed by files, by the values that its node shares, or
-- only its format.
-- Source: PipeWire's documentation, "Objects Design", Port; spa/param/format.h, audio/raw.h; kinds
-- are this project's.
use Rattle.std.specs.Prelude.{ℕ, ◌==◌, ◌||◌, Bool, map, None}
use Rattle.std.specs.List.{range_with_len}
use Rattle.pw_graph.specs.declared.kind.Kind.{Kind}
use Rattle.pw_graph.specs.declared.kind.Kind.TheVariants.{Square, Gain, Mix2, Delay, Map, Split}
use Rattle.pw_graph.specs.KindPorts.{port_count}
use Rattle.port_model.specs.declared.port_state.PortState.{PortState}
use Rattle.port_model.specs.declared.port_state.Node.{Node}
pub use Rattle.port_model.specs.Keys.{format_object, enum_format_id, media_type_key, media_subtype_key, audio_type, raw_subtype, audio_format_key, s16_le_format, rate_key, channels_key}
pub use Rattle.port_model.specs.KindOffers.{int_of, HasFileNumbers, rate_choice, channels_choice, plain_field, kind_offer}

abbrev pub new_port : Kind → ℕ → ℕ → ℕ → PortState
new_port kind rate channels port =
    record { own = kind_offer kind rate channels port; format = None; buffers = None }

abbrev pub new_node : Kind → ℕ → ℕ → Node
new_node kind rate channels =
    record {
      kind = kind;
      ports = map (new_port kind rate channels)
          (range_with_len 0 (port_count kind));
    }

-- whether the kind fixes the channels of its ports
abbrev pub FixesChannels : Kind → Type 0
FixesChannels (Square rate channels period amp) = Unit {0}
FixesChannels (Map channels list) = Unit {0}
FixesChannels Split = Unit {0}
FixesChannels _ = ⊥

-- which keys all ports of a node share: the rate, and of some kinds the channels
abbrev pub is_shared_key : Kind → ℕ → Bool
is_shared_key (Gain g) key = (key == rate_key) || (key == channels_key)
is_shared_key (Mix2 ga gb) key = (key == rate_key) || (key == channels_key)
is_shared_key (Delay frames) key = (key == rate_key) || (key == channels_key)
is_shared_key kind key = key == rate_key
