-- The offer of a kind of node: its rate and the channels of its ports.
-- Source: PipeWire's documentation, "Objects Design", Port; spa/param/format.h, audio/raw.h; kinds
-- are this project's.
use Rattle.std.specs.Prelude.{◌≡◌, ℕ, zero, suc, pos, [], ◌∷◌, length}
use Rattle.pod_codec.specs.declared.pod.Pod.{Pod}
use Rattle.pod_codec.specs.declared.pod.Pod.TheVariants as pod
use Rattle.pw_graph.specs.declared.kind.Kind.{Kind}
use Rattle.pw_graph.specs.declared.kind.Kind.TheVariants.{Source, Square, Map, Split}
use Rattle.pw_graph.specs.KindRanges.{IsRate, IsChannels}
use Rattle.pw_lists.specs.Limits.{rate_limit}
use Rattle.format_filter.specs.declared.choice.Choice.{Choice}
use Rattle.format_filter.specs.declared.choice.Choice.TheVariants.{Only, Range}
use Rattle.format_filter.specs.declared.choice.Wide.TheVariants as wide
use Rattle.format_filter.specs.declared.format.Field.{Field}
use Rattle.format_filter.specs.declared.format.Format.{Format}
use Rattle.port_model.specs.Keys.{format_object, enum_format_id, media_type_key, media_subtype_key, audio_type, raw_subtype, audio_format_key, s16_le_format, rate_key, channels_key}

-- a number as an Int
abbrev pub int_of : ℕ → Pod
int_of n = pod.Int (pos n)

-- the numbers of a source's file are a rate and a number of channels; those of other kinds are 0
abbrev pub HasFileNumbers : Kind → ℕ → ℕ → Type 0
HasFileNumbers Source rate channels = IsRate rate × IsChannels channels
HasFileNumbers kind rate channels = (rate ≡ 0) × (channels ≡ 0)

-- the rate of a kind: of a source its file's
abbrev pub rate_choice : Kind → ℕ → Choice
rate_choice Source rate = Only (int_of rate)
rate_choice (Square own channels period amp) rate = Only (int_of own)
rate_choice kind rate = Range wide.Int (pos 48000) (pos 1) (pos rate_limit)

-- the channels of a port of a kind: of a source its file's
abbrev pub channels_choice : Kind → ℕ → ℕ → Choice
channels_choice Source port channels = Only (int_of channels)
channels_choice (Square rate own period amp) port channels = Only (int_of own)
channels_choice (Map own list) zero channels = Only (int_of own)
channels_choice (Map own list) (suc port) channels = Only (int_of (length list))
channels_choice Split zero channels = Only (int_of 2)
channels_choice Split (suc port) channels = Only (int_of 1)
channels_choice kind port channels = Range wide.Int (pos 2) (pos 1) (pos 8)

abbrev pub plain_field : ℕ → Choice → Field
plain_field key choice = record { key = key; flags = 0; choice = choice }

-- KIND'S OFFER: media type 1 and media subtype 1 (audio, raw), audio format 0x103 (S16_LE), rate
-- and channels; of object type Format (0x40003) and id EnumFormat (3)
abbrev pub kind_offer : Kind → ℕ → ℕ → ℕ → Format
kind_offer kind rate channels port = record {
  object = format_object;
  id = enum_format_id;
  fields = plain_field media_type_key (Only (pod.Id audio_type))
      ∷ plain_field media_subtype_key (Only (pod.Id raw_subtype))
      ∷ plain_field audio_format_key (Only (pod.Id s16_le_format))
      ∷ plain_field rate_key (rate_choice kind rate)
      ∷ plain_field channels_key (channels_choice kind port channels) ∷ [];
}
