-- Numbers of audio formats: object type, id, keys and values. Source: spa/utils/type.h,
-- spa/param/param.h, spa/param/format.h, spa/param/audio/raw.h.
use Rattle.std.specs.Prelude.{ℕ}

-- SPA_TYPE_OBJECT_Format, SPA_PARAM_EnumFormat
abbrev pub format_object : ℕ
format_object = 262147

abbrev pub enum_format_id : ℕ
enum_format_id = 3

-- SPA_FORMAT_mediaType, SPA_FORMAT_mediaSubtype, and their values audio and raw
abbrev pub media_type_key : ℕ
media_type_key = 1

abbrev pub media_subtype_key : ℕ
media_subtype_key = 2

abbrev pub audio_type : ℕ
audio_type = 1

abbrev pub raw_subtype : ℕ
raw_subtype = 1

-- SPA_FORMAT_AUDIO_format and its value S16_LE, SPA_FORMAT_AUDIO_rate, SPA_FORMAT_AUDIO_channels
abbrev pub audio_format_key : ℕ
audio_format_key = 65537

abbrev pub s16_le_format : ℕ
s16_le_format = 259

abbrev pub rate_key : ℕ
rate_key = 65539

abbrev pub channels_key : ℕ
channels_key = 65540
