-- The words after `format`: a file, rates, channels, and a key that the other side must have.
-- Source: this project's own.
use Rattle.std.specs.Prelude.{ℕ, if◌then◌else◌, List, [], ◌∷◌, codes, bytes_eq, Option, Some, None, Result, Ok, Err}
use Rattle.format_filter.specs.declared.choice.Choice.{Choice}
use Rattle.pod_text.specs.declared.format_words.Key.{Key}
use Rattle.pod_text.specs.declared.format_words.Key.TheVariants as K
use Rattle.pod_text.specs.declared.words.Request.{Request}
use Rattle.pod_text.specs.declared.words.Request.TheVariants as R
use Rattle.pod_text.specs.Alone.{alone}
use Rattle.pod_text.specs.ChoiceWords.{choice_said}
use Rattle.pod_text.specs.FileWords.{is_file_word}
use Rattle.pod_text.specs.Offers.{offer_of}

-- the request, by the key that has the flag MANDATORY, 8
abbrev pub offered : List ℕ → Choice → Choice → Key → Request
offered to rate channels K.None = R.Format to (offer_of rate channels 0 0)
offered to rate channels K.Rate = R.Format to (offer_of rate channels 8 0)
offered to rate channels K.Channels = R.Format to (offer_of rate channels 0 8)

abbrev pub key_of : List ℕ → Option Key
key_of word = if bytes_eq word (codes "rate") then Some K.Rate
    else (if bytes_eq word (codes "channels") then Some K.Channels else None)

abbrev pub with_key : List ℕ → Choice → Choice → Option Key → List (List ℕ)
    → Result Request ℕ
with_key to rate channels None rest = Err 7
with_key to rate channels (Some key) rest = alone 8 rest (offered to rate channels key)

abbrev pub key_behind : List ℕ → Choice → Choice → List (List ℕ) → Result Request ℕ
key_behind to rate channels [] = Err 7
key_behind to rate channels (word ∷ rest) = with_key to rate channels (key_of word) rest

abbrev pub mandatory_behind : List ℕ → Choice → Choice → List (List ℕ)
    → Result Request ℕ
mandatory_behind to rate channels [] = Ok (offered to rate channels K.None)
mandatory_behind to rate channels (name ∷ rest) =
    if bytes_eq name (codes "mandatory") then key_behind to rate channels rest
    else Err 6

abbrev pub with_channels : List ℕ → Choice → Option Choice → List (List ℕ)
    → Result Request ℕ
with_channels to rate None rest = Err 5
with_channels to rate (Some channels) rest = mandatory_behind to rate channels rest

abbrev pub channels_behind : List ℕ → Choice → List (List ℕ) → Result Request ℕ
channels_behind to rate [] = Err 5
channels_behind to rate (word ∷ rest) = with_channels to rate (choice_said word) rest

abbrev pub second_behind : List ℕ → Choice → List (List ℕ) → Result Request ℕ
second_behind to rate [] = Err 4
second_behind to rate (name ∷ rest) =
    if bytes_eq name (codes "channels") then channels_behind to rate rest else Err 4

abbrev pub with_rate : List ℕ → Option Choice → List (List ℕ) → Result Request ℕ
with_rate to None rest = Err 3
with_rate to (Some rate) rest = second_behind to rate rest

abbrev pub rate_behind : List ℕ → List (List ℕ) → Result Request ℕ
rate_behind to [] = Err 3
rate_behind to (word ∷ rest) = with_rate to (choice_said word) rest

abbrev pub first_behind : List ℕ → List (List ℕ) → Result Request ℕ
first_behind to [] = Err 2
first_behind to (name ∷ rest) =
    if bytes_eq name (codes "rate") then rate_behind to rest else Err 2

-- THE WORDS after `format`
abbrev pub format_behind : List (List ℕ) → Result Request ℕ
format_behind [] = Err 1
format_behind (to ∷ rest) = if is_file_word to then first_behind to rest else Err 1
