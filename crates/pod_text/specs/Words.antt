-- The grammar of command lines: what words ask for, or the first word at fault, or their number
-- where more are wanted. Source: this project's own.
use Rattle.std.specs.Prelude.{ℕ, ◌||◌, Bool, if◌then◌else◌, List, [], ◌∷◌}
use Rattle.std.specs.Prelude.{codes, bytes_eq, Option, Some, None, Result, Ok, Err}
use Rattle.pod_text.specs.declared.source.Source.{Source}
use Rattle.pod_text.specs.declared.source.Source.TheVariants as Src
use Rattle.pod_text.specs.declared.words.Request.{Request}
use Rattle.pod_text.specs.declared.words.Request.TheVariants as R
use Rattle.format_filter.specs.CommonFormat.{IsSoundFormat}
use Rattle.pod_text.specs.Alone.{alone}
use Rattle.pod_text.specs.FormatWords.{format_behind}
pub use Rattle.pod_text.specs.FileWords.{is_dash, is_file_word}

-- the words after `gains` or `pod`: what is read, and where the POD goes
abbrev pub made_to : Source → List ℕ → List (List ℕ) → Result Request ℕ
made_to source from [] = Err 2
made_to source from (to ∷ rest) =
    if is_file_word to then alone 3 rest (R.Make source from to) else Err 2

abbrev pub made_behind : Source → List (List ℕ) → Result Request ℕ
made_behind source [] = Err 1
made_behind source (from ∷ rest) =
    if is_file_word from then made_to source from rest else Err 1

-- the commands that read a file
abbrev pub source_of : List ℕ → Option Source
source_of name = if bytes_eq name (codes "gains") then Some Src.Gains
    else (if bytes_eq name (codes "pod") then Some Src.Dump else None)

-- whether the first word asks for help
abbrev pub is_help : List ℕ → Bool
is_help name = bytes_eq name (codes "--help") || bytes_eq name (codes "-h")

-- whether it asks for the version
abbrev pub is_version : List ℕ → Bool
is_version name = bytes_eq name (codes "--version")

-- the other commands
abbrev pub other_of : List ℕ → List (List ℕ) → Result Request ℕ
other_of name rest = if bytes_eq name (codes "format") then format_behind rest
    else (if is_help name then Ok R.Help
    else (if is_version name then Ok R.Version else Err 0))

abbrev pub by_source : Option Source → List ℕ → List (List ℕ) → Result Request ℕ
by_source None name rest = other_of name rest
by_source (Some source) name rest = made_behind source rest

-- THE MEANING of the words
abbrev pub request_of : List (List ℕ) → Result Request ℕ
request_of [] = Err 0
request_of (name ∷ rest) = by_source (source_of name) name rest

-- the format of a request, if it has one, is sound
abbrev pub HasSoundFormat : Request → Type 0
HasSoundFormat (R.Format to format) = IsSoundFormat format
HasSoundFormat other = Unit {0}
