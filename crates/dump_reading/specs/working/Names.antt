-- The words with which the lines of values begin, but for that of a None. They are those of the
-- dump. Source: this project's own.
use Rattle.std.specs.Prelude.{ℕ, List, codes, bytes_eq, if◌then◌else◌, Option, Some, None}
use Rattle.pod_codec.specs.declared.pod.ChoiceKind.{ChoiceKind}
use Rattle.pod_codec.specs.declared.pod.ChoiceKind.TheVariants as k
use Rattle.dump_reading.specs.declared.names.Name.{Name}
use Rattle.dump_reading.specs.declared.names.Name.TheVariants as N

-- values of four or eight bytes
unfoldable pub scalar_name : List ℕ → Option Name
scalar_name word =
    if bytes_eq word (codes "bool") then Some N.Bool
    else (if bytes_eq word (codes "id") then Some N.Id
    else (if bytes_eq word (codes "int") then Some N.Int
    else (if bytes_eq word (codes "long") then Some N.Long
    else (if bytes_eq word (codes "float") then Some N.Float
    else (if bytes_eq word (codes "double") then Some N.Double
    else (if bytes_eq word (codes "fd") then Some N.Fd
    else None))))))

-- other values that hold no values
unfoldable pub wide_name : List ℕ → Option Name
wide_name word =
    if bytes_eq word (codes "string") then Some N.String
    else (if bytes_eq word (codes "bytes") then Some N.Bytes
    else (if bytes_eq word (codes "rectangle") then Some N.Rectangle
    else (if bytes_eq word (codes "fraction") then Some N.Fraction
    else (if bytes_eq word (codes "bitmap") then Some N.Bitmap
    else None))))

-- values that hold others
unfoldable pub holder_name : List ℕ → Option Name
holder_name word =
    if bytes_eq word (codes "array") then Some N.Array
    else (if bytes_eq word (codes "struct") then Some N.Struct
    else (if bytes_eq word (codes "object") then Some N.Object
    else (if bytes_eq word (codes "choice") then Some N.Choice
    else (if bytes_eq word (codes "sequence") then Some N.Sequence
    else None))))

abbrev pub name_or : Option Name → Option Name → Option Name
name_or None other = other
name_or (Some name) other = Some name

-- the name of a value
unfoldable pub name_said : List ℕ → Option Name
name_said word = name_or (scalar_name word) (name_or (wide_name word) (holder_name word))

-- the kind of a choice, by its word
unfoldable pub kind_said : List ℕ → Option ChoiceKind
kind_said word =
    if bytes_eq word (codes "none") then Some k.None
    else (if bytes_eq word (codes "range") then Some k.Range
    else (if bytes_eq word (codes "step") then Some k.Step
    else (if bytes_eq word (codes "enum") then Some k.Enum
    else (if bytes_eq word (codes "flags") then Some k.Flags
    else None))))
