-- Why a POD is refused, in words. Source: the faults are those of PipeWire's documentation, "SPA
-- POD"; the sentences are this project's own.
use Rattle.std.specs.Prelude.{ℕ, ◌==◌, List, [], ◌++◌, codes, decimal, Option, Some, None, if◌then◌else◌}
use Rattle.run_results.specs.declared.status.PodWhy.{PodWhy}
use Rattle.run_results.specs.declared.status.PodWhy.TheVariants as P
use Rattle.fault_messages.specs.KeyNames.{key_part}

-- the words; where a number is carried, it follows them
abbrev pub pod_words : PodWhy → List ℕ
pod_words (P.Short offset) = codes "a POD passes the end of what holds it, at byte "
pod_words (P.TypeUnknown offset number) = codes "a type that is not read, at byte "
pod_words (P.Size offset) = codes "a size that its type does not have, at byte "
pod_words (P.Uneven offset) = codes "values that do not fill their body, at byte "
pod_words (P.Deep offset) = codes "a POD more than 16 deep, at byte "
pod_words (P.Large size) = codes "a POD of more than 1048576 bytes: "
pod_words (P.Nul offset) = codes "a string without a nul at its end, at byte "
pod_words (P.Rest offset) = codes "the file goes on behind its POD, at byte "
pod_words P.NotObject = codes "the POD is no object"
pod_words (P.KeyTwice key) = codes "a property stands twice, under key "
pod_words (P.FlagsChoice key) = codes "a choice of flags, under key "
pod_words (P.BadRange key) = codes "a range that is none, under key "
pod_words (P.BadStep key) = codes "a step that is none, under key "
pod_words (P.EmptyChoice key) = codes "a choice without a value, under key "
pod_words P.NotFormat = codes "the object is no format"
pod_words (P.Clash key) = codes "nothing is left of what the port offers, under key "
pod_words P.NotSequence = codes "the POD is no control sequence"
pod_words (P.OffsetFalls index) = codes "an offset below the one before, in control "
pod_words (P.NotProps index) = codes "a value that is no properties object, in control "
pod_words (P.GainForm index) = codes "a gain that is no Int from -32767 to 32767, in control "

-- an offset in bytes, a size, a key, or the place of a control
abbrev pub carried : PodWhy → Option ℕ
carried (P.Short offset) = Some offset
carried (P.TypeUnknown offset number) = Some offset
carried (P.Size offset) = Some offset
carried (P.Uneven offset) = Some offset
carried (P.Deep offset) = Some offset
carried (P.Large size) = Some size
carried (P.Nul offset) = Some offset
carried (P.Rest offset) = Some offset
carried (P.KeyTwice key) = Some key
carried (P.FlagsChoice key) = Some key
carried (P.BadRange key) = Some key
carried (P.BadStep key) = Some key
carried (P.EmptyChoice key) = Some key
carried (P.Clash key) = Some key
carried (P.OffsetFalls index) = Some index
carried (P.NotProps index) = Some index
carried (P.GainForm index) = Some index
carried _ = None

abbrev pub number_text : Option ℕ → List ℕ
number_text None = []
number_text (Some n) = decimal n

-- after the number: the name of a key; of a size what a WAV file begins with, or what makes a POD
abbrev pub size_part : ℕ → List ℕ
size_part size =
    if size == 0x46464952 then codes "; it begins with RIFF, as a WAV file does"
    else codes "; pipegraph-pods makes a POD of a list or of a dump's text"

abbrev pub short_part : ℕ → List ℕ
short_part offset =
    if offset == 0 then codes "; pipegraph-pods makes a POD of a list or of a dump's text" else []

abbrev pub pod_behind : PodWhy → List ℕ
pod_behind (P.Short offset) = short_part offset
pod_behind (P.Large size) = size_part size
pod_behind (P.KeyTwice key) = key_part key
pod_behind (P.FlagsChoice key) = key_part key
pod_behind (P.BadRange key) = key_part key
pod_behind (P.BadStep key) = key_part key
pod_behind (P.EmptyChoice key) = key_part key
pod_behind (P.Clash key) = key_part key
pod_behind (P.GainForm index) = codes "; 256 is 0 dB"
pod_behind _ = []

-- WHY A POD IS REFUSED
abbrev pub pod_said : PodWhy → List ℕ
pod_said why = pod_words why ++ (number_text (carried why) ++ pod_behind why)
