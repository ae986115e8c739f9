-- What is wrong with a line, in words. Source: RFC 3629 for the mark; the words are this project's
-- own.
use Rattle.std.specs.Prelude.{ℕ, List, [], ◌∷◌, ◌++◌, codes, nat_eq, slice_index_or, if◌then◌else◌}
use Rattle.std.specs.List.{starts_with}
use Rattle.dump_reading.specs.declared.fault.DumpWhy.{DumpWhy}
use Rattle.dump_reading.specs.declared.fault.DumpWhy.TheVariants as d
use Rattle.graph_script.specs.Lexical.{words_of}
use Rattle.word_hints.specs.Guesses.{guesses, question}
use Rattle.pod_text.specs.declared.fault.ListWhy.{ListWhy}
use Rattle.pod_text.specs.declared.fault.ListWhy.TheVariants as w

-- of a list
abbrev pub why_text : ListWhy → List ℕ
why_text w.Words = codes "a line has two words, FRAME GAIN, and a comment its own line"
why_text w.Frame = codes "a frame is a number from 0 to 4294967295, without a leading zero; "
    ++ codes "1.5 s at 48000 a second are 72000"
why_text w.FrameFalls = codes "the frame is below that of the point before it"
why_text w.Gain = codes "a gain is a whole number without +: from -32767 to 32767, in 1/256, "
    ++ codes "so that 128 is 0.5, or from -60dB to 42dB"

-- of the text of a dump
abbrev pub dump_why_text : DumpWhy → List ℕ
dump_why_text d.Deep = codes "a value stands more than 16 deep"
dump_why_text d.Missing = codes "the text ends where a line should stand"
dump_why_text d.Unended = codes "the line is not ended by a line feed"
dump_why_text d.Indent = codes "a line is indented by two spaces for each level"
dump_why_text d.Words = codes "these are no words that a dump has here"
dump_why_text d.Child = codes "an array or a choice holds values of its child type"
dump_why_text d.More = codes "the text goes on behind its value"

-- the names with which its lines begin, and those that the first word of a line may mean
abbrev pub dump_names : List (List ℕ)
dump_names = codes "none" ∷ codes "bool" ∷ codes "id" ∷ codes "int" ∷ codes "long" ∷ codes "float"
    ∷ codes "double" ∷ codes "string" ∷ codes "bytes" ∷ codes "rectangle" ∷ codes "fraction"
    ∷ codes "bitmap" ∷ codes "fd" ∷ codes "array" ∷ codes "struct" ∷ codes "object"
    ∷ codes "choice" ∷ codes "sequence" ∷ codes "prop" ∷ codes "control" ∷ []

abbrev pub name_part : DumpWhy → List ℕ → List ℕ
name_part d.Words line = question [] (guesses (slice_index_or (words_of line) 0 []) dump_names)
name_part why line = []

-- by how the line begins: with the mark that a text in UTF-8 may begin with, or as a WAV file does
abbrev pub mark : List ℕ
mark = 0xEF ∷ 0xBB ∷ 0xBF ∷ []

abbrev pub line_said : List ℕ → List ℕ → List ℕ
line_said line why =
    if starts_with nat_eq line mark
    then codes "the line begins with a UTF-8 mark: save the file without it"
    else (if starts_with nat_eq line (codes "RIFF")
    then why ++ codes "; the line begins with RIFF, as a WAV file does" else why)

-- OF A LINE of a list, and of one of a text
abbrev pub list_line : ListWhy → List ℕ → List ℕ
list_line why line = line_said line (why_text why)

abbrev pub dump_line : DumpWhy → List ℕ → List ℕ
dump_line why line = line_said line (dump_why_text why) ++ name_part why line
