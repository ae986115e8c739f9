-- The line of a status: its word, its place and its numbers, plain decimal, words parted by one
-- space. Source: this project's own; docs/FORMATS.md.
use Rattle.std.specs.Prelude.{ℕ, ◌==◌, Bool, true, false, not, List, [], ◌∷◌, ◌++◌, codes, decimal}
use Rattle.pw_lists.specs.Quantities.{which_number}
use Rattle.graph_script.specs.declared.fault.ScriptWhy.{ScriptWhy}
use Rattle.graph_script.specs.declared.fault.ScriptWhy.TheVariants.{TooMany}
use Rattle.graph_script.specs.Faults.{why_number}
use Rattle.wav_files.specs.WavFaults.{wav_fault_number}
use Rattle.run_results.specs.declared.status.Status.{Status}
use Rattle.run_results.specs.declared.status.Status.TheVariants as S
use Rattle.run_results.specs.declared.status.PodWhy.{PodWhy}
use Rattle.run_results.specs.declared.status.PodWhy.TheVariants as P

-- the number of a script's fault, and the quantity of which there is too much
abbrev pub script_numbers : ScriptWhy → List ℕ
script_numbers (TooMany which) = why_number (TooMany which) ∷ which_number which ∷ []
script_numbers why = why_number why ∷ []

-- the number of a POD's fault, and what it carries
abbrev pub pod_numbers : PodWhy → List ℕ
pod_numbers (P.Short offset) = 1 ∷ offset ∷ []
pod_numbers (P.TypeUnknown offset number) = 2 ∷ offset ∷ number ∷ []
pod_numbers (P.Size offset) = 3 ∷ offset ∷ []
pod_numbers (P.Uneven offset) = 4 ∷ offset ∷ []
pod_numbers (P.Deep offset) = 5 ∷ offset ∷ []
pod_numbers (P.Large size) = 6 ∷ size ∷ []
pod_numbers (P.Nul offset) = 7 ∷ offset ∷ []
pod_numbers (P.Rest offset) = 8 ∷ offset ∷ []
pod_numbers P.NotObject = 11 ∷ []
pod_numbers (P.KeyTwice key) = 12 ∷ key ∷ []
pod_numbers (P.FlagsChoice key) = 13 ∷ key ∷ []
pod_numbers (P.BadRange key) = 14 ∷ key ∷ []
pod_numbers (P.BadStep key) = 15 ∷ key ∷ []
pod_numbers (P.EmptyChoice key) = 16 ∷ key ∷ []
pod_numbers P.NotFormat = 17 ∷ []
pod_numbers (P.Clash key) = 18 ∷ key ∷ []
pod_numbers P.NotSequence = 19 ∷ []
pod_numbers (P.OffsetFalls index) = 20 ∷ index ∷ []
pod_numbers (P.NotProps index) = 21 ∷ index ∷ []
pod_numbers (P.GainForm index) = 22 ∷ index ∷ []

-- a word and its numbers, as a line
abbrev pub numbers_line : List ℕ → List ℕ
numbers_line [] = 10 ∷ []
numbers_line (n ∷ ns) = 32 ∷ (decimal n ++ numbers_line ns)

abbrev pub line_of : Status → List ℕ
line_of S.Ok = []
line_of (S.Usage word) = codes "usage" ++ numbers_line (word ∷ [])
line_of (S.Script line why) = codes "script" ++ numbers_line (line ∷ script_numbers why)
line_of (S.Wav place why) = codes "wav" ++ numbers_line (place ∷ wav_fault_number why ∷ [])
line_of (S.Pod place why) = codes "pod" ++ numbers_line (place ∷ pod_numbers why)
line_of (S.Absent place) = codes "absent" ++ numbers_line (place ∷ [])
line_of (S.ReadFault place) = codes "read" ++ numbers_line (place ∷ [])
line_of (S.WriteFault place) = codes "write" ++ numbers_line (place ∷ [])
line_of (S.Limit place which) = codes "limit" ++ numbers_line (place ∷ which_number which ∷ [])
line_of S.Memory = codes "memory" ++ numbers_line []

-- a line is put for every status but Ok and a put of the text that failed
abbrev pub has_line : Status → Bool
has_line S.Ok = false
has_line (S.WriteFault place) = not (place == 0)
has_line _ = true
