-- Which word of a line is at fault by its form or its range, and what it has to be. Source: the
-- sentences are this project's own.
use Rattle.std.specs.Prelude.{ℕ, Bool, true, false, not, nat_lt, length, is_some, List, [], ◌∷◌, ◌++◌, codes}
use Rattle.std.specs.Prelude.{decimal, Option, Some, None, if◌then◌else◌}
use Rattle.pw_lists.specs.Limits.{channels_limit}
use Rattle.graph_script.specs.declared.name.Name.{Name}
use Rattle.graph_script.specs.declared.param.Label.{Label}
use Rattle.graph_script.specs.declared.param.Label.TheVariants as L
use Rattle.graph_script.specs.declared.param.Counted.{Counted}
use Rattle.graph_script.specs.declared.param.Counted.TheVariants as U
use Rattle.graph_script.specs.declared.param.Form.{Form}
use Rattle.graph_script.specs.declared.param.Form.TheVariants as F
use Rattle.graph_script.specs.declared.param.Param.{Param}
use Rattle.graph_script.specs.Arguments.{number_of, integer_of, is_node_name}
use Rattle.graph_script.specs.CommandWords.{name_called}
use Rattle.graph_script.specs.Limits.{file_bytes_limit}
use Rattle.graph_script.specs.Table.{params_of, label_word}
use Rattle.fault_messages.specs.NameRules.{is_end, end_rule}

-- whether a word has not the form and the range of its parameter; a list is looked at last, and a
-- port by the node before it
abbrev pub is_unfit : Form → List ℕ → Bool
is_unfit F.New w = not (is_node_name w)
is_unfit F.Node w = not (is_node_name w)
is_unfit (F.Number low high counted) w = not (is_some (number_of low high w))
is_unfit (F.Gain high) w = not (is_some (integer_of high w))
is_unfit F.Channels w = true
is_unfit F.File w = nat_lt file_bytes_limit (length w)
is_unfit F.Port w = false
is_unfit F.Output w = not (is_end w)
is_unfit F.Input w = not (is_end w)

-- the first such word, with its parameter; that of a command with these arguments
abbrev pub first_unfit : List Param → List (List ℕ) → Option (Param × List ℕ)
first_unfit [] ws = None
first_unfit (param ∷ params) [] = None
first_unfit (param ∷ params) (w ∷ ws) =
    if is_unfit param.form w then Some (param, w) else first_unfit params ws

abbrev pub unfit_of : Option Name → List (List ℕ) → Option (Param × List ℕ)
unfit_of None args = None
unfit_of (Some name) args = first_unfit (params_of name) args

-- THE WORD AT FAULT of a line, with its parameter
abbrev pub unfit_in : List (List ℕ) → Option (Param × List ℕ)
unfit_in [] = None
unfit_in (name ∷ args) = unfit_of (name_called name) args

-- what a number counts, and an example of it
abbrev pub counted_text : Counted → List ℕ
counted_text U.Unsaid = []
counted_text U.Frames = codes " frames"
counted_text U.FramesASecond = codes " frames a second"

abbrev pub example_of : Label → List ℕ
example_of L.Frames = codes ": 300 ms at 48000 a second are 14400"
example_of _ = []

-- WHAT IT HAS TO BE, as `FRAMES is 0 to 65536`
abbrev pub range_of : Label → ℕ → ℕ → Counted → List ℕ
range_of label low high counted = label_word label ++ (codes " is " ++ (decimal low
    ++ (codes " to " ++ (decimal high ++ (counted_text counted ++ example_of label)))))

abbrev pub rule_of : Label → Form → List ℕ → List ℕ
rule_of label (F.Number low high counted) w = range_of label low high counted
rule_of label (F.Gain high) w = codes "a gain is -" ++ (decimal high ++ (codes " to "
    ++ (decimal high ++ codes ", in 1/256: 256 is 0 dB, 128 is 0.5 or -6 dB")))
rule_of label F.Channels w = label_word label ++ (codes " is 1 to " ++ (decimal channels_limit
    ++ codes " numbers from 0 to CHANNELS - 1, parted by single commas"))
rule_of label F.File w = codes "a file word has at most 255 bytes"
rule_of label F.Output w = end_rule w
rule_of label F.Input w = end_rule w
rule_of label _ w = codes "a name is a lower-case letter and up to 30 of a to z, 0 to 9 and _"
