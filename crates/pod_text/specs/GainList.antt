-- Lists of gains at frames, one a line, and their first line at fault. The form is this project's;
-- words and comments are those of its scripts. Source: this project's own.
use Rattle.std.specs.Prelude.{ℕ, List, [], ◌∷◌, ◌++◌, fold, nat_lt, ℤ, Option, Some, None, Result, Ok, Err}
use Rattle.std.specs.Prelude.{option_to_list, if◌then◌else◌}
use Rattle.std.specs.List.{enumerate_from}
use Rattle.control_sequence.specs.declared.points.Point.{Point}
use Rattle.graph_script.specs.Arguments.{number_of, integer_of}
use Rattle.graph_script.specs.Lexical.{lines_of, words_of, say_nothing}
use Rattle.pod_text.specs.Decibels.{decibels_of}
use Rattle.pod_text.specs.declared.fault.ListFault.{ListFault}
use Rattle.pod_text.specs.declared.fault.ListFault.TheVariants.{Line}
use Rattle.pod_text.specs.declared.fault.ListWhy.{ListWhy}
use Rattle.pod_text.specs.declared.fault.ListWhy.TheVariants as w

-- a gain: a number in 1/256, or decibels
abbrev pub integer_or : Option ℤ → Option ℤ → Option ℤ
integer_or (Some g) other = Some g
integer_or None other = other

abbrev pub gain_said : List ℕ → Option ℤ
gain_said word = integer_or (integer_of 32767 word) (decibels_of word)

-- a point, or what is wrong with its gain, its frame or its words, where the point before it is at
-- this frame
abbrev pub point_with : ℕ → Option ℤ → Result (Option Point) ListWhy
point_with frame None = Err w.Gain
point_with frame (Some g) = Ok (Some (record { offset = frame; g = g }))

abbrev pub point_at : ℕ → Option ℕ → List ℕ → Result (Option Point) ListWhy
point_at before None gain = Err w.Frame
point_at before (Some frame) gain =
    if nat_lt frame before then Err w.FrameFalls else point_with frame (gain_said gain)

abbrev pub point_of_words : ℕ → List (List ℕ) → Result (Option Point) ListWhy
point_of_words before [] = Err w.Words
point_of_words before (frame ∷ []) = Err w.Words
point_of_words before (frame ∷ gain ∷ []) = point_at before (number_of 0 4294967295 frame) gain
point_of_words before (frame ∷ gain ∷ third ∷ more) = Err w.Words

-- THE MEANING of a line: a point, or nothing, or what is wrong
abbrev pub meaning_of : ℕ → List (List ℕ) → Result (Option Point) ListWhy
meaning_of before words = if say_nothing words then Ok None else point_of_words before words

-- the frame of the last point; 0 where there is none
abbrev pub last_frame : List Point → ℕ
last_frame points = fold (λ frame p. p.offset) 0 points

-- the points with that of a line more, or the line's fault
abbrev pub added : List Point → ℕ → Result (Option Point) ListWhy
    → Result (List Point) ListFault
added points number (Ok point) = Ok (points ++ option_to_list point)
added points number (Err why) = Err (Line number why)

abbrev pub with_line : Result (List Point) ListFault → ℕ × List ℕ
    → Result (List Point) ListFault
with_line (Ok points) line =
    added points line.0 (meaning_of (last_frame points) (words_of line.1))
with_line (Err fault) line = Err fault

-- THE READING of a list: its points, or its first line at fault; lines are counted from 1
abbrev pub gains_of : List ℕ → Result (List Point) ListFault
gains_of bytes = fold with_line (Ok []) (enumerate_from 1 (lines_of bytes))
