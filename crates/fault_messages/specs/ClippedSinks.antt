-- Sinks, and a stored wave, whose samples reach the limits of 16 bits, in words. Source: the
-- sentences are this project's own.
use Rattle.std.specs.Prelude.{ℕ, ◌==◌, ℤ, List, [], ◌++◌, codes, decimal, Option, Some, None, if◌then◌else◌}
use Rattle.command_frame.specs.declared.work.Store.{Store}
use Rattle.fault_messages.specs.NoteHeads.{note_at}
use Rattle.fault_messages.specs.Places.{Words, word, quoted}
use Rattle.fault_messages.specs.SinkWaves.{samples_at, at_limit}
use Rattle.shown_words.specs.Escaping.{escaped}

-- so many samples of a sink
unfoldable pub limit_words : ℕ → List ℕ
limit_words count =
    if count == 1 then codes " sample at the limit of 16 bits"
    else codes " samples at the limit of 16 bits"

unfoldable pub clipped_said : List ℕ → ℕ → List ℕ
clipped_said name count =
    quoted name ++ (codes " has " ++ (decimal count ++ limit_words count))

-- THE NOTE on a sink of this name, by how many, and by the samples that it stored
abbrev pub clipped_part : Words → ℕ → List ℕ → ℕ → List ℕ
clipped_part words n name count =
    if count == 0 then [] else note_at words n (clipped_said name count)

abbrev pub clipped_note : Words → List ℤ → ℕ → List ℕ → List ℕ
clipped_note words samples n name = clipped_part words n name (at_limit samples)

-- of a file that is no line's, by how many
unfoldable pub wave_said : List ℕ → ℕ → List ℕ
wave_said file count = codes "pipegraph: "
    ++ (escaped file ++ (codes ": " ++ (decimal count ++ limit_words count)))

abbrev pub wave_part : List ℕ → ℕ → List ℕ
wave_part file count = if count == 0 then [] else wave_said file count ++ codes "\n"

abbrev pub wave_note : List ℕ → Option (List ℤ) → List ℕ
wave_note file None = []
wave_note file (Some samples) = wave_part file (at_limit samples)

-- THE NOTE on the wave that is stored in the file of the third word after the command
abbrev pub stored_note : Words → List Store → List ℕ
stored_note words stores = wave_note (word words 3) (samples_at stores 3)
