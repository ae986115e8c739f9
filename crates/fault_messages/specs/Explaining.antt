-- The message of a status, with the line of the script that it names; and the notes on a command
-- that was accepted. Both are made of what the run found. Source: this project's own.
use Rattle.std.specs.Prelude.{ℕ, List, [], ◌++◌, Option, Some, None, if◌then◌else◌}
use Rattle.run_results.specs.declared.found.Found.{Found}
use Rattle.run_results.specs.declared.status.Status.{Status}
use Rattle.run_results.specs.declared.status.Status.TheVariants as S
use Rattle.system_files.specs.declared.why.FileWhy.{FileWhy}
use Rattle.fault_messages.specs.Places.{Words, is_line, line_at}
use Rattle.fault_messages.specs.Message.{message_of}
use Rattle.fault_messages.specs.Notes.{notes}

-- the place of a status
abbrev pub place_of : Status → Option ℕ
place_of (S.Script n why) = Some n
place_of (S.Wav place why) = Some place
place_of (S.Pod place why) = Some place
place_of (S.Absent place) = Some place
place_of (S.ReadFault place) = Some place
place_of (S.WriteFault place) = Some place
place_of (S.Limit place which) = Some place
place_of _ = None

-- the line at a place, where the place is a line of a script whose bytes are at hand
abbrev pub line_in : Option (List ℕ) → ℕ → Option (List ℕ)
line_in None place = None
line_in (Some script) place = line_at script place

abbrev pub line_named : Option ℕ → List (List ℕ) → Option (List ℕ) → Option (List ℕ)
line_named None words script = None
line_named (Some place) words script =
    if is_line words place then line_in script place else None

abbrev pub bytes_in : Option (List ℕ) → List ℕ
bytes_in None = []
bytes_in (Some bytes) = bytes

-- the notes, where all was done
abbrev pub noted : Status → Found → Words → List ℕ
noted S.Ok found words = notes words found.what found.work
noted _ found words = []

-- THE MESSAGE of a status, by what the run found, by why the system refused a file, where it did
-- and that is known, and by the words of the command line
unfoldable pub explained : Status → Found → Option FileWhy → Words → List ℕ
explained status found why words =
    message_of status why words (line_named (place_of status) words found.script)
    (bytes_in found.script) ++ noted status found words
