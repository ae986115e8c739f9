-- Which files sinks have stored, and notes on those that a later sink writes too or a source reads,
-- on a script that is overwritten, and on names that may be meant otherwise.
-- Source: this project's own.
use Rattle.std.specs.Prelude.{ℕ, ◌&&◌, Bool, List, [], ◌++◌, codes, bytes_eq, nat_lt, if◌then◌else◌}
use Rattle.std.specs.List.{list_any}
use Rattle.command_frame.specs.declared.work.Store.{Store}
use Rattle.graph_script.specs.declared.script.Line.{Line}
use Rattle.fault_messages.specs.NoteHeads.{note_at}
use Rattle.fault_messages.specs.Places.{Words, word, has_quote, is_dash, quoted}
use Rattle.fault_messages.specs.ScriptLines.{is_read}

-- a store of this file, also of a line after this one; and whether there is one
abbrev pub writes : List ℕ → Store → Bool
writes file store = bytes_eq store.name file

abbrev pub writes_later : ℕ → List ℕ → Store → Bool
writes_later n file store = nat_lt n store.place && writes file store

abbrev pub is_written : List Store → List ℕ → Bool
is_written stores file = list_any (writes file) stores

abbrev pub is_written_later : List Store → ℕ → List ℕ → Bool
is_written_later stores n file = list_any (writes_later n file) stores

-- THE NOTE on a file of the sink of this line that a later sink writes
unfoldable pub overwritten : List ℕ → List ℕ
overwritten file = quoted file
    ++ codes " is written by a later sink too; a regular file keeps what is written last"

abbrev pub later_note : Words → List Store → ℕ → List ℕ → List ℕ
later_note words stores n file =
    if is_written_later stores n file then note_at words n (overwritten file) else []

-- THE NOTE on the name of the file of a sink, where other programs may take it otherwise
unfoldable pub quotes_kept : List ℕ → List ℕ
quotes_kept file = quoted file ++ codes " is the whole name of the file; quotes are a part of it"

unfoldable pub dash_kept : List ℕ
dash_kept = codes "\"-\" is the name of the file; standard output is /dev/stdout"

abbrev pub name_note : Words → ℕ → List ℕ → List ℕ
name_note words n file =
    if has_quote file then note_at words n (quotes_kept file)
    else (if is_dash file then note_at words n dash_kept else [])

-- THE NOTE on a file that a source of the script reads
unfoldable pub read_too : List ℕ → List ℕ
read_too file = quoted file
    ++ codes " is a source's file too: it was read first, and written after that"

abbrev pub source_note : Words → List Line → ℕ → List ℕ → List ℕ
source_note words lines n file =
    if is_read lines file then note_at words n (read_too file) else []

-- THE NOTE on a file that is the script
unfoldable pub script_too : List ℕ → List ℕ
script_too file = quoted file
    ++ codes " is the script itself: it was read first, and its text is gone now"

abbrev pub script_note : Words → ℕ → List ℕ → List ℕ
script_note words n file =
    if bytes_eq (word words 1) file then note_at words n (script_too file) else []
