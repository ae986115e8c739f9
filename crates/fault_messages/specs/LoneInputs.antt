-- A mixer of which the script links one input alone, in words. Source: this project's own.
use Rattle.std.specs.Prelude.{ℕ, Bool, true, false, List, [], ◌++◌, codes, flat_map}
use Rattle.graph_script.specs.declared.command.Command.{Command}
use Rattle.graph_script.specs.declared.command.Command.TheVariants as C
use Rattle.graph_script.specs.declared.script.Script.{Script}
use Rattle.fault_messages.specs.NoteHeads.{note_at}
use Rattle.fault_messages.specs.Places.{Words, quoted}
use Rattle.fault_messages.specs.ScriptLines.{has_link_to}
use Rattle.fault_messages.specs.SinkNotes.{name_of}

-- of a mixer, by whether its first and its second input are linked
unfoldable pub nothing_at_a : List ℕ → List ℕ
nothing_at_a name = quoted name ++ codes " mixes in silence: no line links anything to its input a"

unfoldable pub nothing_at_b : List ℕ → List ℕ
nothing_at_b name = quoted name ++ codes " mixes in silence: no line links anything to its input b"

abbrev pub lone_said : Bool → Bool → Words → ℕ → List ℕ → List ℕ
lone_said true false words n name = note_at words n (nothing_at_b name)
lone_said false true words n name = note_at words n (nothing_at_a name)
lone_said _ _ words n name = []

-- the note on a line, by its number and by its command
abbrev pub lone_part : Words → Script → ℕ → Command → List ℕ
lone_part words script n (C.Mix2 node ga gb) = lone_said (has_link_to script.lines node 0)
    (has_link_to script.lines node 1) words n (name_of script node)
lone_part words script n _ = []

-- THE NOTES ON LONE INPUTS
abbrev pub lone_notes : Words → Script → List ℕ
lone_notes words script = flat_map (λ line. lone_part words script line.line line.command) script.lines
