-- Notes on a command that was accepted, by its words, what it found and the work that it did.
-- Source: this project's own.
use Rattle.std.specs.Prelude.{ℕ, List, [], ◌++◌, codes, Option, Some, None}
use Rattle.pw_graph.specs.declared.event.Event.{Event}
use Rattle.pw_graph.specs.declared.plan.Plan.{Plan}
use Rattle.wav_files.specs.declared.outcome.Peak.{Peak}
use Rattle.graph_script.specs.declared.script.Script.{Script}
use Rattle.refused_links.specs.declared.refused_link.RefusedLink.{RefusedLink}
use Rattle.trace_check.specs.declared.reasons.Reason.{Reason}
use Rattle.command_frame.specs.declared.work.Work.{Work}
use Rattle.run_results.specs.declared.clash.Clash.{Clash}
use Rattle.run_results.specs.declared.found.What.{What}
use Rattle.run_results.specs.declared.found.What.TheVariants as W
use Rattle.shown_words.specs.Escaping.{escaped}
use Rattle.fault_messages.specs.Clashes.{clash_text}
use Rattle.fault_messages.specs.ClippedSinks.{stored_note}
use Rattle.fault_messages.specs.LinkNotes.{link_notes}
use Rattle.fault_messages.specs.LoneInputs.{lone_notes}
use Rattle.fault_messages.specs.NoteHeads.{trace_note}
use Rattle.fault_messages.specs.Places.{Words, word}
use Rattle.fault_messages.specs.ReasonNotes.{reason_note}
use Rattle.fault_messages.specs.SinkNotes.{sink_notes}

-- of a run: its links, its mixers, then its sinks and meters
abbrev pub run_notes : Words → Script → Plan → List Peak → List RefusedLink → Option Work → List ℕ
run_notes words script plan peaks refused None = []
run_notes words script plan peaks refused (Some work) =
    link_notes words plan.nodes refused script.lines plan.lines
    ++ (lone_notes words script ++ sink_notes words script plan work.stores peaks)

-- of a check: the reason, where there is one; and a line of the trace that is no event
abbrev pub check_note : Words → Words → Option Reason → Option Event → List ℕ
check_note words names None event = []
check_note words names (Some reason) event = reason_note words names event reason

unfoldable pub no_event : List ℕ
no_event = codes "no event line of this script's nodes; grep -E '^(begin|start|finish|tick|end) '"
    ++ codes " takes those of a run's text, and none ends with a blank or a carriage return"

-- of a filter: how its two objects clash
unfoldable pub pair_head : List ℕ → List ℕ → List ℕ
pair_head a b = codes "pipegraph: " ++ (escaped a ++ (codes " and " ++ (escaped b ++ codes ": ")))

abbrev pub clash_note : Words → Clash → List ℕ
clash_note words clash =
    pair_head (word words 1) (word words 2) ++ (clash_text clash ++ codes "\n")

-- of a command that finds nothing: the wave that it stored, if it did
abbrev pub work_note : Words → Option Work → List ℕ
work_note words None = []
work_note words (Some work) = stored_note words work.stores

-- THE NOTES, by what was found and what was stored
abbrev pub notes : Words → What → Option Work → List ℕ
notes words W.Nothing work = work_note words work
notes words (W.Run script plan peaks refused) work = run_notes words script plan peaks refused work
notes words (W.Check names reason event) work = check_note words names reason event
notes words (W.NoEvent n) work = trace_note words n no_event
notes words (W.Clash clash) work = clash_note words clash
