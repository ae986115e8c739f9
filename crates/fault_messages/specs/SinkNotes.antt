-- Sinks and meters that got no format or no frames, the files of sinks, and samples at a limit, in
-- words. Source: this project's own.
use Rattle.std.specs.Prelude.{ℕ, ◌==◌, ℤ, List, [], ◌++◌, find, flat_map, slice_index_or, Option, Some, None}
use Rattle.command_frame.specs.declared.work.Store.{Store}
use Rattle.graph_script.specs.declared.command.Command.{Command}
use Rattle.graph_script.specs.declared.command.Command.TheVariants as C
use Rattle.graph_script.specs.declared.script.Line.{Line}
use Rattle.graph_script.specs.declared.script.Script.{Script}
use Rattle.pw_graph.specs.declared.plan.Plan.{Plan}
use Rattle.wav_files.specs.declared.outcome.Peak.{Peak}
use Rattle.fault_messages.specs.ClippedSinks.{clipped_note}
use Rattle.fault_messages.specs.EmptySinks.{empty_note, still_note}
use Rattle.fault_messages.specs.NoteHeads.{note_at}
use Rattle.fault_messages.specs.Places.{Words}
use Rattle.fault_messages.specs.SinkFiles.{later_note, source_note, script_note, name_note}
use Rattle.fault_messages.specs.SinkWaves.{samples_at}
use Rattle.fault_messages.specs.UnusedNodes.{sink_said, meter_said}

-- the name of a node
abbrev pub name_of : Script → ℕ → List ℕ
name_of script node = slice_index_or script.names node []

-- of the file of a sink that stored samples, and of the samples
abbrev pub file_notes : Words → List Line → List Store → ℕ → List ℕ → List ℕ
file_notes words lines stores n file =
    later_note words stores n file ++ (source_note words lines n file
    ++ (script_note words n file ++ name_note words n file))

abbrev pub wave_notes : Words → Script → Plan → List ℤ → ℕ → ℕ → List ℕ → List ℕ
wave_notes words script plan samples n node file =
    empty_note words script plan samples n node (name_of script node) file
    ++ clipped_note words samples n (name_of script node)

-- of a sink by the samples that it stored, if it did; of a meter by its peak, if it has one
abbrev pub sink_note : Words → Script → Plan → List Store → Option (List ℤ) → ℕ → ℕ → List ℕ
    → List ℕ
sink_note words script plan stores None n node file =
    note_at words n (sink_said script.lines stores node (name_of script node) file)
sink_note words script plan stores (Some samples) n node file =
    file_notes words script.lines stores n file ++ wave_notes words script plan samples n node file

abbrev pub peak_of : List Peak → ℕ → Option Peak
peak_of peaks node = find (λ peak. peak.node == node) peaks

abbrev pub meter_note : Words → Script → Plan → Option Peak → ℕ → ℕ → List ℕ
meter_note words script plan None n node =
    note_at words n (meter_said script.lines node (name_of script node))
meter_note words script plan (Some peak) n node =
    still_note words script plan peak.value n node (name_of script node)

-- the notes on a line, by its number and by its command
abbrev pub sink_part : Words → Script → Plan → List Store → List Peak → ℕ → Command → List ℕ
sink_part words script plan stores peaks n (C.Sink node file) =
    sink_note words script plan stores (samples_at stores n) n node file
sink_part words script plan stores peaks n (C.Meter node) =
    meter_note words script plan (peak_of peaks node) n node
sink_part words script plan stores peaks n command = []

-- THE NOTES ON SINKS AND METERS
abbrev pub sink_notes : Words → Script → Plan → List Store → List Peak → List ℕ
sink_notes words script plan stores peaks =
    flat_map (λ line. sink_part words script plan stores peaks line.line line.command) script.lines
