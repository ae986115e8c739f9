-- Sinks and meters that got no frames, in words. Source: the sentences are this project's own; a
-- node gets frames in the cycles in which it is active.
use Rattle.std.specs.Prelude.{ℕ, ◌==◌, ◌&&◌, not, ℤ, Bool, true, List, [], ◌++◌, length, codes, bytes_eq, if◌then◌else◌}
use Rattle.pw_graph.specs.declared.plan.Plan.{Plan}
use Rattle.graph_script.specs.declared.script.Script.{Script}
use Rattle.fault_messages.specs.InactiveNodes.{drain_part, inactive_said, is_ever_active, last_epoch, run_cause}
use Rattle.fault_messages.specs.NoteHeads.{note_at}
use Rattle.fault_messages.specs.Places.{Words, word, quoted}
use Rattle.fault_messages.specs.ScriptLines.{may_have_cycles}

unfoldable pub no_cycles : List ℕ
no_cycles = codes ": the script has no cycles line and no drain line"

-- the plan of `run` has its epochs, that of `groups` none
abbrev pub is_run : Words → Bool
is_run words = bytes_eq (word words 0) (codes "run")

-- why a node has no frames, by the command, the script and the plan
abbrev pub may_cause : Words → Script → Plan → ℕ → List ℕ
may_cause words script plan node = if is_run words
    then run_cause script.names script.lines plan.lines node (last_epoch plan.epochs)
    else inactive_said (drain_part script.lines)

abbrev pub empty_cause : Words → Script → Plan → ℕ → List ℕ
empty_cause words script plan node =
    if may_have_cycles script.lines then may_cause words script plan node else no_cycles

unfoldable pub empty_sink : List ℕ → List ℕ → List ℕ
empty_sink name file = quoted name ++ (codes " has no frames, so what it writes to "
    ++ (quoted file ++ codes " is an empty WAV file"))

unfoldable pub still_meter : List ℕ → List ℕ
still_meter name = quoted name ++ codes " got no frames, so its peak is 0"

-- THE NOTE on a sink that stored no frames, by its samples
abbrev pub empty_note : Words → Script → Plan → List ℤ → ℕ → ℕ → List ℕ → List ℕ → List ℕ
empty_note words script plan samples n node name file = if length samples == 0
    then note_at words n (empty_sink name file ++ empty_cause words script plan node) else []

-- a meter that certainly got no frames: the script has no cycles, or a run had it active in none
abbrev pub is_still : Words → Script → Plan → ℕ → Bool
is_still words script plan node = if may_have_cycles script.lines
    then is_run words && not (is_ever_active plan.epochs node) else true

-- THE NOTE on a meter with this peak, where it got no frames
abbrev pub still_note : Words → Script → Plan → ℕ → ℕ → ℕ → List ℕ → List ℕ
still_note words script plan peak n node name =
    if peak == 0 && is_still words script plan node
    then note_at words n (still_meter name ++ empty_cause words script plan node) else []
