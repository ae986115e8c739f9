use Rattle.std.proofs.Common.{◌≡◌, ◌++◌, take, flat_map, map, string_bytes}
use Rattle.fault_messages.specs.SinkNotes.{sink_part}
use Rattle.fault_messages.proofs.sink_notes.put_sink_notes.Given as goal

-- the notes on the lines before
abbrev pub invariant-loop-line : goal.invariant-loop-line
invariant-loop-line l = l.text ≡ l.fn.text
    ++ flat_map (λ line. sink_part (map string_bytes l.words) l.script l.plan l.stores l.peaks line.line line.command)
    (take l.line-index l.script.lines)
