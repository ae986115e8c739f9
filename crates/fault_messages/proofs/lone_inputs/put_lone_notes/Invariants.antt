use Rattle.std.proofs.Common.{◌≡◌, ◌++◌, take, flat_map, map, string_bytes}
use Rattle.fault_messages.specs.LoneInputs.{lone_part}
use Rattle.fault_messages.proofs.lone_inputs.put_lone_notes.Given as goal

-- the notes on the lines before
abbrev pub invariant-loop-line : goal.invariant-loop-line
invariant-loop-line l = l.text ≡ l.fn.text
    ++ flat_map (λ line. lone_part (map string_bytes l.words) l.script line.line line.command)
    (take l.line-index l.script.lines)
