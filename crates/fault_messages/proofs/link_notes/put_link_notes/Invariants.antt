use Rattle.std.proofs.Common.{◌≡◌, ◌++◌, drop, map, string_bytes}
use Rattle.fault_messages.specs.LinkNotes.{link_notes}
use Rattle.fault_messages.proofs.link_notes.put_link_notes.Given as goal

-- the notes so far, and those of the lines that are left
abbrev pub invariant-loop-line : goal.invariant-loop-line
invariant-loop-line l =
    l.text ++ link_notes (map string_bytes l.words) l.nodes l.refused (drop l.line-index l.lines) l.left
    ≡ l.fn.text ++ link_notes (map string_bytes l.words) l.nodes l.refused l.lines l.links
