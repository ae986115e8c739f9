use Rattle.std.proofs.Common.{◌≡◌, drop}
use Rattle.fault_messages.specs.SinkNotes.{peak_of}
use Rattle.fault_messages.proofs.sink_notes.peak_of.Given as goal

-- no peak before is of the node
abbrev pub invariant-loop-peak : goal.invariant-loop-peak
invariant-loop-peak l = peak_of l.peaks l.node ≡ peak_of (drop l.peak-index l.peaks) l.node
