use Rattle.std.proofs.Common.{◌≡◌, length}
use Rattle.fault_messages.specs.SinkFiles.{is_written_later}
use Rattle.fault_messages.proofs.sink_files.is_written_later.Given as goal

-- no store before is of the file and a later line
abbrev pub invariant-loop-rest : goal.invariant-loop-rest
invariant-loop-rest l = is_written_later l.rest l.number l.file ≡ is_written_later l.fn.stores l.number l.file

abbrev pub decreases-loop-rest : goal.decreases-loop-rest
decreases-loop-rest l = length l.rest
