use Rattle.std.proofs.Common.{◌≡◌, length}
use Rattle.fault_messages.specs.SinkFiles.{is_written}
use Rattle.fault_messages.proofs.sink_files.is_written.Given as goal

-- no store before is of the file
abbrev pub invariant-loop-rest : goal.invariant-loop-rest
invariant-loop-rest l = is_written l.rest l.file ≡ is_written l.fn.stores l.file

abbrev pub decreases-loop-rest : goal.decreases-loop-rest
decreases-loop-rest l = length l.rest
