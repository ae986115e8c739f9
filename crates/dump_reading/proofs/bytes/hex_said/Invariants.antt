-- The digits that are left, after the bytes so far, make the row.
use Rattle.std.proofs.Common.{◌≡◌, length}
use Rattle.dump_reading.specs.working.Bytes.{hex_said}
use Rattle.dump_reading.proofs.ByteLoops.{behind}
use Rattle.dump_reading.proofs.bytes.hex_said.Given as goal

abbrev pub invariant-bytes : goal.invariant-bytes
invariant-bytes l = behind l.bytes (hex_said l.rest) ≡ hex_said l.fn.digits

abbrev pub decreases-bytes : goal.decreases-bytes
decreases-bytes l = length l.rest
