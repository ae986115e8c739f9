-- What a reader answers: what the lines say or why they say nothing, unless memory runs out.
-- Source: this project's own.
use Rattle.std.specs.Prelude.{◌≡◌, ◌⊎◌, Option, Some, None, Result, Ok, Err}
use Rattle.pod_codec.specs.declared.pod.Pod.{Pod}
use Rattle.dump_reading.specs.declared.fault.Stop.{Stop}
use Rattle.dump_reading.specs.declared.fault.Stop.TheVariants as S
use Rattle.dump_reading.specs.declared.fault.DumpFault.{DumpFault}
use Rattle.dump_reading.specs.declared.fault.DumpFault.TheVariants as F

-- by what was said, and what is shown of an answer
abbrev pub IsAnswer : {X Y : Type 0} → Option Y → (X → Y) → Result X Stop → Type 0
IsAnswer said shown (Ok x) = said ≡ Some (shown x)
IsAnswer said shown (Err stop) = (stop ≡ S.Memory) ⊎ (said ≡ None)

-- this value was read, or memory was short
abbrev pub IsReadBack : Pod → Result Pod DumpFault → Type 0
IsReadBack pod (Ok read) = read ≡ pod
IsReadBack pod (Err F.Memory) = Unit {0}
IsReadBack pod (Err (F.Line number why)) = ⊥

-- of a stop at a line a fault of a line is reported
abbrev pub IsToldAs : Stop → DumpFault → Type 0
IsToldAs S.Memory fault = fault ≡ F.Memory
IsToldAs (S.Line left why) F.Memory = ⊥
IsToldAs (S.Line left why) (F.Line number told) = told ≡ why
