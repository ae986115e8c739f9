use Rattle.std.proofs.Common.{◌≡◌, ◌++◌, drop}
use Rattle.std.specs.List.{flat_map}
use Rattle.pod_codec.specs.DumpWords.{escaped}
use Rattle.pod_codec.proofs.text.put_bytes.Given as goal

abbrev pub invariant-loop-byte : goal.invariant-loop-byte
invariant-loop-byte l = l.text ++ flat_map escaped (drop l.byte-index l.bytes) ≡ l.fn.text ++ flat_map escaped l.fn.bytes
