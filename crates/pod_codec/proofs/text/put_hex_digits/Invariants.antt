use Rattle.std.proofs.Common.{◌≡◌, ◌++◌, drop}
use Rattle.std.specs.List.{flat_map}
use Rattle.pod_codec.specs.DumpWords.{hex_digits}
use Rattle.pod_codec.proofs.text.put_hex_digits.Given as goal

abbrev pub invariant-loop-byte : goal.invariant-loop-byte
invariant-loop-byte l = l.text ++ flat_map hex_digits (drop l.byte-index l.bytes) ≡ l.fn.text ++ flat_map hex_digits l.fn.bytes
