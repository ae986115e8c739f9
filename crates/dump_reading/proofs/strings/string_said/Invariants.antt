-- The bytes that are left, from where the string is, make the string.
use Rattle.std.proofs.Common.{◌≡◌, [], drop}
use Rattle.std.specs.Prelude.{Some, fold}
use Rattle.dump_reading.specs.working.Strings.{read_byte}
use Rattle.dump_reading.specs.working.Escapes.{IsEscape}
use Rattle.dump_reading.specs.declared.strings.Escape.TheVariants as E
use Rattle.dump_reading.proofs.strings.string_said.Given as goal

abbrev pub invariant-loop-b : goal.invariant-loop-b
invariant-loop-b l = record {
  sound : IsEscape l.state;
  read : fold read_byte (Some (l.state, l.bytes)) (drop l.b-index l.text)
      ≡ fold read_byte (Some (E.Outside, [])) l.fn.text;
}
