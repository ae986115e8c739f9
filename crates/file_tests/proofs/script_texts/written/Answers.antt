use Rattle.std.proofs.Common.{◌≡◌, sym, arith}
use Rattle.file_tests.proofs.script_texts.written.Goals as goal

pub text_of-requires : goal.text_of-requires
text_of-requires g c = record { bytes = c.args.text.now; small = omega arith; reads = c.in-Ok.ensures.parsed }
