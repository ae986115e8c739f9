use Rattle.std.proofs.Common.{◌≡◌, take, map}
use Rattle.std.specs.Prelude.{fold, string_bytes}
use Rattle.pw_top.specs.declared.options.ParsedOptions.TheVariants.{Whole}
use Rattle.pw_top.specs.Options.{no_options, parsed_after, SaysFew}
use Rattle.pw_top.proofs.options.read_options.Given as goal

abbrev pub invariant-loop-word : goal.invariant-loop-word
invariant-loop-word l = record {
  parsed : l.parsed ≡ fold parsed_after (Whole no_options) (map string_bytes (take l.word-index l.words));
  few : SaysFew l.parsed;
}
