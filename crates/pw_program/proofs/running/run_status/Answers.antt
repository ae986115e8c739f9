use Rattle.std.proofs.Common.{refl}
use Rattle.pw_program.proofs.running.run_status.Goals as goal

pub returns-clause-told : goal.returns-clause-told
returns-clause-told g c = record {
  happened = _;
  from = refl;
  to = refl;
  told = c.run_words_with-report.ensures.told;
}
