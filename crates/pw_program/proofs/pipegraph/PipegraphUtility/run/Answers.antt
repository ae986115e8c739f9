-- A run has some status.
use Rattle.pw_program.proofs.pipegraph.PipegraphUtility.run.Goals as goal

pub returns : goal.returns
returns g c =
    let made = c.run_words-status.ensures in
    record {
      sentence = made.sentence;
      says = record { status = c.run_words-status.result.0; run = made.says };
      whole = made.whole;
    }
