-- What was made, with its sentence.
use Rattle.std.proofs.Common.{refl, map, string_bytes}
use Rattle.pod_text.specs.Reports.{said_of}
use Rattle.pw_pods.proofs.program.PodsUtility.run.Goals as goal

pub returns : goal.returns
returns g c =
    let made = c.make_pod-status in
    let told = made.ensures.told in
    record {
      sentence = said_of made.result.status (map string_bytes c.args.words.now) told.line (g.F.TellsWhy.why made.new.files);
      says = record {
        status = made.result.status;
        line = told.line;
        code_of = c.number.ensures;
        told = told.told;
        cause = made.ensures.cause;
        usage = made.ensures.usage;
        complete = told.complete;
        sentence_of = refl;
      };
      whole = told.said;
    }
