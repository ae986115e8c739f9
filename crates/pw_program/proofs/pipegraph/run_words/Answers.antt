-- The sentence is that of what the run found.
use Rattle.std.proofs.Common.{refl, map, string_bytes}
use Rattle.fault_messages.specs.Explaining.{explained}
use Rattle.pw_program.proofs.pipegraph.run_words.Goals as goal

pub returns : goal.returns
returns g c =
    let ran = c.run_asked-ran.result.0 in
    let facts = c.run_asked-ran.ensures in
    record {
      sentence = explained ran.status ran.found (g.F.TellsWhy.why ran.files) (map string_bytes c.args.words.now);
      says = record {
        told = facts.told;
        asked = facts.asked;
        cause = facts.cause;
        usage = facts.usage;
        code_of = c.number.ensures;
        sentence_of = record { found = ran.found; is_found = facts.found; work = facts.work; said = refl };
      };
      whole = rw c.why.ensures at c.explain-sentence.ensures;
    }
