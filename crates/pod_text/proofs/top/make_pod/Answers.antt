-- What was done, with its sentence.
use Rattle.std.proofs.Common.{◌≡◌, ℕ, List, subst, map, string_bytes}
use Rattle.std.specs.Prelude.{IfOk}
use Rattle.pod_text.specs.Reports.{said_of}
use Rattle.pod_text.proofs.top.make_pod.Goals as goal

pub returns-clause-told : goal.returns-clause-told
returns-clause-told g c = record {
  line = c.run-status.new.program.line;
  told = c.run-status.ensures.told;
  complete = c.run-status.ensures.complete;
  said = subst (λ (l : List ℕ). IfOk c.explained-sentence.result
      (λ text. text ≡ said_of c.run-status.result (map string_bytes c.args.words.now) l
      (g.F.TellsWhy.why c.run-status.new.files)))
      c.as_slice.ensures (rw c.why.ensures at c.explained-sentence.ensures);
}
