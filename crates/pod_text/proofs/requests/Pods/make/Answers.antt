-- What a word names is loaded, and made.
use Rattle.pw_outside.specs.Files.{names_in}
use Rattle.pod_text.proofs.AnswerLemmas.{make_short, make_stops, make_goes}
use Rattle.pod_text.proofs.requests.Pods.make.Goals as goal

pub returns-in_default-clause-told : goal.returns-in_default-clause-told
returns-in_default-clause-told g c = λ h.
    make_short c.args.source c.args.from.now c.args.to c.args.self.now.line (names_in (g.F.Files.held c.args.files.now))

pub returns-in-Err-clause-told : goal.returns-in-Err-clause-told
returns-in-Err-clause-told g c = λ h.
    make_stops c.args.source c.args.from.now c.args.to c.args.self.now.line (names_in (g.F.Files.held c.args.files.now))
    c.in-Ok.name c.in-Err.status c.in-Ok.ensures (c.in-Err.ensures.told h)

pub returns-in-Ok-load_step-clause-told : goal.returns-in-Ok-load_step-clause-told
returns-in-Ok-load_step-clause-told g c = λ h.
    make_goes c.args.source c.args.from.now c.args.to c.made_work.new.self.line (names_in (g.F.Files.held c.args.files.now))
    c.in-Ok.name c.in-Ok-load_step.read c.as_slice.result.now c.made_work.result c.in-Ok.ensures c.as_slice.ensures
    (c.in-Ok-load_step.ensures.told h) c.made_work.ensures.work c.made_work.ensures.cause
