use Rattle.std.proofs.Common.{subst}
use Rattle.std.specs.Prelude.{Err}
use Rattle.pw_outside.specs.declared.files.FileFail.{FileFail}
use Rattle.command_frame.specs.Delivery.{TextDone}
use Rattle.command_frame.proofs.FinishLemmas.{text_short}
use Rattle.command_frame.proofs.delivering.end_text.Goals as goal

pub returns-in-Err-Memory-clause-ends : goal.returns-in-Err-Memory-clause-ends
returns-in-Err-Memory-clause-ends g c =
    let short = subst (λ (e : FileFail). TextDone c.args.text.now (g.O.Sink.faults c.args.out.now) (g.O.Sink.faults c.put_text.new.out)
    (g.O.Sink.given c.args.out.now) (g.O.Sink.given c.put_text.new.out) (Err e)) c.in-Err-Memory.field-0-is c.in-Err-Memory.ensures.done in
    text_short g.S.Ending.statuses c.args.text.now _ _ _ _ _ _ c.memory-memory.result c.put_line.result c.in-Err-Memory.ensures.later short.0 short.1
    c.memory-memory.ensures.end c.put_line.ensures.ends
