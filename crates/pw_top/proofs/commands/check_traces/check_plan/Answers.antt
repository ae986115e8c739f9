-- What is found in the bytes is found under the name.
use Rattle.pw_top.proofs.FoundLemmas.{trace_found}
use Rattle.pw_top.proofs.commands.check_traces.check_plan.Goals as goal

pub returns-in-Ok-clause-what : goal.returns-in-Ok-clause-what
returns-in-Ok-clause-what g c = trace_found (g.F.Files.held c.args.files.now) c.args.trace.now c.args.planned c.in-Ok.bytes _
    c.check_bytes.result c.in-Ok.ensures.told c.check_bytes.ensures.what
