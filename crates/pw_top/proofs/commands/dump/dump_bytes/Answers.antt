use Rattle.std.proofs.Common.{subst, Ok}
use Rattle.pw_top.specs.working.Ending.{Ends}
use Rattle.pw_top.specs.Allowed.{Reads}
use Rattle.pw_top.specs.PodFile.{HoldsPod}
use Rattle.pw_top.specs.Dump.{DumpsPod}
use Rattle.pw_top.proofs.AllowedLemmas.{binds_goes}
use Rattle.pw_top.proofs.commands.dump.dump_bytes.Goals as goal

pub returns-in-Ok-clause-done : goal.returns-in-Ok-clause-done
returns-in-Ok-clause-done c =
    let told = subst (λ x. Ends (Reads (HoldsPod 1 x)) (Ok c.in-Ok.pod)) c.as_slice.ensures c.in-Ok.ensures.told in
    binds_goes (Reads (HoldsPod 1 c.args.bytes.now)) DumpsPod c.in-Ok.pod c.dump_of.result told c.dump_of.ensures.done
