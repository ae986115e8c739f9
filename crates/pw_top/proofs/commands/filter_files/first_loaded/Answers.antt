-- The first format, and then what comes next.
use Rattle.std.proofs.Common.{subst, Ok}
use Rattle.pw_outside.specs.Files.{names_in}
use Rattle.format_filter.specs.declared.format.Format.{Format}
use Rattle.command_frame.specs.declared.work.Work.{Work}
use Rattle.pw_top.specs.working.Ending.{Ends, IsDeliverable}
use Rattle.pw_top.specs.Allowed.{Reads}
use Rattle.pw_top.specs.FormatFile.{HoldsFormat}
use Rattle.pw_top.specs.Filter.{LoadsSecond}
use Rattle.pw_top.proofs.AllowedLemmas.{binds_goes, quiet_cause}
use Rattle.pw_top.proofs.FilterFoundLemmas.{first_found}
use Rattle.pw_top.proofs.commands.filter_files.first_loaded.Goals as goal

pub returns-in-Err-clause-cause : goal.returns-in-Err-clause-cause
returns-in-Err-clause-cause g c = quiet_cause {T = Format} {U = Work} (λ format. Unit {0}) IsDeliverable (g.F.Files.load_faults c.args.files.now)
    c.in-Err.status c.in-Err.ensures.cause

pub returns-in-Ok-clause-told : goal.returns-in-Ok-clause-told
returns-in-Ok-clause-told g c = λ h.
    let told = subst (λ x. Ends (Reads (HoldsFormat 1 x)) (Ok c.in-Ok.first)) c.as_slice.ensures c.in-Ok.ensures.told in
    binds_goes (Reads (HoldsFormat 1 c.args.bytes.now))
    (LoadsSecond (names_in (g.F.Files.held c.args.files.now)) c.args.b.now c.args.out) c.in-Ok.first c.load_second.result told
    (c.load_second.ensures.told h)

pub returns-in-Ok-clause-what : goal.returns-in-Ok-clause-what
returns-in-Ok-clause-what g c =
    let told = subst (λ x. Ends (Reads (HoldsFormat 1 x)) (Ok c.in-Ok.first)) c.as_slice.ensures c.in-Ok.ensures.told in
    first_found _ c.load_second.result (g.F.Files.held c.args.files.now) c.args.b.now c.in-Ok.first c.args.bytes.now told
    c.load_second.ensures.what
