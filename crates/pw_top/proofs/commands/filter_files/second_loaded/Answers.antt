-- What is found of two formats is found of the second's bytes.
use Rattle.std.proofs.Common.{subst, Ok}
use Rattle.pw_top.specs.Allowed.{Reads}
use Rattle.pw_top.specs.FormatFile.{HoldsFormat}
use Rattle.pw_top.specs.working.Ending.{Ends}
use Rattle.pw_top.proofs.FilterFoundLemmas.{second_found}
use Rattle.pw_top.proofs.commands.filter_files.second_loaded.Goals as goal

pub returns-in-Ok-clause-what : goal.returns-in-Ok-clause-what
returns-in-Ok-clause-what c =
    let told = subst (λ x. Ends (Reads (HoldsFormat 2 x)) (Ok c.in-Ok.second)) c.as_slice.ensures c.in-Ok.ensures.told in
    second_found _ c.filter_both.result c.args.first.now c.in-Ok.second c.args.bytes.now told c.filter_both.ensures.what
