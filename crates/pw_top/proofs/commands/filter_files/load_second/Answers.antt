-- What is found of the second's bytes is found of the second.
use Rattle.pw_top.proofs.FilterFoundLemmas.{after_found}
use Rattle.pw_top.proofs.commands.filter_files.load_second.Goals as goal

pub returns-in-Ok-clause-what : goal.returns-in-Ok-clause-what
returns-in-Ok-clause-what g c = after_found _ c.second_loaded.result (g.F.Files.held c.args.files.now) c.args.b.now c.args.first.now
    c.in-Ok.bytes c.in-Ok.ensures.told c.second_loaded.ensures.what
