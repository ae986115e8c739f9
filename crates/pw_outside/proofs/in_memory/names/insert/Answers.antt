use Rattle.std.proofs.Common.{◌∙◌}
use Rattle.pw_outside.proofs.InMemoryLemmas.{names_after}
use Rattle.pw_outside.proofs.in_memory.names.insert.Goals as goal

pub returns-in-Ok-insert-clause-others : goal.returns-in-Ok-insert-clause-others
returns-in-Ok-insert-clause-others c =
    λ n ne. names_after c.args.map.now c.insert.new.self c.in-Ok.key.items _ c.in-Ok-insert.ensures.updates n
    (λ e. ne (e ∙ c.in-Ok.ensures.items))
