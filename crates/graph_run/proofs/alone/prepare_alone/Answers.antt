use Rattle.std.proofs.Common.{◌∙◌}
use Rattle.graph_run.proofs.RunStatesLemmas.{alone_from}
use Rattle.graph_run.proofs.alone.prepare_alone.Goals as goal

pub returns : goal.returns
returns c = alone_from c.args.plan.now c.args.waves.now c.in_ok-shared.field-0 c.in_ok-shared.ensures c.requires.sound c.in_ok-done.done
    c.in_ok-rooms.rooms (c.in_ok-done.ensures.list ∙ c.new.ensures) c.in_ok-done.ensures.spare c.in_ok-rooms.ensures
