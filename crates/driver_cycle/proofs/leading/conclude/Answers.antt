use Rattle.std.proofs.Common.{sym, ◌∙◌}
use Rattle.data_loop.proofs.LoopDriverLemmas.{expected_is}
use Rattle.data_loop.specs.Loops.{plan_of}
use Rattle.driver_cycle.proofs.leading.conclude.Goals as goal

pub run_driver-requires-clause-samples : goal.run_driver-requires-clause-samples
run_driver-requires-clause-samples g c = let s = c.args.own.now in let h = c.requires.leads in
    h.expect ∙ sym (expected_is (plan_of s) s.run_model.waves.value s.epoch h.epoch h.at)
