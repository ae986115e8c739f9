use Rattle.pw_graph.specs.declared.parts.Part.{Part}
use Rattle.group_tests.proofs.GroupLemmas.{sound_more, fit_more}
use Rattle.group_tests.proofs.group.parts_of.Goals as goal

pub loop-text-preserved : goal.loop-text-preserved
loop-text-preserved c = let part : Part = record { nodes = c.new.result; plan = c.in_ok-plan.plan } in record {
  sound = sound_more c.loop-text.parts part c.push.new.self c.in-Ok.ensures.ok c.loop-text.invariant.sound c.in_ok-plan.ensures.sound;
  fit = fit_more c.args.waves.now c.loop-text.parts part c.push.new.self c.in-Ok.ensures.ok c.loop-text.invariant.fit c.in_ok-plan.ensures.fit;
}
