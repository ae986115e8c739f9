-- One sample more.
use Rattle.std.proofs.Common.{rules}
use Rattle.soak_graph.proofs.DrawLemmas.{no_step, steps_join, draw_later, no_sample, sample_more}
use Rattle.soak_graph.proofs.draws.Draws.samples.Goals as goal

pub loop-init : goal.loop-init
loop-init c = search (rules, no_step, no_sample)

pub loop-preserved : goal.loop-preserved
loop-preserved c = search (rules, steps_join, draw_later, sample_more)
