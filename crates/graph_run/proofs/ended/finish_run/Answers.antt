use Rattle.std.proofs.Common.{sym, subst, arith}
use Rattle.std.specs.Prelude.{All}
use Rattle.wav_files.specs.declared.outcome.Kept.{Kept}
use Rattle.wav_files.specs.WavWriting.{IsWave}
use Rattle.cycle_model.proofs.KeptLemmas.{kept_is_wave}
use Rattle.graph_run.proofs.RunStatesLemmas.{run_of_ended, ended_count, ended_events}
use Rattle.graph_run.proofs.ended.finish_run.Goals as goal

pub answer-requires-clause-closed : goal.answer-requires-clause-closed
answer-requires-clause-closed c = let is = c.requires.ended in
    let count = ended_count c.args.plan.now c.args.waves.now c.args.ended is in let room = is.rooms.closed in omega (arith, count, room)

pub answer-requires-clause-events : goal.answer-requires-clause-events
answer-requires-clause-events c = let is = c.requires.ended in
    let total = ended_events c.args.plan.now c.args.waves.now c.args.ended is in let room = is.rooms.history in omega (arith, total, room)

pub returns-clause-run : goal.returns-clause-run
returns-clause-run c = let a = c.answer.ensures in
    run_of_ended c.args.plan.now c.args.waves.now c.args.ended c.requires.ended c.answer.result.0.history c.answer.result.1
    a.shapes a.expect a.history a.legal a.ticks

pub returns-clause-waves : goal.returns-clause-waves
returns-clause-waves c = subst (All (λ (kept : Kept). IsWave kept.wav)) (sym c.answer.ensures.sinks)
    (kept_is_wave c.args.plan.now c.args.waves.now c.requires.sound c.requires.fit)
