use Rattle.std.proofs.Common.{take}
use Rattle.cycle_model.specs.Expected.{AreShort}
use Rattle.graph_run.proofs.boards.look_over_all.Given as goal

abbrev pub invariant-loop-wave : goal.invariant-loop-wave
invariant-loop-wave l = AreShort (take l.wave-index l.waves)
