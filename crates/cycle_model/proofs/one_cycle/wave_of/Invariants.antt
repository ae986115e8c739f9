use Rattle.std.proofs.Common.{◌≡◌, drop}
use Rattle.cycle_model.specs.Cycle.{wave_of}
use Rattle.cycle_model.proofs.one_cycle.wave_of.Given as goal

abbrev pub invariant-loop-wave : goal.invariant-loop-wave
invariant-loop-wave l = wave_of l.waves l.node ≡ wave_of (drop l.wave-index l.waves) l.node
