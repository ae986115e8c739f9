use Rattle.std.proofs.Common.{◌≡◌, ◌≤◌, take}
use Rattle.pw_lists.specs.Samples.{peak_of}
use Rattle.s16_mixer.proofs.plain.peaks.peak.Given as goal

abbrev pub invariant-loop-x : goal.invariant-loop-x
invariant-loop-x l = (l.top ≡ peak_of (take l.x-index l.s)) × (l.top ≤ 32768)
