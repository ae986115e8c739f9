use Rattle.std.proofs.Common.{◌≡◌, ◌≤◌, ◌*◌, ◌/◌, take, drop, fold, max, length, All}
use Rattle.pw_lists.specs.Samples.{peak_of}
use Rattle.s16_mixer.proofs.peaks.peak.Given as goal

abbrev pub invariant-loop-k : goal.invariant-loop-k
invariant-loop-k l = (length l.tops ≡ 128) × All (λ top. top ≤ 32768) l.tops × (fold max 0 l.tops ≡ peak_of (take (l.k * 128) l.s))

abbrev pub invariant-loop-j : goal.invariant-loop-j
invariant-loop-j l = (l.top ≡ max (peak_of (drop (length l.s / 128 * 128) l.s)) (fold max 0 (take l.j l.tops))) × (l.top ≤ 32768)
