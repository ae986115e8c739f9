use Rattle.std.proofs.Common.{◌≡◌, ℕ, ◌*◌, ◌<◌, take, get_or, pos, FitsSigned, w16}
use Rattle.wav_files.specs.WavWriting.{sample_bytes}
use Rattle.wav_files.proofs.writing.fill_samples.Given as goal

abbrev pub invariant-loop-i : goal.invariant-loop-i
invariant-loop-i l = (take (2 * l.i) l.to ≡ sample_bytes (take l.i l.samples))
    × ((k : ℕ) → k < l.i → FitsSigned w16 (get_or l.samples k (pos 0)))
