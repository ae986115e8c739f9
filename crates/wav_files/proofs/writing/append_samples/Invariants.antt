use Rattle.std.proofs.Common.{◌≡◌, ◌+◌, ◌*◌, ◌≤◌, ◌++◌, length, vec_len, vec_capacity}
use Rattle.wav_files.specs.WavReading.{samples_in}
use Rattle.wav_files.specs.WavWriting.{sample_bytes}
use Rattle.wav_files.proofs.writing.append_samples.Given as goal

-- what is there, with the bytes of what is left, is what was asked for
abbrev pub invariant-pieces : goal.invariant-pieces
invariant-pieces l = record {
  bytes : l.to.items ++ sample_bytes l.left ≡ l.fn.to.items ++ sample_bytes l.samples;
  read_back : samples_in (sample_bytes l.left) ≡ l.left → samples_in (sample_bytes l.samples) ≡ l.samples;
  room : vec_len l.to + 2 * length l.left ≤ vec_capacity l.to;
}

abbrev pub decreases-pieces : goal.decreases-pieces
decreases-pieces l = length l.left
