use Rattle.std.proofs.Common.{◌≡◌, ◌+◌, ◌/◌, ◌%◌, ◌≤◌, ◌++◌, length, vec_len, vec_capacity}
use Rattle.wav_files.specs.WavReading.{samples_in}
use Rattle.wav_files.proofs.reading.append_samples.Given as goal

-- what is there, with the samples of what is left, is what was asked for
abbrev pub invariant-pieces : goal.invariant-pieces
invariant-pieces l = record {
  same : l.to.items ++ samples_in l.left ≡ l.fn.to.items ++ samples_in l.bytes;
  even : length l.left % 2 ≡ 0;
  room : vec_len l.to + length l.left / 2 ≤ vec_capacity l.to;
}

abbrev pub decreases-pieces : goal.decreases-pieces
decreases-pieces l = length l.left
