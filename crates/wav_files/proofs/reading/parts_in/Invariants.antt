use Rattle.std.proofs.Common.{◌≡◌, ◌≤◌, length, None, IfSome}
use Rattle.wav_files.specs.Chunks.{chunks_of}
use Rattle.wav_files.specs.FormatChunk.{IsForm}
use Rattle.wav_files.specs.WavReading.{parts_from}
use Rattle.wav_files.proofs.reading.parts_in.Given as goal

-- what is left gives what all chunks give
abbrev pub invariant-chunks : goal.invariant-chunks
invariant-chunks l = record {
  same : parts_from l.known (chunks_of l.left) ≡ parts_from None (chunks_of l.chunks);
  form : IfSome l.known IsForm;
  shorter : length l.left ≤ length l.chunks;
}

abbrev pub decreases-chunks : goal.decreases-chunks
decreases-chunks l = length l.left
