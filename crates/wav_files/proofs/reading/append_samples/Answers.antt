use Rattle.std.proofs.Common.{◌≡◌, ◌∙◌, ◌%◌, ◌++◌, List, ℤ, length, ap, arith, length-append}
use Rattle.std.proofs.lemmas.Int.{clamps}
use Rattle.wav_files.specs.WavReading.{samples_in}
use Rattle.wav_files.proofs.PiecesLemmas.{piece_read}
use Rattle.wav_files.proofs.WavReadingLemmas.{length-samples_in}
use Rattle.wav_files.proofs.reading.append_samples.Goals as goal

pub pieces-preserved : goal.pieces-preserved
pieces-preserved c =
    let size = c.split_at.ensures.front_len in
    let least = c.min.ensures in
    let even : length c.split_at.result.0.now % 2 ≡ 0 = omega (arith, clamps, c.pieces.invariant.even, size, least) in
    record {
      same = ap (λ (zs : List ℤ). zs ++ samples_in c.split_at.result.1.now) c.append_piece.ensures.list
          ∙ piece_read c.pieces.to.items c.pieces.left.now c.split_at.result.0.now c.split_at.result.1.now c.split_at.ensures.by_index.0 even
          ∙ c.pieces.invariant.same;
      even = omega (arith, c.pieces.invariant.even, even, c.split_at.ensures.back_len, size);
      room = omega (
        arith,
        ap length c.append_piece.ensures.list,
        length-append c.pieces.to.items (samples_in c.split_at.result.0.now),
        length-samples_in c.split_at.result.0.now,
        even,
        c.split_at.ensures.back_len,
        size,
        c.append_piece.ensures.capacity,
        c.pieces.invariant.room,
      );
    }
