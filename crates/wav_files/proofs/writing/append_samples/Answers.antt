use Rattle.std.proofs.Common.{◌∙◌, ◌++◌, List, ℕ, length, ap, arith, length-append}
use Rattle.wav_files.specs.WavWriting.{sample_bytes}
use Rattle.wav_files.proofs.PiecesLemmas.{piece_written, parts_read_back}
use Rattle.wav_files.proofs.WavReadingLemmas.{length-sample_bytes}
use Rattle.wav_files.proofs.writing.append_samples.Goals as goal

pub pieces-preserved : goal.pieces-preserved
pieces-preserved c =
    let parts = c.split_at.ensures.by_index.0 in
    record {
      bytes = ap (λ (xs : List ℕ). xs ++ sample_bytes c.split_at.result.1.now) c.append_piece.ensures.bytes
          ∙ piece_written c.pieces.to.items c.pieces.left.now c.split_at.result.0.now c.split_at.result.1.now parts
          ∙ c.pieces.invariant.bytes;
      read_back = λ later. c.pieces.invariant.read_back
          (parts_read_back c.pieces.left.now c.split_at.result.0.now c.split_at.result.1.now parts c.append_piece.ensures.read_back later);
      room = omega (
        arith,
        ap length c.append_piece.ensures.bytes,
        length-append c.pieces.to.items (sample_bytes c.split_at.result.0.now),
        length-sample_bytes c.split_at.result.0.now,
        c.split_at.ensures.back_len,
        c.split_at.ensures.front_len,
        c.append_piece.ensures.capacity,
        c.pieces.invariant.room,
      );
    }
