use Rattle.std.proofs.Common.{◌≡◌, ◌∙◌, true, false, None, Err, sym, ap, arith}
use Rattle.wav_files.specs.Chunks.{chunk_at, chunks_of, is_data, after}
use Rattle.wav_files.specs.WavReading.{data_of, missing, go_on, parts_from}
use Rattle.wav_files.proofs.WavReadingLemmas.{parts_from-end, parts_from-data, parts_from-other}
use Rattle.wav_files.proofs.reading.parts_in.Goals as goal

pub returns-then-is_data-clause-parts : goal.returns-then-is_data-clause-parts
returns-then-is_data-clause-parts c =
    let samples : is_data (chunk_at c.chunks.left.now) ≡ true = sym c.is_data.ensures ∙ c.if-is_data.true in
    let here : parts_from None (chunks_of c.args.chunks.now) ≡ data_of c.chunks.known (chunk_at c.chunks.left.now) =
    sym c.chunks.invariant.same ∙ parts_from-data c.chunks.known c.chunks.left.now (omega arith) samples in
    rw here c.data_of.ensures.parts

pub returns-in-Err-clause-parts : goal.returns-in-Err-clause-parts
returns-in-Err-clause-parts c =
    let other : is_data (chunk_at c.chunks.left.now) ≡ false = sym c.is_data.ensures ∙ c.if-is_data.false in
    sym c.chunks.invariant.same ∙ parts_from-other c.chunks.known c.chunks.left.now (omega arith) other
    ∙ ap (λ r. go_on r (λ next. parts_from next (chunks_of (after (chunk_at c.chunks.left.now))))) (sym c.in-Err.ensures.next)

pub chunks-preserved : goal.chunks-preserved
chunks-preserved c =
    let other : is_data (chunk_at c.chunks.left.now) ≡ false = sym c.is_data.ensures ∙ c.if-is_data.false in
    let before = parts_from-other c.chunks.known c.chunks.left.now (omega arith) other in
    let step = ap (λ r. go_on r (λ next. parts_from next (chunks_of (after (chunk_at c.chunks.left.now))))) (sym c.in-Ok.ensures.next) in
    record {
      same = ap (λ left. parts_from c.in-Ok.next (chunks_of left)) c.after-left.ensures.bytes ∙ sym (before ∙ step)
          ∙ c.chunks.invariant.same;
      form = c.in-Ok.ensures.form;
      shorter = omega arith;
    }

pub returns-in-None-clause-parts : goal.returns-in-None-clause-parts
returns-in-None-clause-parts c =
    sym c.chunks.invariant.same ∙ parts_from-end c.chunks.known c.chunks.left.now (omega arith)
    ∙ ap (λ known. Err (missing known)) c.in-None.is

pub returns-in-Some-clause-parts : goal.returns-in-Some-clause-parts
returns-in-Some-clause-parts c =
    sym c.chunks.invariant.same ∙ parts_from-end c.chunks.known c.chunks.left.now (omega arith)
    ∙ ap (λ known. Err (missing known)) c.in-Some.is
