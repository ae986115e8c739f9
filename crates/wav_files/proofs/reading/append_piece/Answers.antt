use Rattle.std.proofs.Common.{◌≡◌, ◌∙◌, ◌*◌, ◌/◌, ◌++◌, List, ℤ, length, ap, arith, rules}
use Rattle.std.proofs.lemmas.List.{places}
use Rattle.wav_files.proofs.WavReadingLemmas.{samples_in_is}
use Rattle.wav_files.proofs.reading.append_piece.Goals as goal

pub returns-clause-list : goal.returns-clause-list
returns-clause-list c =
    let half : length c.read_i16_into.new.dst ≡ length c.args.bytes.now / 2 = search (rules, places) in
    let count : length c.args.bytes.now ≡ 2 * length c.read_i16_into.new.dst = omega (arith, c.requires.even, half) in
    c.in-Ok.ensures.items ∙ ap (λ (read : List ℤ). c.args.to.now.items ++ read)
    (samples_in_is c.args.bytes.now c.read_i16_into.new.dst count c.read_i16_into.ensures)
