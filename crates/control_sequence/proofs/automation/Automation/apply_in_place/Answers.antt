-- A piece of whole frames is written after those before it.
use Rattle.std.proofs.Common.{rules, ◌≡◌, ◌+◌, ◌-◌, ◌*◌, ◌/◌, ◌%◌, ◌≤◌, ◌∙◌, ◌++◌, length, take, drop, refl, ap, arith, ℕ}
use Rattle.std.proofs.lemmas.Nat.{div-add-mod'}
use Rattle.control_sequence.specs.Automation.{Stream, automated}
use Rattle.control_sequence.proofs.AutomationLemmas.{frames_written, whole_samples, whole_stream}
use Rattle.control_sequence.proofs.PieceLemmas.{samples_of, whole_frames, frames_in, piece_untouched}
use Rattle.control_sequence.proofs.automation.Automation.apply_in_place.Goals as goal

pub slice_bounds-apply_piece-end : goal.slice_bounds-apply_piece-end
slice_bounds-apply_piece-end c =
    let row = c.args.row.now in
    let channels = c.self.inside.channels in
    let n = c.min-n.result in
    let width : channels ≡ c.args.self.now.channels = search rules in
    let whole : length row % channels ≡ 0 = ap (λ m. length row % m) width ∙ c.requires.whole in
    let within : c.loop-done.done + n ≤ length row / channels = omega (arith, c.min-n.ensures, c.loop-done-test.true) in
    let end = whole_samples (length row) channels (c.loop-done.done + n) whole within in
    omega (arith, end, c.loop-done.auto.row)

pub apply_piece-requires-clause-whole : goal.apply_piece-requires-clause-whole
apply_piece-requires-clause-whole c =
    let row = c.args.row.now in
    let channels = c.self.inside.channels in
    let done = c.loop-done.done in
    let n = c.min-n.result in
    let width : channels ≡ c.args.self.now.channels = search rules in
    let same : c.args.self.now.channels ≡ c.loop-done.self.channels = search rules in
    let whole : length row % channels ≡ 0 = ap (λ m. length row % m) width ∙ c.requires.whole in
    let within : done + n ≤ length row / channels = omega (arith, c.min-n.ensures, c.loop-done-test.true) in
    let end = whole_samples (length row) channels (done + n) whole within in
    let size = samples_of c.loop-done.row channels done n (omega (arith, end, c.loop-done.auto.row)) in
    whole_frames (length (take ((done + n) * channels - done * channels) (drop (done * channels) c.loop-done.row)))
    c.loop-done.self.channels n (size ∙ ap (λ m. n * m) (width ∙ same))

pub loop-done-preserved : goal.loop-done-preserved
loop-done-preserved c =
    let self = c.args.self.now in
    let row = c.args.row.now in
    let channels = c.self.inside.channels in
    let done = c.loop-done.done in
    let n = c.min-n.result in
    let from = done * channels in
    let w = (done + n) * channels - from in
    let piece = take w (drop from c.loop-done.row) in
    let width : channels ≡ self.channels = search rules in
    let whole : length row % channels ≡ 0 = ap (λ m. length row % m) width ∙ c.requires.whole in
    let within : done + n ≤ length row / channels = omega (arith, c.min-n.ensures, c.loop-done-test.true) in
    let end : (done + n) * channels ≤ length row = whole_samples (length row) channels (done + n) whole within in
    let before : from ≤ length row = whole_samples (length row) channels done whole (omega (arith, within)) in
    let size : length piece ≡ n * self.channels =
    samples_of c.loop-done.row channels done n (omega (arith, end, c.loop-done.auto.row)) ∙ ap (λ m. n * m) width in
    let some : 1 ≤ self.channels = omega (arith, width, c.self.invariant.1.0) in
    let count : length piece / self.channels ≡ n = frames_in (length piece) self.channels n some size in
    record {
      within = within;
      moved = c.apply_piece.ensures.moved
          ∙ ap (λ (s : Stream). record s { frames = s.frames + length piece / s.channels }) c.loop-done.invariant.moved
          ∙ ap (λ (m : ℕ). record self { frames = m }) (omega (arith, count));
      written = frames_written self.points self.channels self.frames done n row row c.loop-done.row c.apply_piece.new.piece
          from w ((done + n) * channels) some (ap (λ m. done * m) width) (ap (λ m. (done + n) * m) width) end refl
          c.loop-done.invariant.written
          (c.apply_piece.ensures.samples
          ∙ ap (λ (s : Stream). automated s.points s.channels s.frames piece) c.loop-done.invariant.moved
          ∙ ap (automated self.points self.channels (self.frames + done))
          (piece_untouched self.points self.channels self.frames row c.loop-done.row from w c.loop-done.invariant.written before));
    }

pub returns-clause-samples : goal.returns-clause-samples
returns-clause-samples c =
    let self = c.args.self.now in
    let row = c.args.row.now in
    let channels = c.self.inside.channels in
    let width : channels ≡ self.channels = search rules in
    let whole : length row % channels ≡ 0 = ap (λ m. length row % m) width ∙ c.requires.whole in
    let all : c.loop-done.done ≡ length row / channels = omega (arith, c.loop-done.invariant.within, c.loop-done-test.false) in
    let long : c.loop-done.done * channels ≡ length row =
    ap (λ n. n * channels) all ∙ omega (arith, div-add-mod' (length row) channels, whole) in
    c.loop-done.invariant.written
    ∙ ap (λ n. automated self.points self.channels self.frames (take n row) ++ drop n row) long
    ∙ whole_stream self.points self.channels self.frames row row refl

pub returns-clause-moved : goal.returns-clause-moved
returns-clause-moved c =
    let self = c.args.self.now in
    let row = c.args.row.now in
    let channels = c.self.inside.channels in
    let width : channels ≡ self.channels = search rules in
    let all : c.loop-done.done ≡ length row / channels = omega (arith, c.loop-done.invariant.within, c.loop-done-test.false) in
    c.loop-done.invariant.moved ∙ ap (λ (m : ℕ). record self { frames = self.frames + m }) (all ∙ ap (λ m. length row / m) width)
