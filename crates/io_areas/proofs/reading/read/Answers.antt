use Rattle.std.proofs.Common.{◌≡◌, ◌+◌, ◌*◌, ℤ, List, length, sym, ap, ◌∙◌, subst, arith}
use Rattle.board_rule.specs.declared.view.View.{View}
use Rattle.board_rule.specs.Layout.{layout_of}
use Rattle.board_rule.specs.buffers.SampleWords.{packed, IsTable}
use Rattle.board_rule.specs.buffers.EndViews.{pool_at, pool_of}
use Rattle.board_rule.specs.buffers.ReaderSteps.{ReadsBlock, LoadsSample, sample_loaded, samples_read}
use Rattle.io_areas.proofs.SampleWordsLemmas.{IsReadTo, length-spread, spread_more}
use Rattle.io_areas.specs.Reading.{IsClamped}
use Rattle.io_areas.proofs.BroughtLemmas.{all_short, brought_whole, brought_clamped, last_spread}
use Rattle.io_areas.proofs.ReadingLemmas.{loaded_to, may_load, loads_more, samples_same, expect_same, all_is, last_knows, last_table}
use Rattle.io_areas.proofs.reading.read.Goals as goal

pub load_sample_at-word-requires-clause-phase : goal.load_sample_at-word-requires-clause-phase
load_sample_at-word-requires-clause-phase g c = let b = g.S.BoardSeat.is_driver in let p = layout_of c.args.board.now.board_shape in
    let v : View = g.S.BoardSeat.knows c.args.seat.now in let l = c.args.link in let id = c.loaded-id.result in
    subst (λ (x : View). LoadsSample b p x l id c.loop-place.place) (sym c.loop-place.invariant.knows)
    (may_load b p v l id (subst (ReadsBlock b p v l) (sym c.loaded-id.ensures) c.requires.phase) c.loop-place.place)

pub loop-place-preserved : goal.loop-place-preserved
loop-place-preserved g c = let b = g.S.BoardSeat.is_driver in let p = layout_of c.args.board.now.board_shape in
    let v : View = g.S.BoardSeat.knows c.args.seat.now in let l = c.args.link in let i = c.loop-place.invariant in
    let e = c.load_sample_at-word.ensures in let k = c.loop-place.place in let id = c.loaded-id.result in
    let h = subst (ReadsBlock b p v l) (sym c.loaded-id.ensures) c.requires.phase in
    let word : c.load_sample_at-word.result ≡ packed (samples_read b p v l) k = e.word
    ∙ ap (λ (x : View). packed (samples_read b p x l) k) i.knows ∙ ap (λ (xs : List ℤ). packed xs k) (samples_same b p v l id h k) in
    let table : IsTable p v.expect = subst (IsTable p) (expect_same b p v l id h k)
    (subst (λ (x : View). IsTable p x.expect) i.knows e.samples) in
    record {
      table = e.table ∙ i.table;
      knows = e.knows ∙ ap (λ (x : View). sample_loaded b p x l k) i.knows ∙ loads_more b p v l id h k;
      long = ap length c.spread.ensures ∙ length-spread (samples_read b p v l) (all_short b p v l table) c.loop-place.to
          (4 * k) c.load_sample_at-word.result ∙ i.long;
      so_far = subst (IsReadTo (samples_read b p v l) (4 * (k + 1))) (sym c.spread.ensures)
          (spread_more (samples_read b p v l) (all_short b p v l table) c.loop-place.to k c.load_sample_at-word.result word i.so_far);
      fits = λ _. table;
    }

pub returns-then-whole-words-clause-knows : goal.returns-then-whole-words-clause-knows
returns-then-whole-words-clause-knows g c = let b = g.S.BoardSeat.is_driver in let p = layout_of c.args.board.now.board_shape in
    let v : View = g.S.BoardSeat.knows c.args.seat.now in let l = c.args.link in let id = c.loaded-id.result in
    let h = subst (ReadsBlock b p v l) (sym c.loaded-id.ensures) c.requires.phase in
    let w = c.words_of-words.ensures in let is = w.is in let many = w.quantum in let q = c.requires.long in
    let low = c.loop-place-test.false in let high = c.loop-place.auto.place-end in let more = c.if-whole-words.true in
    let end : c.loop-place.place + 1 ≡ (pool_at p (pool_of p l)).words = omega arith in
    last_knows b p v l id h c.loop-place.place c.load_sample_at-last.ensures.knows c.loop-place.invariant.knows (omega arith)
    ∙ ap (loaded_to v l) end ∙ all_is b p v l id h (pool_at p (pool_of p l)).words (omega arith)

pub returns-then-whole-words-clause-samples : goal.returns-then-whole-words-clause-samples
returns-then-whole-words-clause-samples g c = let b = g.S.BoardSeat.is_driver in let p = layout_of c.args.board.now.board_shape in
    let v : View = g.S.BoardSeat.knows c.args.seat.now in let l = c.args.link in let i = c.loop-place.invariant in
    let id = c.loaded-id.result in let k = c.loop-place.place in let e = c.load_sample_at-last.ensures in
    let h = subst (ReadsBlock b p v l) (sym c.loaded-id.ensures) c.requires.phase in
    let w = c.words_of-words.ensures in let many = w.quantum in let q = c.requires.long in let is = i.long in
    let low = c.loop-place-test.false in let high = c.loop-place.auto.place-end in let more = c.if-whole-words.true in
    let table = last_table b p v l id h k e.samples i.knows in
    let long = ap length c.spread_rest.ensures ∙ length-spread (samples_read b p v l) (all_short b p v l table) c.loop-place.to
    _ c.load_sample_at-last.result ∙ is ∙ q in
    let all = last_spread b p v l id h c.loop-place.to k table e.word i.knows (omega arith) c.spread_rest.ensures i.so_far in
    brought_whole b p v l table c.requires.phase w.inside _ long (λ j lt near. all j (omega arith) near)

pub returns-then-whole-words-clause-clamped : goal.returns-then-whole-words-clause-clamped
returns-then-whole-words-clause-clamped g c = let b = g.S.BoardSeat.is_driver in let p = layout_of c.args.board.now.board_shape in
    let v : View = g.S.BoardSeat.knows c.args.seat.now in let l = c.args.link in let id = c.loaded-id.result in
    let h = subst (ReadsBlock b p v l) (sym c.loaded-id.ensures) c.requires.phase in
    let table = last_table b p v l id h c.loop-place.place c.load_sample_at-last.ensures.samples c.loop-place.invariant.knows in
    subst IsClamped (sym (returns-then-whole-words-clause-samples g c)) (brought_clamped b p v l table)

pub returns-else-whole-words-clause-samples : goal.returns-else-whole-words-clause-samples
returns-else-whole-words-clause-samples g c = let b = g.S.BoardSeat.is_driver in let p = layout_of c.args.board.now.board_shape in
    let v : View = g.S.BoardSeat.knows c.args.seat.now in let l = c.args.link in let i = c.loop-place.invariant in
    let is = i.long in let w = c.words_of-words.ensures in let many = w.quantum in let all = i.so_far in let q = c.requires.long in
    let some = w.some in let end = c.loop-place-test.false in let none = c.if-whole-words.false in
    brought_whole b p v l (i.fits (omega arith)) c.requires.phase w.inside c.loop-place.to (is ∙ q) (λ j lt near. all j (omega arith) near)

pub returns-else-whole-words-clause-clamped : goal.returns-else-whole-words-clause-clamped
returns-else-whole-words-clause-clamped g c = let b = g.S.BoardSeat.is_driver in let p = layout_of c.args.board.now.board_shape in
    let v : View = g.S.BoardSeat.knows c.args.seat.now in let w = c.words_of-words.ensures in let some = w.some in
    let end = c.loop-place-test.false in let none = c.if-whole-words.false in
    subst IsClamped (sym (returns-else-whole-words-clause-samples g c)) (brought_clamped b p v c.args.link (c.loop-place.invariant.fits (omega arith)))
