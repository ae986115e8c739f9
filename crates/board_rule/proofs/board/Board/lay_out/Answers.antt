use Rattle.std.proofs.Common.{arith, ap, ◌∙◌, refl, ◌≡◌, ◌<◌, ◌≤◌, ◌+◌, ℕ, List, [], length, sym, subst}
use Rattle.board_rule.specs.Layout.{layout_of, nodes, word_count}
use Rattle.board_rule.specs.View.{first_view}
use Rattle.board_rule.specs.BoardRule.{Holds}
use Rattle.atomic_table.specs.Table.{opening}
use Rattle.board_rule.proofs.events.SoundLemmas.{sound_layout}
use Rattle.board_rule.proofs.LayoutLemmas.{count_is, long_enough, pending_start, status_start, late_start, event_start}
use Rattle.board_rule.proofs.start.StartLemmas.{opens}
use Rattle.board_rule.proofs.buffers.HolderLemmas.{placed}
use Rattle.pw_graph.proofs.LayoutLemmas.{length-start_words}
use Rattle.pw_graph.specs.Layout.{start_words, event_place, event_count}
use Rattle.board_rule.proofs.board.Board.lay_out.Goals as goal

pub of_words-requires : goal.of_words-requires
of_words-requires c = let board_shape = c.args.board_shape in let p = layout_of board_shape in let shape = board_shape.shape in
    let long = long_enough shape in let wide : nodes p + nodes p < word_count shape = omega arith in
    subst (λ (w : List ℕ). Holds p (opening w [] (first_view p))) (sym (c.as_slice-2.ensures ∙ c.in_ok-words.ensures))
    (opens p (start_words shape) [] (sound_layout board_shape c.requires.pooled.sound c.requires.seats) c.requires.pooled refl (count_is shape)
    (subst (λ k. nodes p + nodes p < k) (count_is shape) wide)
    (subst (λ k. event_place shape (event_count shape) ≤ k) (count_is shape) long) refl (late_start shape) (event_start shape)
    (pending_start shape) (status_start shape))

pub invariant_of-result-2-clause-sound : goal.invariant_of-result-2-clause-sound
invariant_of-result-2-clause-sound c = sound_layout c.args.board_shape c.requires.pooled.sound c.requires.seats

pub invariant_of-result-2-clause-room : goal.invariant_of-result-2-clause-room
invariant_of-result-2-clause-room c = long_enough c.args.board_shape.shape

pub invariant_of-result-2-clause-fits : goal.invariant_of-result-2-clause-fits
invariant_of-result-2-clause-fits c = let a = c.words.inside.inner.small in let b = c.words.inside.inner.ok in let len = b.0 in
    let cap = b.1 in
    let v : length c.words.inside.inner.items ≡ length c.in_ok-words.words = ap (λ (l : List ℕ). length l) c.words.view_is in
    let w : length c.in_ok-words.words ≡ length (start_words c.args.board_shape.shape) = ap (λ (l : List ℕ). length l) c.in_ok-words.ensures in
    let z = count_is c.args.board_shape.shape in omega arith

pub invariant_of-result-2-clause-words : goal.invariant_of-result-2-clause-words
invariant_of-result-2-clause-words c = c.in_ok-table.ensures.0 ∙ ap (λ (l : List ℕ). length l) (c.as_slice-2.ensures ∙ c.in_ok-words.ensures)
    ∙ sym (count_is c.args.board_shape.shape)

pub invariant_of-result-2-clause-placed : goal.invariant_of-result-2-clause-placed
invariant_of-result-2-clause-placed c = placed c.args.board_shape c.requires.pooled c.requires.seats

pub rows_of-requires-clause-room : goal.rows_of-requires-clause-room
rows_of-requires-clause-room c = let a : c.len.result ≡ length (start_words c.args.board_shape.shape) = c.len.ensures
    ∙ ap (λ (l : List ℕ). length l) c.in_ok-words.ensures in let b = length-start_words c.args.board_shape.shape c.requires.pooled in omega arith

pub rows_of-requires-clause-placed : goal.rows_of-requires-clause-placed
rows_of-requires-clause-placed c = placed c.args.board_shape c.requires.pooled c.requires.seats

pub slots_in-requires-clause-placed : goal.slots_in-requires-clause-placed
slots_in-requires-clause-placed c = placed c.args.board_shape c.requires.pooled c.requires.seats
