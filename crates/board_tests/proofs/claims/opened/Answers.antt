use Rattle.std.proofs.Common.{arith, rules, ◌≡◌, ◌∙◌, ℕ, zero, suc, ◌<◌, length, List, [], ◌∷◌, get_or, sym, ap, subst}
use Rattle.std.specs.Prelude.{unwrap_or}
use Rattle.board_rule.specs.declared.view.View.{View}
use Rattle.board_rule.specs.declared.board_shape.BoardShape.{BoardShape}
use Rattle.board_rule.specs.Layout.{layout_of}
use Rattle.board_rule.specs.Known.{Known}
use Rattle.board_rule.specs.View.{Samples, loop_view}
use Rattle.board_rule.specs.buffers.SampleWords.{silence}
use Rattle.board_rule.specs.OnBoard.{table_of}
use Rattle.board_rule.proofs.buffers.SilenceLemmas.{silence_is_table}
use Rattle.activation_words.specs.Members.{IsResting, IsBetween}
use Rattle.activation_words.proofs.MemberLemmas.{new_rests, new_between}
use Rattle.board_tests.proofs.claims.opened.Goals as goal

low : (n : ℕ) → get_or (0 ∷ 1 ∷ 0 ∷ 0 ∷ []) n 0 < 2
low zero = omega arith
low (suc zero) = omega arith
low (suc (suc zero)) = omega arith
low (suc (suc (suc zero))) = omega arith
low (suc (suc (suc (suc n)))) = omega arith

pub new-requires-clause-seats : goal.new-requires-clause-seats
new-requires-clause-seats c = let e = c.in_ok-seat_of.ensures in let four : length c.args.shape.now.nodes ≡ 4 = search rules in record {
  some_seats = omega arith;
  all = ap (λ (l : List ℕ). length l) e ∙ sym four;
  each = λ n h o. subst (λ (l : List ℕ). get_or l n 0 < 2) (sym e) (low n);
}

pub returns-in-Some : goal.returns-in-Some
returns-in-Some c = let b = c.in_ok-board.board in let p = layout_of b.board_shape in let e : Samples = silence c.args.shape.now in
    let d = c.in_ok-board.ensures.driver in let board_shape = c.in_ok-board.ensures.board_shape in
    let seat : ℕ → Known = λ k. record { table = table_of b; knows = loop_view p e k } in
    let s₁ : c.in-Some.one ≡ seat 0 = ap (λ o. unwrap_or o (seat 0))
    (sym c.in-Some.ensures.0 ∙ c.in_ok-board.ensures.loops 0 (omega arith)) in
    let s₂ : c.in-Some.two ≡ seat 1 = ap (λ o. unwrap_or o (seat 1))
    (sym c.in-Some.ensures.1 ∙ c.in_ok-board.ensures.loops 1 (omega arith)) in
    let count : p.seats ≡ 2 = ap (λ (q : BoardShape). q.seats) board_shape in (
      ap (λ (q : BoardShape). q.shape) board_shape,
      ap (λ (k : Known). k.table) d,
      ap (λ (k : Known). k.table) s₁,
      ap (λ (k : Known). k.table) s₂,
      ap (λ (q : BoardShape). q.seat_of) board_shape ∙ c.in_ok-seat_of.ensures,
      (
        subst (λ (v : View). IsBetween p v) (sym (ap (λ (k : Known). k.knows) d)) (new_between p e 2 b.sound),
        (λ m h o own. subst (λ (v : View). IsResting p v m) (sym (ap (λ (k : Known). k.knows) s₁))
            (new_rests p e 0 m h o own (omega arith))),
        (λ m h o own. subst (λ (v : View). IsResting p v m) (sym (ap (λ (k : Known). k.knows) s₂))
            (new_rests p e 1 m h o own (omega arith))),
      ),
    )

pub new-requires-clause-samples : goal.new-requires-clause-samples
new-requires-clause-samples c = silence_is_table (layout_of record { shape = c.args.shape.now; seat_of = c.in_ok-seat_of.seat_of; seats = 2 })
