use Rattle.std.proofs.Common.{arith, ◌≡◌, ◌+◌, Some, None, sym, subst}
use Rattle.board_rule.specs.Layout.{layout_of}
use Rattle.board_rule.specs.declared.view.View.{View}
use Rattle.board_rule.specs.buffers.EndViews.{pool_at}
use Rattle.board_rule.proofs.buffers.BufferReadsLemmas.{IsOldest, older_next, oldest_is}
use Rattle.board_rule.proofs.loop_seat.LoopSeat.oldest_out.Goals as goal

pub loop-id-preserved : goal.loop-id-preserved
loop-id-preserved c = let p = layout_of c.args.board.now.board_shape in let v : View = c.args.self.now.knows in
    subst (IsOldest p v c.args.pool (c.loop-id.id + 1)) (sym c.older-oldest.ensures)
    (older_next p v c.args.pool c.loop-id.id c.loop-id.oldest c.view_of.result (sym c.view_of.ensures) c.loop-id.invariant)

pub returns-in-Some : goal.returns-in-Some
returns-in-Some c = let p = layout_of c.args.board.now.board_shape in let v : View = c.args.self.now.knows in let low = c.loop-id-test.false in
    let high = c.loop-id.auto.id-end in let count = c.block_count-id-end.ensures.is in
    let all : c.loop-id.id ≡ (pool_at p c.args.pool).blocks = omega arith in
    let oldest : IsOldest p v c.args.pool (pool_at p c.args.pool).blocks (Some (c.in-Some.id, c.in-Some.field-0-1)) =
    subst (λ k. IsOldest p v c.args.pool k (Some (c.in-Some.id, c.in-Some.field-0-1))) all
    (subst (IsOldest p v c.args.pool c.loop-id.id) c.in-Some.is c.loop-id.invariant) in
    record {
      inside = oldest.0;
      oldest = λ a n h o. (c.in-Some.field-0-1, oldest_is p v c.args.pool (c.in-Some.id, c.in-Some.field-0-1) oldest);
    }

pub returns-in-None : goal.returns-in-None
returns-in-None c = let p = layout_of c.args.board.now.board_shape in let v : View = c.args.self.now.knows in let low = c.loop-id-test.false in
    let high = c.loop-id.auto.id-end in let count = c.block_count-id-end.ensures.is in let some = c.block_count-id-end.ensures.some in
    let all : c.loop-id.id ≡ (pool_at p c.args.pool).blocks = omega arith in
    let none_out : IsOldest p v c.args.pool (pool_at p c.args.pool).blocks None = subst (λ k. IsOldest p v c.args.pool k None) all
    (subst (IsOldest p v c.args.pool c.loop-id.id) c.in-None.is c.loop-id.invariant) in
    record { inside = omega arith; oldest = λ a n h o. absurd (none_out a n h o) }
