use Rattle.std.proofs.Common.{◌≡◌, ◌+◌, ℕ, false, sym, ap, ◌∙◌, arith, eq-eqb, ne_eqb}
use Rattle.std.specs.Prelude.{Bool, cond, Some, None}
use Rattle.board_rule.specs.declared.view.View.{View}
use Rattle.board_rule.specs.Layout.{layout_of, first}
use Rattle.board_rule.specs.buffers.Areas.{stored_id}
use Rattle.board_rule.specs.buffers.BlockReadings.{delay_at}
use Rattle.board_rule.specs.buffers.EndViews.{write_of}
use Rattle.board_rule.specs.activation.SeatNodes.{cycle_of}
use Rattle.board_rule.specs.buffers.WriterSteps.{write_cycle}
use Rattle.io_areas.proofs.writing.load_for_write.Goals as goal

pub returns-then-past-eq0-clause-given : goal.returns-then-past-eq0-clause-given
returns-then-past-eq0-clause-given c = let p = layout_of c.args.board.now.board_shape in let v : View = c.args.seat.now.knows in let l = c.args.link in
    let e : first p + c.ended-past.result ≡ write_cycle p v l = c.ended-past.ensures
    ∙ ap (λ (n : ℕ). cycle_of false v (p.index n)) c.writer-node.ensures in let z = c.if-past-eq0.true in
    sym (ap (λ (b : Bool). cond b None (Some (stored_id (write_of v l) (delay_at p l))))
    (eq-eqb (write_cycle p v l) (first p) (omega arith)))

pub returns-else-past-eq0-clause-given : goal.returns-else-past-eq0-clause-given
returns-else-past-eq0-clause-given c = let p = layout_of c.args.board.now.board_shape in let v : View = c.args.seat.now.knows in let l = c.args.link in
    let e : first p + c.ended-past.result ≡ write_cycle p v l = c.ended-past.ensures
    ∙ ap (λ (n : ℕ). cycle_of false v (p.index n)) c.writer-node.ensures in let z = c.if-past-eq0.false in
    ap (λ (n : ℕ). Some n) (c.io_id_of.ensures ∙ c.load_io_as_writer-word.ensures.given.0)
    ∙ sym (ap (λ (b : Bool). cond b None (Some (stored_id (write_of v l) (delay_at p l))))
    (ne_eqb (write_cycle p v l) (first p) (omega arith)))
