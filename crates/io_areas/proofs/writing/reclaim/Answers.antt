use Rattle.std.proofs.Common.{◌≡◌, ◌+◌, ℕ, inr, refl, ap, ◌∙◌, arith, rules}
use Rattle.board_rule.specs.declared.view.View.{View}
use Rattle.board_rule.specs.Layout.{layout_of, first}
use Rattle.board_rule.specs.buffers.BlockSteps.{fill_cycle}
use Rattle.board_rule.specs.buffers.ReclaimSteps.{readers_loaded}
use Rattle.io_areas.proofs.AtPoolLemmas.{has_block}
use Rattle.io_areas.proofs.writing.reclaim.Goals as goal

pub returns-then-past-eq0-clause-reclaimed : goal.returns-then-past-eq0-clause-reclaimed
returns-then-past-eq0-clause-reclaimed c = let p = layout_of c.args.board.now.board_shape in let v : View = c.args.seat.now.knows in
    let e : first p + c.ended-past.result ≡ fill_cycle p v c.args.pool = search rules in let z = c.if-past-eq0.true in (omega arith, refl)

pub load_readers-requires-clause-phase : goal.load_readers-requires-clause-phase
load_readers-requires-clause-phase c = let p = layout_of c.args.board.now.board_shape in let v : View = c.args.seat.now.knows in
    let e : first p + c.ended-past.result ≡ fill_cycle p v c.args.pool = search rules in let z = c.if-past-eq0.false in
    let o = c.oldest_out-id.ensures in (
      has_block p v c.args.pool c.oldest_out-id.result c.requires.phase.0 o.inside,
      c.requires.phase.1,
      inr (o.oldest, c.requires.phase.2, omega arith),
    )

pub returns-clause-reclaimed : goal.returns-clause-reclaimed
returns-clause-reclaimed c = let p = layout_of c.args.board.now.board_shape in let v : View = c.args.seat.now.knows in
    let e : first p + c.ended-past.result ≡ fill_cycle p v c.args.pool = search rules in let z = c.if-past-eq0.false in
    let r = c.load_readers.ensures in (
      omega arith,
      r.due.0,
      r.knows ∙ ap (λ (n : ℕ). readers_loaded p v c.args.pool c.oldest_out-id.result n) r.word,
      r.due.1,
      r.due.2,
    )
