use Rattle.std.proofs.Common.{ℕ, sym, ap, ◌∙◌, subst}
use Rattle.board_rule.specs.declared.view.View.{View}
use Rattle.board_rule.specs.Layout.{layout_of}
use Rattle.board_rule.specs.buffers.BlockSteps.{StoresReaders, readers_stored}
use Rattle.io_areas.proofs.BlockLemmas.{may_announce, announced}
use Rattle.io_areas.proofs.output_turn.emit.Goals as goal

pub store_readers-requires-clause-phase : goal.store_readers-requires-clause-phase
store_readers-requires-clause-phase c = let p = layout_of c.args.board.now.board_shape in let v : View = c.args.seat.now.knows in
    let q : ℕ = c.args.pool in
    subst (λ (w : View). StoresReaders p w q c.args.id) (sym c.fill.ensures.knows)
    (may_announce p v q c.args.id c.requires.phase.0 c.requires.free.0)

pub returns-clause-knows : goal.returns-clause-knows
returns-clause-knows c = let p = layout_of c.args.board.now.board_shape in let v : View = c.args.seat.now.knows in let q : ℕ = c.args.pool in
    c.store_readers.ensures.knows ∙ ap (λ (w : View). readers_stored p w q c.args.id) c.fill.ensures.knows
    ∙ announced p v q c.args.id c.requires.phase.0 c.requires.free.0
