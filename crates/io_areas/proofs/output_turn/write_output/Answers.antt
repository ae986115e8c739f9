use Rattle.std.proofs.Common.{◌≢◌, ◌<◌, ◌∙◌, All, AllPairs, length, ap, sym, subst}
use Rattle.board_rule.specs.declared.view.View.{View}
use Rattle.board_rule.specs.Layout.{layout_of}
use Rattle.board_rule.specs.buffers.WriterSteps.{LoadsAsWriter, StoresHave}
use Rattle.io_areas.specs.Writing.{number_given}
use Rattle.io_areas.specs.OutputAnswer.{last_of}
use Rattle.io_areas.specs.working.OutputSteps.{AreMade, IsPublishedNow}
use Rattle.io_areas.proofs.PooledBoardLemmas.{some_link, once}
use Rattle.io_areas.proofs.OutputTurnLemmas as turn
use Rattle.io_areas.proofs.OutputTurnLemmas.{may_load_all, begun, obtained, emitted}
use Rattle.io_areas.proofs.output_turn.write_output.Goals as goal

pub load_all-given-requires-clause-some : goal.load_all-given-requires-clause-some
load_all-given-requires-clause-some c = let p = layout_of c.args.board.now.board_shape in let r = c.requires in
    subst (λ xs. 0 < length xs) (sym r.links) (some_link p r.board c.args.pool r.phase.has.0)

pub load_all-given-requires-clause-once : goal.load_all-given-requires-clause-once
load_all-given-requires-clause-once c = let p = layout_of c.args.board.now.board_shape in let r = c.requires in
    subst (AllPairs (λ k l. k ≢ l)) (sym r.links) (once p r.board c.args.pool r.phase.has.0)

pub load_all-given-requires-clause-phase : goal.load_all-given-requires-clause-phase
load_all-given-requires-clause-phase c = let p = layout_of c.args.board.now.board_shape in let r = c.requires in let v : View = c.args.seat.now.knows in
    subst (All (LoadsAsWriter p v)) (sym r.links) (may_load_all p v c.args.pool r.board r.phase)

pub obtain-reclaimed-requires-clause-phase : goal.obtain-reclaimed-requires-clause-phase
obtain-reclaimed-requires-clause-phase c = let p = layout_of c.args.board.now.board_shape in let v : View = c.args.seat.now.knows in
    let w : View = c.load_all-given.new.seat.knows in let r = c.requires in
    let t = begun p v c.args.pool c.args.free.now c.args.links.now w r.board r.phase r.links r.blocks c.load_all-given.ensures.ends in
    turn.may_reclaim t

pub obtain-reclaimed-requires-clause-blocks : goal.obtain-reclaimed-requires-clause-blocks
obtain-reclaimed-requires-clause-blocks c = let p = layout_of c.args.board.now.board_shape in let v : View = c.args.seat.now.knows in
    let w : View = c.load_all-given.new.seat.knows in let r = c.requires in
    let t = begun p v c.args.pool c.args.free.now c.args.links.now w r.board r.phase r.links r.blocks c.load_all-given.ensures.ends in
    turn.blocks_again t

pub emit-requires-clause-phase : goal.emit-requires-clause-phase
emit-requires-clause-phase c = let p = layout_of c.args.board.now.board_shape in let v : View = c.args.seat.now.knows in
    let w : View = c.load_all-given.new.seat.knows in
    let r = c.requires in
    let t = begun p v c.args.pool c.args.free.now c.args.links.now w r.board r.phase r.links r.blocks c.load_all-given.ensures.ends in
    let o = c.obtain-reclaimed in let e = o.ensures in
    let u = obtained t o.result o.new.seat.knows o.new.free e.reclaimed e.queue e.size in
    turn.may_fill u

pub emit-requires-clause-unfilled : goal.emit-requires-clause-unfilled
emit-requires-clause-unfilled c = let p = layout_of c.args.board.now.board_shape in let v : View = c.args.seat.now.knows in
    let w : View = c.load_all-given.new.seat.knows in
    let r = c.requires in
    let t = begun p v c.args.pool c.args.free.now c.args.links.now w r.board r.phase r.links r.blocks c.load_all-given.ensures.ends in
    let o = c.obtain-reclaimed in let e = o.ensures in
    let u = obtained t o.result o.new.seat.knows o.new.free e.reclaimed e.queue e.size in
    turn.is_unfilled u

pub emit-requires-clause-free : goal.emit-requires-clause-free
emit-requires-clause-free c = let p = layout_of c.args.board.now.board_shape in let v : View = c.args.seat.now.knows in
    let w : View = c.load_all-given.new.seat.knows in
    let r = c.requires in
    let t = begun p v c.args.pool c.args.free.now c.args.links.now w r.board r.phase r.links r.blocks c.load_all-given.ensures.ends in
    let o = c.obtain-reclaimed in let e = o.ensures in
    let u = obtained t o.result o.new.seat.knows o.new.free e.reclaimed e.queue e.size in
    ((turn.others u).inside, (turn.others u).free)

pub publish_all-requires-clause-once : goal.publish_all-requires-clause-once
publish_all-requires-clause-once c = let p = layout_of c.args.board.now.board_shape in let r = c.requires in
    subst (AllPairs (λ k l. k ≢ l)) (sym r.links) (once p r.board c.args.pool r.phase.has.0)

pub publish_all-requires-clause-phase : goal.publish_all-requires-clause-phase
publish_all-requires-clause-phase c = let p = layout_of c.args.board.now.board_shape in let v : View = c.args.seat.now.knows in
    let w : View = c.load_all-given.new.seat.knows in let r = c.requires in
    let t = begun p v c.args.pool c.args.free.now c.args.links.now w r.board r.phase r.links r.blocks c.load_all-given.ensures.ends in
    let o = c.obtain-reclaimed in let e = o.ensures in
    let u = obtained t o.result o.new.seat.knows o.new.free e.reclaimed e.queue e.size in
    let y : View = c.emit.new.seat.knows in let d = emitted u y c.emit.ensures.knows in
    subst (All (λ l. StoresHave p y l o.result.1)) (sym r.links) (turn.may_publish_all d)

pub returns-clause-knows : goal.returns-clause-knows
returns-clause-knows c = let p = layout_of c.args.board.now.board_shape in let v : View = c.args.seat.now.knows in
    let w : View = c.load_all-given.new.seat.knows in
    let r = c.requires in
    let t = begun p v c.args.pool c.args.free.now c.args.links.now w r.board r.phase r.links r.blocks c.load_all-given.ensures.ends in
    let o = c.obtain-reclaimed in let e = o.ensures in
    let u = obtained t o.result o.new.seat.knows o.new.free e.reclaimed e.queue e.size in
    let y : View = c.emit.new.seat.knows in let d = emitted u y c.emit.ensures.knows in
    let z : View = c.publish_all.new.seat.knows in let ends =
    subst (λ xs. AreMade (IsPublishedNow p y o.result.1) y xs z) r.links c.publish_all.ensures.ends in
    turn.has_written d z ends

pub returns-clause-blocks : goal.returns-clause-blocks
returns-clause-blocks c = let p = layout_of c.args.board.now.board_shape in let v : View = c.args.seat.now.knows in
    let w : View = c.load_all-given.new.seat.knows in
    let r = c.requires in
    let t = begun p v c.args.pool c.args.free.now c.args.links.now w r.board r.phase r.links r.blocks c.load_all-given.ensures.ends in
    let o = c.obtain-reclaimed in let e = o.ensures in
    let u = obtained t o.result o.new.seat.knows o.new.free e.reclaimed e.queue e.size in
    let y : View = c.emit.new.seat.knows in let d = emitted u y c.emit.ensures.knows in
    let z : View = c.publish_all.new.seat.knows in let ends =
    subst (λ xs. AreMade (IsPublishedNow p y o.result.1) y xs z) r.links c.publish_all.ensures.ends in
    turn.new_blocks d z ends

pub returns-clause-answer : goal.returns-clause-answer
returns-clause-answer c = let p = layout_of c.args.board.now.board_shape in let v : View = c.args.seat.now.knows in
    let w : View = c.load_all-given.new.seat.knows in
    let r = c.requires in
    let t = begun p v c.args.pool c.args.free.now c.args.links.now w r.board r.phase r.links r.blocks c.load_all-given.ensures.ends in
    let o = c.obtain-reclaimed in let e = o.ensures in
    let u = obtained t o.result o.new.seat.knows o.new.free e.reclaimed e.queue e.size in
    let y : View = c.emit.new.seat.knows in let d = emitted u y c.emit.ensures.knows in
    let z : View = c.publish_all.new.seat.knows in let ends =
    subst (λ xs. AreMade (IsPublishedNow p y o.result.1) y xs z) r.links c.publish_all.ensures.ends in
    record {
      given = c.load_all-given.ensures.given ∙ ap (λ xs. number_given p v (last_of xs)) r.links;
      reclaimed = turn.reclaimed u;
      returned = turn.returned u;
      used = turn.is_used d z ends;
      freed = turn.is_freed d z ends;
      others = turn.are_kept d z ends;
      queue = e.queue;
    }
