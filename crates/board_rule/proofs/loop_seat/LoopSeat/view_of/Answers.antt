use Rattle.std.proofs.Common.{◌≡◌, ◌∙◌, ◌<◌, ap, sym, subst, arith, length}
use Rattle.board_rule.specs.declared.view.View.{View}
use Rattle.board_rule.specs.Known.{Known}
use Rattle.board_rule.specs.Layout.{layout_of}
use Rattle.board_rule.specs.buffers.Spans.{block_at}
use Rattle.board_rule.specs.buffers.EndViews.{block_of}
use Rattle.board_rule.specs.buffers.BufferReads.{HasPool}
use Rattle.board_rule.proofs.start.SlotLemmas.{block_sits}
use Rattle.board_rule.proofs.start.EntryLemmas.{block_kept, block_in}
use Rattle.board_rule.proofs.loop_seat.LoopSeat.view_of.Goals as goal

pub index-requires : goal.index-requires
index-requires c =
    let b = c.args.board.now in let p = layout_of b.board_shape in let i = c.self.inside in let v : View = i.token.me.0 in
    let is : v ≡ c.args.self.now.knows = ap (λ (k : Known). k.knows) c.self.view_is in
    let has = subst (λ (u : View). HasPool p u c.args.pool) (sym is) c.requires.pool in let room = has.2 in let few = c.requires.block in
    let there = block_in p v i.nodes.items i.writes.items i.reads.items i.blocks.items i.woke c.self.invariant c.args.pool c.args.id c.block_slot.result
    has.0 few has.1.0 (omega arith) c.block_slot.ensures in
    let len = i.blocks.ok.0 in omega arith

pub returns : goal.returns
returns c =
    let b = c.args.board.now in let p = layout_of b.board_shape in let i = c.self.inside in let v : View = i.token.me.0 in
    let is : v ≡ c.args.self.now.knows = ap (λ (k : Known). k.knows) c.self.view_is in
    let has = subst (λ (u : View). HasPool p u c.args.pool) (sym is) c.requires.pool in let room = has.2 in let few = c.requires.block in
    let low : block_at p c.args.pool c.args.id < length v.blocks = omega arith in
    c.index.ensures ∙ block_kept v i.nodes.items i.writes.items i.reads.items i.blocks.items i.woke c.self.invariant (block_at p c.args.pool c.args.id) c.block_slot.result
    (block_sits p v c.args.pool c.args.id c.block_slot.result has.0 few has.1.0 c.block_slot.ensures) low c.index.result.now
    ∙ ap (λ (u : View). block_of p u c.args.pool c.args.id) is
