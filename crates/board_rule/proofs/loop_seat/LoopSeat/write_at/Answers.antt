use Rattle.std.proofs.Common.{◌≡◌, ◌∙◌, ap, sym, subst, arith}
use Rattle.board_rule.specs.declared.view.View.{View}
use Rattle.board_rule.specs.Known.{Known}
use Rattle.board_rule.specs.Layout.{layout_of}
use Rattle.board_rule.specs.working.Slots.{HasWriter}
use Rattle.board_rule.specs.buffers.EndViews.{write_of}
use Rattle.board_rule.proofs.start.SlotLemmas.{write_sits}
use Rattle.board_rule.proofs.start.EntryLemmas.{write_kept, write_in}
use Rattle.board_rule.proofs.loop_seat.LoopSeat.write_at.Goals as goal

pub index-requires : goal.index-requires
index-requires c =
    let b = c.args.board.now in let p = layout_of b.board_shape in let i = c.self.inside in let v : View = i.token.me.0 in
    let is : v ≡ c.args.self.now.knows = ap (λ (k : Known). k.knows) c.self.view_is in
    let has = subst (λ (u : View). HasWriter p u c.args.link) (sym is) c.requires in
    let there = write_in p v i.nodes.items i.writes.items i.reads.items i.blocks.items i.woke c.self.invariant c.args.link c.write_slot.result has c.write_slot.ensures in
    let len = i.writes.ok.0 in omega arith

pub returns : goal.returns
returns c =
    let b = c.args.board.now in let p = layout_of b.board_shape in let i = c.self.inside in let v : View = i.token.me.0 in
    let is : v ≡ c.args.self.now.knows = ap (λ (k : Known). k.knows) c.self.view_is in
    let has = subst (λ (u : View). HasWriter p u c.args.link) (sym is) c.requires in
    c.index.ensures ∙ write_kept v i.nodes.items i.writes.items i.reads.items i.blocks.items i.woke c.self.invariant c.args.link c.write_slot.result
    (write_sits p v c.args.link c.write_slot.result has.0 has.2 c.write_slot.ensures) has.1 c.index.result.now
    ∙ ap (λ (u : View). write_of u c.args.link) is
