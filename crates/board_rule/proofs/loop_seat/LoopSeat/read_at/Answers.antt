use Rattle.std.proofs.Common.{◌≡◌, ◌∙◌, false, ap, sym, subst, arith}
use Rattle.board_rule.specs.declared.view.View.{View}
use Rattle.board_rule.specs.Known.{Known}
use Rattle.board_rule.specs.Layout.{layout_of}
use Rattle.board_rule.specs.working.Slots.{HasReader}
use Rattle.board_rule.specs.buffers.EndViews.{read_of}
use Rattle.board_rule.proofs.start.SlotLemmas.{read_sits}
use Rattle.board_rule.proofs.start.EntryLemmas.{read_kept, read_in}
use Rattle.board_rule.proofs.loop_seat.LoopSeat.read_at.Goals as goal

pub index-requires : goal.index-requires
index-requires c =
    let b = c.args.board.now in let p = layout_of b.board_shape in let i = c.self.inside in let v : View = i.token.me.0 in
    let is : v ≡ c.args.self.now.knows = ap (λ (k : Known). k.knows) c.self.view_is in
    let has = subst (λ (u : View). HasReader p u c.args.link) (sym is) c.requires in
    let there = read_in p v i.nodes.items i.writes.items i.reads.items i.blocks.items i.woke c.self.invariant c.args.link c.read_slot.result has c.read_slot.ensures in
    let len = i.reads.ok.0 in omega arith

pub returns : goal.returns
returns c =
    let b = c.args.board.now in let p = layout_of b.board_shape in let i = c.self.inside in let v : View = i.token.me.0 in
    let is : v ≡ c.args.self.now.knows = ap (λ (k : Known). k.knows) c.self.view_is in
    let has = subst (λ (u : View). HasReader p u c.args.link) (sym is) c.requires in
    c.index.ensures ∙ read_kept v i.nodes.items i.writes.items i.reads.items i.blocks.items i.woke c.self.invariant c.args.link c.read_slot.result
    (read_sits p v false c.args.link c.read_slot.result has.0 has.2 c.read_slot.ensures) has.1 c.index.result.now
    ∙ ap (λ (u : View). read_of u c.args.link) is
