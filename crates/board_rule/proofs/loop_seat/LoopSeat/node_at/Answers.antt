use Rattle.std.proofs.Common.{◌≡◌, ◌∙◌, ap, sym, subst, arith}
use Rattle.board_rule.specs.declared.view.View.{View}
use Rattle.board_rule.specs.Known.{Known}
use Rattle.board_rule.specs.Layout.{layout_of}
use Rattle.board_rule.specs.activation.SeatNodes.{Has}
use Rattle.board_rule.specs.View.{node_of}
use Rattle.board_rule.specs.working.Progress.{progress_of}
use Rattle.board_rule.proofs.start.SlotLemmas.{node_sits}
use Rattle.board_rule.proofs.start.EntryLemmas.{node_kept, node_in}
use Rattle.board_rule.proofs.loop_seat.LoopSeat.node_at.Goals as goal

pub index-requires : goal.index-requires
index-requires c =
    let b = c.args.board.now in let p = layout_of b.board_shape in let i = c.self.inside in let v : View = i.token.me.0 in
    let is : v ≡ c.args.self.now.knows = ap (λ (k : Known). k.knows) c.self.view_is in
    let has = subst (λ (u : View). Has p u c.args.at) (sym is) c.requires in
    let there = node_in p v i.nodes.items i.writes.items i.reads.items i.blocks.items i.woke c.self.invariant b.sound c.args.at c.node_slot.result has c.node_slot.ensures in
    let len = i.nodes.ok.0 in omega arith

pub returns : goal.returns
returns c =
    let b = c.args.board.now in let p = layout_of b.board_shape in let i = c.self.inside in let v : View = i.token.me.0 in
    let is : v ≡ c.args.self.now.knows = ap (λ (k : Known). k.knows) c.self.view_is in
    let has = subst (λ (u : View). Has p u c.args.at) (sym is) c.requires in
    c.index.ensures ∙ node_kept v i.nodes.items i.writes.items i.reads.items i.blocks.items i.woke c.self.invariant c.args.at c.node_slot.result
    (node_sits p v c.args.at c.node_slot.result b.sound has c.node_slot.ensures) has.there c.index.result.now
    ∙ ap (λ (u : View). progress_of (node_of u c.args.at)) is
