use Rattle.std.proofs.Common.{◌≡◌, ◌∙◌, ◌+◌, ℕ, ap, sym, subst, arith}
use Rattle.board_rule.specs.declared.view.View.{View}
use Rattle.board_rule.specs.Known.{Known}
use Rattle.board_rule.specs.Layout.{layout_of}
use Rattle.board_rule.specs.working.Slots.{HasWriter}
use Rattle.board_rule.specs.View.{node_of}
use Rattle.board_rule.specs.buffers.EndViews.{write_of}
use Rattle.board_rule.specs.buffers.WriterSteps.{write_cycle, IsWriter}
use Rattle.board_rule.proofs.start.SlotLemmas.{write_sits}
use Rattle.board_rule.proofs.start.EntryLemmas.{write_set, write_in}
use Rattle.board_rule.proofs.loop_seat.LoopSeat.store_have_data.Goals as goal

pub index_mut-requires : goal.index_mut-requires
index_mut-requires c =
    let b = c.args.board.now in let p = layout_of b.board_shape in let i = c.self.inside in let v : View = i.token.me.0 in
    let is : v ≡ c.args.self.now.knows = ap (λ (k : Known). k.knows) c.self.view_is in
    let h : IsWriter p c.args.self.now.knows c.args.link = c.requires.phase.0 in
    let has : HasWriter p v c.args.link = subst (λ (u : View). HasWriter p u c.args.link) (sym is) (h.0, h.1, h.2.0) in
    let there = write_in p v i.nodes.items i.writes.items i.reads.items i.blocks.items i.woke c.self.invariant c.args.link c.write_slot-slot.result has c.write_slot-slot.ensures in
    let len = i.writes.ok.0 in omega arith

pub invariant_of-self : goal.invariant_of-self
invariant_of-self c =
    let b = c.args.board.now in let p = layout_of b.board_shape in let i = c.self.inside in let v : View = i.token.me.0 in
    let is : v ≡ c.args.self.now.knows = ap (λ (k : Known). k.knows) c.self.view_is in
    let l : ℕ = c.args.link in
    let h : IsWriter p c.args.self.now.knows l = c.requires.phase.0 in
    let has : HasWriter p v l = subst (λ (u : View). HasWriter p u l) (sym is) (h.0, h.1, h.2.0) in
    let end : write_of v l ≡ c.write_at-end.result = ap (λ (u : View). write_of u l) is ∙ sym c.write_at-end.ensures in
    let cycle : write_cycle p v l ≡ c.node_at-cycle.result.next = sym (ap (λ x. x.next) c.node_at-cycle.ensures
    ∙ (λ j. (node_of (sym is j) (c.writer.ensures j)).next)) in
    write_set v i.nodes.items i.writes.items i.reads.items i.blocks.items i.woke c.self.invariant l c.write_slot-slot.result
    (write_sits p v l c.write_slot-slot.result has.0 has.2 c.write_slot-slot.ensures) has.1 c.store_have.new.token.me.0
    (record (write_of v l) { stored = write_cycle p v l + 1; id = c.args.id; last = (write_of v l).id }) _ c.store_have.ensures.after (λ j. record { loaded = (end j).loaded; stored = cycle j + 1; id = c.args.id; last = (end j).id })
