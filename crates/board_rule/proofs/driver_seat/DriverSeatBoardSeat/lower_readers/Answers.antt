use Rattle.std.proofs.Common.{◌≡◌, ◌∙◌, ◌+◌, ℕ, true, ap, sym, subst, arith}
use Rattle.board_rule.specs.declared.view.View.{View}
use Rattle.board_rule.specs.Known.{Known}
use Rattle.board_rule.specs.Layout.{layout_of}
use Rattle.board_rule.specs.buffers.EndViews.{read_of}
use Rattle.board_rule.specs.buffers.ReaderSteps.{IsReader}
use Rattle.board_rule.proofs.start.SlotLemmas.{read_sits}
use Rattle.board_rule.proofs.start.EntryLemmas.{end_there, lead_read_set}
use Rattle.board_rule.proofs.driver_seat.DriverSeatBoardSeat.lower_readers.Goals as goal

pub index_mut-requires : goal.index_mut-requires
index_mut-requires c =
    let b = c.args.board.now in let p = layout_of b.board_shape in let i = c.self.inside in let v : View = i.token.me.0 in
    let is : v ≡ c.args.self.now.knows = ap (λ (k : Known). k.knows) c.self.view_is in
    let l : ℕ = c.args.link in
    let h : IsReader true p v l = subst (λ (u : View). IsReader true p u l) (sym is) c.requires.phase.0.0.0 in
    let there = end_there v i.reads.items c.self.invariant.reads_are l c.read_slot-slot.result
    (read_sits p v true l c.read_slot-slot.result h.0 h.2.0 c.read_slot-slot.ensures) h.1 in
    let len = i.reads.ok.0 in omega arith

pub invariant_of-self : goal.invariant_of-self
invariant_of-self c =
    let b = c.args.board.now in let p = layout_of b.board_shape in let i = c.self.inside in let v : View = i.token.me.0 in
    let is : v ≡ c.args.self.now.knows = ap (λ (k : Known). k.knows) c.self.view_is in
    let l : ℕ = c.args.link in
    let h : IsReader true p v l = subst (λ (u : View). IsReader true p u l) (sym is) c.requires.phase.0.0.0 in
    let end : read_of v l ≡ c.read_at-end.result = ap (λ (u : View). read_of u l) is ∙ sym c.read_at-end.ensures in
    let cycle : v.lead.cycle ≡ i.lead.cycle = ap (λ x. x.cycle) c.self.invariant.lead_is in
    lead_read_set v i.lead i.reads.items i.woke c.self.invariant l c.read_slot-slot.result
    (read_sits p v true l c.read_slot-slot.result h.0 h.2.0 c.read_slot-slot.ensures) h.1 c.lower_readers-found.new.token.me.0 v.words_read
    (record (read_of v l) { lowered = v.lead.cycle + 1 }) _ c.lower_readers-found.ensures.after
    (λ j. record { loaded = (end j).loaded; lowered = cycle j + 1; stored = (end j).stored; id = (end j).id })
