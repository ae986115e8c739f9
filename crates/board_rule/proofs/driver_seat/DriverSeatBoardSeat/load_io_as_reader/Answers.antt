use Rattle.std.proofs.Common.{◌≡◌, ◌∙◌, ◌+◌, ℕ, true, ap, sym, subst, arith}
use Rattle.std.specs.Prelude.{slice_set as set}
use Rattle.pw_graph.specs.Words.{io_id_in}
use Rattle.board_rule.specs.declared.view.View.{View}
use Rattle.board_rule.specs.Known.{Known}
use Rattle.board_rule.specs.Layout.{layout_of}
use Rattle.board_rule.specs.buffers.EndViews.{read_of}
use Rattle.board_rule.specs.buffers.ReaderSteps.{IsReader, IsPublished}
use Rattle.board_rule.proofs.start.SlotLemmas.{read_sits}
use Rattle.board_rule.proofs.start.EntryLemmas.{end_there, lead_read_set}
use Rattle.board_rule.proofs.driver_seat.DriverSeatBoardSeat.load_io_as_reader.Goals as goal

pub index_mut-requires : goal.index_mut-requires
index_mut-requires c =
    let b = c.args.board.now in let p = layout_of b.board_shape in let i = c.self.inside in let v : View = i.token.me.0 in
    let is : v ≡ c.args.self.now.knows = ap (λ (k : Known). k.knows) c.self.view_is in
    let l : ℕ = c.args.link in
    let h : IsReader true p v l = subst (λ (u : View). IsReader true p u l) (sym is) c.requires.phase.0 in
    let there = end_there v i.reads.items c.self.invariant.reads_are l c.read_slot-slot.result
    (read_sits p v true l c.read_slot-slot.result h.0 h.2.0 c.read_slot-slot.ensures) h.1 in
    let len = i.reads.ok.0 in omega arith

pub invariant_of-self : goal.invariant_of-self
invariant_of-self c =
    let b = c.args.board.now in let p = layout_of b.board_shape in let i = c.self.inside in let v : View = i.token.me.0 in
    let is : v ≡ c.args.self.now.knows = ap (λ (k : Known). k.knows) c.self.view_is in
    let l : ℕ = c.args.link in
    let h : IsReader true p v l = subst (λ (u : View). IsReader true p u l) (sym is) c.requires.phase.0 in
    let end : read_of v l ≡ c.read_at-end.result = ap (λ (u : View). read_of u l) is ∙ sym c.read_at-end.ensures in
    let cycle : v.lead.cycle ≡ i.lead.cycle = ap (λ x. x.cycle) c.self.invariant.lead_is in
    lead_read_set v i.lead i.reads.items i.woke c.self.invariant l c.read_slot-slot.result
    (read_sits p v true l c.read_slot-slot.result h.0 h.2.0 c.read_slot-slot.ensures) h.1 c.load_area-found.new.token.me.0 (set v.words_read l 0)
    (record (read_of v l) { loaded = v.lead.cycle + 1; id = io_id_in c.load_area-found.result }) _ c.load_area-found.ensures.after
    (λ j. record { loaded = cycle j + 1; lowered = (end j).lowered; stored = (end j).stored; id = sym c.io_id_of.ensures j })

pub returns-clause-word : goal.returns-clause-word
returns-clause-word c = let is = ap (λ (k : Known). k.knows) c.self.view_is in
    subst (λ (v : View). IsPublished true (layout_of c.args.board.now.board_shape) v c.args.link c.load_area-found.result) is
    c.load_area-found.ensures.says
