use Rattle.std.proofs.Common.{◌≡◌, ◌∙◌, ◌+◌, ℕ, false, ap, sym, subst, arith}
use Rattle.std.specs.Prelude.{slice_set as set}
use Rattle.pw_graph.specs.Words.{io_id_in}
use Rattle.board_rule.specs.declared.view.View.{View}
use Rattle.board_rule.specs.Known.{Known}
use Rattle.board_rule.specs.Layout.{layout_of}
use Rattle.board_rule.specs.working.Slots.{HasReader}
use Rattle.board_rule.specs.View.{node_of}
use Rattle.board_rule.specs.buffers.EndViews.{read_of}
use Rattle.board_rule.specs.buffers.ReaderSteps.{read_cycle, IsReader, IsPublished}
use Rattle.board_rule.proofs.start.SlotLemmas.{read_sits}
use Rattle.board_rule.proofs.start.EntryLemmas.{read_set, read_in}
use Rattle.board_rule.proofs.loop_seat.LoopSeatBoardSeat.load_io_as_reader.Goals as goal

pub index_mut-requires : goal.index_mut-requires
index_mut-requires c =
    let b = c.args.board.now in let p = layout_of b.board_shape in let i = c.self.inside in let v : View = i.token.me.0 in
    let is : v ≡ c.args.self.now.knows = ap (λ (k : Known). k.knows) c.self.view_is in
    let h : IsReader false p c.args.self.now.knows c.args.link = c.requires.phase.0 in
    let has : HasReader p v c.args.link = subst (λ (u : View). HasReader p u c.args.link) (sym is) (h.0, h.1, h.2.0) in
    let there = read_in p v i.nodes.items i.writes.items i.reads.items i.blocks.items i.woke c.self.invariant c.args.link c.read_slot-slot.result has c.read_slot-slot.ensures in
    let len = i.reads.ok.0 in omega arith

pub invariant_of-self : goal.invariant_of-self
invariant_of-self c =
    let b = c.args.board.now in let p = layout_of b.board_shape in let i = c.self.inside in let v : View = i.token.me.0 in
    let is : v ≡ c.args.self.now.knows = ap (λ (k : Known). k.knows) c.self.view_is in
    let l : ℕ = c.args.link in
    let h : IsReader false p c.args.self.now.knows l = c.requires.phase.0 in
    let has : HasReader p v l = subst (λ (u : View). HasReader p u l) (sym is) (h.0, h.1, h.2.0) in
    let end : read_of v l ≡ c.read_at-end.result = ap (λ (u : View). read_of u l) is ∙ sym c.read_at-end.ensures in
    let cycle : read_cycle false p v l ≡ c.node_at-cycle.result.next = sym (ap (λ x. x.next) c.node_at-cycle.ensures
    ∙ (λ j. (node_of (sym is j) (c.reader.ensures j)).next)) in
    read_set v i.nodes.items i.writes.items i.reads.items i.blocks.items i.woke c.self.invariant l c.read_slot-slot.result
    (read_sits p v false l c.read_slot-slot.result has.0 has.2 c.read_slot-slot.ensures) has.1 c.load_area-found.new.token.me.0 (set v.words_read l 0)
    (record (read_of v l) { loaded = read_cycle false p v l + 1; id = io_id_in c.load_area-found.result }) _ c.load_area-found.ensures.after (λ j. record { loaded = cycle j + 1; lowered = (end j).lowered; stored = (end j).stored; id = sym c.io_id_of.ensures j })

pub returns-clause-word : goal.returns-clause-word
returns-clause-word c = let is = ap (λ (k : Known). k.knows) c.self.view_is in
    subst (λ (v : View). IsPublished false (layout_of c.args.board.now.board_shape) v c.args.link c.load_area-found.result) is
    c.load_area-found.ensures.says
