use Rattle.std.proofs.Common.{◌≡◌, ◌∙◌, ℕ, true, ap, sym, subst, arith}
use Rattle.board_rule.specs.declared.view.View.{View}
use Rattle.board_rule.specs.Known.{Known}
use Rattle.board_rule.specs.Layout.{layout_of}
use Rattle.board_rule.specs.buffers.EndViews.{read_of}
use Rattle.board_rule.specs.buffers.ReaderSteps.{IsReader}
use Rattle.board_rule.proofs.start.SlotLemmas.{read_sits}
use Rattle.board_rule.proofs.start.EntryLemmas.{end_there, end_kept}
use Rattle.board_rule.proofs.driver_seat.DriverSeat.read_at.Goals as goal

pub index-requires : goal.index-requires
index-requires c =
    let b = c.args.board.now in let p = layout_of b.board_shape in let i = c.self.inside in let v : View = i.token.me.0 in
    let is : v ≡ c.args.self.now.knows = ap (λ (k : Known). k.knows) c.self.view_is in
    let l : ℕ = c.args.link in let h = subst (λ (u : View). IsReader true p u l) (sym is) c.requires in
    let there = end_there v i.reads.items c.self.invariant.reads_are l c.read_slot.result
    (read_sits p v true l c.read_slot.result h.0 h.2.0 c.read_slot.ensures) h.1 in
    let len = i.reads.ok.0 in omega arith

pub returns : goal.returns
returns c =
    let b = c.args.board.now in let p = layout_of b.board_shape in let i = c.self.inside in let v : View = i.token.me.0 in
    let is : v ≡ c.args.self.now.knows = ap (λ (k : Known). k.knows) c.self.view_is in
    let l : ℕ = c.args.link in let h = subst (λ (u : View). IsReader true p u l) (sym is) c.requires in
    c.index.ensures ∙ end_kept v i.reads.items c.self.invariant.reads_are l c.read_slot.result
    (read_sits p v true l c.read_slot.result h.0 h.2.0 c.read_slot.ensures) h.1 c.index.result.now
    ∙ ap (λ (u : View). read_of u l) is
