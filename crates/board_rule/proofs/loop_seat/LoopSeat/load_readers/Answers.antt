use Rattle.std.proofs.Common.{◌≡◌, ◌∙◌, ◌+◌, ℕ, cond, eqb, refl, ap, sym, subst, arith}
use Rattle.std.specs.Prelude.{slice_set as set}
use Rattle.board_rule.specs.declared.view.BlockView.TheVariants.{Free}
use Rattle.board_rule.specs.declared.view.View.{View}
use Rattle.board_rule.specs.Known.{Known}
use Rattle.board_rule.specs.Layout.{layout_of}
use Rattle.board_rule.specs.buffers.Spans.{block_at}
use Rattle.board_rule.specs.buffers.BlockSteps.{fill_cycle, HasBlock}
use Rattle.board_rule.specs.buffers.ReclaimSteps.{LoadsReaders}
use Rattle.board_rule.proofs.start.SlotLemmas.{block_sits}
use Rattle.board_rule.proofs.start.EntryLemmas.{block_set, block_in}
use Rattle.board_rule.proofs.loop_seat.LoopSeat.load_readers.Goals as goal

pub index_mut-requires : goal.index_mut-requires
index_mut-requires c =
    let b = c.args.board.now in let p = layout_of b.board_shape in let i = c.self.inside in let v : View = i.token.me.0 in
    let is : v ≡ c.args.self.now.knows = ap (λ (k : Known). k.knows) c.self.view_is in
    let q : ℕ = c.args.pool in let id : ℕ = c.args.id in
    let h : HasBlock p v q id = subst (λ (u : View). HasBlock p u q id) (sym is) c.requires.phase.0 in
    let there = block_in p v i.nodes.items i.writes.items i.reads.items i.blocks.items i.woke c.self.invariant q id c.block_slot-at.result h.0 h.1 h.3.0 h.2 c.block_slot-at.ensures in
    let len = i.blocks.ok.0 in omega arith

pub invariant_of-self : goal.invariant_of-self
invariant_of-self c =
    let b = c.args.board.now in let p = layout_of b.board_shape in let i = c.self.inside in let v : View = i.token.me.0 in
    let is : v ≡ c.args.self.now.knows = ap (λ (k : Known). k.knows) c.self.view_is in
    let q : ℕ = c.args.pool in let id : ℕ = c.args.id in
    let h : HasBlock p v q id = subst (λ (u : View). HasBlock p u q id) (sym is) c.requires.phase.0 in
    block_set v i.nodes.items i.writes.items i.reads.items i.blocks.items i.woke c.self.invariant (block_at p q id) c.block_slot-at.result
    (block_sits p v q id c.block_slot-at.result h.0 h.1 h.3.0 c.block_slot-at.ensures) h.2 c.load_readers-found.new.token.me.0 (set v.reclaimed q (fill_cycle p v q + 1))
    (Free) _ (c.load_readers-found.ensures.after ∙ ap (λ n. cond (eqb n 0)
    (record v { blocks = set v.blocks (block_at p q id) Free; reclaimed = set v.reclaimed q (fill_cycle p v q + 1) }) v) c.load_readers-found.ensures.says.0) refl

pub load_readers-found-requires-clause-phase : goal.load_readers-found-requires-clause-phase
load_readers-found-requires-clause-phase c = let is = ap (λ (k : Known). k.knows) c.self.view_is in
    subst (λ (v : View). LoadsReaders (layout_of c.args.board.now.board_shape) v c.args.pool c.args.id) (sym is) c.requires.phase
