use Rattle.std.proofs.Common.{◌≡◌, ◌+◌, ℕ, ap, sym, subst, arith}
use Rattle.board_rule.specs.declared.view.BlockView.TheVariants.{Filling}
use Rattle.board_rule.specs.declared.view.View.{View}
use Rattle.board_rule.specs.Known.{Known}
use Rattle.board_rule.specs.Layout.{layout_of}
use Rattle.board_rule.specs.buffers.Spans.{block_at}
use Rattle.board_rule.specs.buffers.BlockSteps.{HasBlock}
use Rattle.board_rule.proofs.start.SlotLemmas.{block_sits}
use Rattle.board_rule.proofs.start.EntryLemmas.{block_set, block_in}
use Rattle.board_rule.proofs.loop_seat.LoopSeat.store_sample_at.Goals as goal

pub index_mut-requires : goal.index_mut-requires
index_mut-requires c =
    let b = c.args.board.now in let p = layout_of b.board_shape in let i = c.self.inside in let v : View = i.token.me.0 in
    let is : v ≡ c.args.self.now.knows = ap (λ (k : Known). k.knows) c.self.view_is in
    let q : ℕ = c.args.pool in let id : ℕ = c.args.id in
    let h : HasBlock p v q id = subst (λ (u : View). HasBlock p u q id) (sym is) c.requires.phase.0 in
    let there = block_in p v i.nodes.items i.writes.items i.reads.items i.blocks.items i.woke c.self.invariant q id c.block_slot-at.result h.0 h.1 h.3.0 h.2 c.block_slot-at.ensures in
    let len = i.blocks.ok.0 in omega arith

pub invariant_of-self : goal.invariant_of-self
invariant_of-self c =
    let b = c.args.board.now in let p = layout_of b.board_shape in let i = c.self.inside in let v : View = i.token.me.0 in
    let is : v ≡ c.args.self.now.knows = ap (λ (k : Known). k.knows) c.self.view_is in
    let q : ℕ = c.args.pool in let id : ℕ = c.args.id in
    let h : HasBlock p v q id = subst (λ (u : View). HasBlock p u q id) (sym is) c.requires.phase.0 in
    block_set v i.nodes.items i.writes.items i.reads.items i.blocks.items i.woke c.self.invariant (block_at p q id) c.block_slot-at.result
    (block_sits p v q id c.block_slot-at.result h.0 h.1 h.3.0 c.block_slot-at.ensures) h.2 c.store_sample.new.token.me.0 v.reclaimed
    (Filling (c.args.place + 1)) _ c.store_sample.ensures.after (ap (λ n. Filling (n + 1)) (sym c.from.ensures))
