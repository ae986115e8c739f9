use Rattle.std.proofs.Common.{◌≡◌, ℕ, ◌+◌, ◌==◌, if◌then◌else◌, List, get_or, take, ◌∙◌, sym, ap, subst}
use Rattle.std.specs.Vec.{with_item}
use Rattle.std.proofs.lemmas.List.{get_or_default}
use Rattle.pw_graph.specs.declared.pools.PoolShape.{PoolShape}
use Rattle.board_rule.specs.declared.view.View.{View}
use Rattle.board_rule.specs.Layout.{layout_of}
use Rattle.board_rule.specs.buffers.EndViews.{no_pool, pool_at}
use Rattle.board_rule.specs.buffers.BlockSteps.{fill_cycle}
use Rattle.io_areas.specs.Queue.{Queue}
use Rattle.io_areas.specs.FreeBlocks.{FreeBlocks}
use Rattle.data_loop.specs.declared.own_pools.OwnPools.{OwnPools}
use Rattle.data_loop.specs.OwnPools.{place_of, queue_of}
use Rattle.data_loop.specs.working.Giving.{row_for}
use Rattle.data_loop.specs.working.Writing.{AreWritten}
use Rattle.data_loop.proofs.turns.WritingLemmas.{pool_in, may_write, has_stock, still_puts, one_more, free_at, owns_it, equipped_moves}
use Rattle.data_loop.proofs.giving.give_all.Goals as goal

pub write_output-requires-clause-phase : goal.write_output-requires-clause-phase
write_output-requires-clause-phase c =
    may_write _ c.requires.equipped.plain _ _ c.args.pools.now c.requires.phase c.loop-pool.pool-index _ _ c.loop-pool-test.true
    c.loop-pool.invariant.written

pub write_output-requires-clause-links : goal.write_output-requires-clause-links
write_output-requires-clause-links c = let p = layout_of c.args.board.now.board_shape in let plain = c.requires.equipped.plain in
    let w : View = c.loop-pool.seat.knows in let own : OwnPools = c.loop-pool.own in let i = c.loop-pool.invariant.written in
    let k = c.loop-pool.pool-index in let q : ℕ = get_or c.args.pools.now k 0 in let x : PoolShape = c.index-as_slice-place.result in
    let here = equipped_moves p _ _ w own i.room i.kept c.requires.equipped in
    let low = pool_in p plain _ _ c.args.pools.now c.requires.phase k _ _ c.loop-pool-test.true i in
    let owns = owns_it p plain _ _ c.args.pools.now c.requires.phase k _ _ c.loop-pool-test.true i here.lists in
    let place : c.at-place.result ≡ place_of own q = c.at-place.ensures in
    c.as_slice-in-loop-pool.ensures ∙ ap (λ (y : PoolShape). y.links) (c.index-as_slice-place.is
    ∙ ap (λ (l : List PoolShape). get_or l c.at-place.result x) c.as_slice.ensures
    ∙ ap (λ n. get_or own.shapes n x) place ∙ get_or_default own.shapes (place_of own q) x no_pool owns ∙ here.shapes_are q low owns)

pub write_output-requires-clause-blocks : goal.write_output-requires-clause-blocks
write_output-requires-clause-blocks c = let p = layout_of c.args.board.now.board_shape in let plain = c.requires.equipped.plain in
    let w : View = c.loop-pool.seat.knows in let own : OwnPools = c.loop-pool.own in let i = c.loop-pool.invariant.written in
    let k = c.loop-pool.pool-index in let q : ℕ = get_or c.args.pools.now k 0 in let x : Queue = c.index_mut.result.now in
    let here = equipped_moves p _ _ w own i.room i.kept c.requires.equipped in
    let place : c.at-place.result ≡ place_of own q = c.at-place.ensures in
    let is : x ≡ queue_of own q = c.index_mut.ensures.value ∙ ap (λ n. get_or own.free.items n x) place
    ∙ free_at p plain _ _ c.args.pools.now c.requires.phase k _ _ c.loop-pool-test.true i here.lists x in
    subst (λ (y : Queue). FreeBlocks p w q (fill_cycle p w q) y) (sym is)
    (has_stock p plain _ _ c.args.pools.now c.requires.phase k _ _ c.loop-pool-test.true i)

pub write_output-requires-clause-samples : goal.write_output-requires-clause-samples
write_output-requires-clause-samples c = let p = layout_of c.args.board.now.board_shape in let plain = c.requires.equipped.plain in
    let w : View = c.loop-pool.seat.knows in let own : OwnPools = c.loop-pool.own in let i = c.loop-pool.invariant.written in
    let k = c.loop-pool.pool-index in let q : ℕ = get_or c.args.pools.now k 0 in let x : PoolShape = c.index-as_slice-place.result in
    let here = equipped_moves p _ _ w own i.room i.kept c.requires.equipped in
    let low = pool_in p plain _ _ c.args.pools.now c.requires.phase k _ _ c.loop-pool-test.true i in
    let owns = owns_it p plain _ _ c.args.pools.now c.requires.phase k _ _ c.loop-pool-test.true i here.lists in
    let place : c.at-place.result ≡ place_of own q = c.at-place.ensures in
    let is : x ≡ pool_at p q = c.index-as_slice-place.is ∙ ap (λ (l : List PoolShape). get_or l c.at-place.result x) c.as_slice.ensures
    ∙ ap (λ n. get_or own.shapes n x) place ∙ get_or_default own.shapes (place_of own q) x no_pool owns ∙ here.shapes_are q low owns in
    c.row_for-row.ensures
    ∙ ap (λ (y : PoolShape). if y.port.port == c.args.first_output then c.args.left.now else c.args.right.now) is
    ∙ still_puts p plain _ _ c.args.pools.now c.requires.phase k _ _ c.loop-pool-test.true i
    (row_for p c.args.first_output c.args.left.now c.args.right.now q) (c.requires.gives k 0 c.loop-pool-test.true)

pub loop-pool-preserved : goal.loop-pool-preserved
loop-pool-preserved c = let p = layout_of c.args.board.now.board_shape in let plain = c.requires.equipped.plain in
    let w : View = c.loop-pool.seat.knows in let own : OwnPools = c.loop-pool.own in let i = c.loop-pool.invariant in
    let k = c.loop-pool.pool-index in let q : ℕ = get_or c.args.pools.now k 0 in let e = c.write_output.ensures in
    let u : View = c.write_output.new.seat.knows in let x : Queue = c.write_output.new.free in
    let here = equipped_moves p _ _ w own i.written.room i.written.kept c.requires.equipped in
    let place : c.at-place.result ≡ place_of own q = c.at-place.ensures in
    record {
      table = e.table ∙ i.table;
      written = subst (λ n. AreWritten p c.args.seat.now.knows c.args.own.now (take (k + 1) c.args.pools.now) u
          (record own { free = with_item own.free n x })) (sym place)
          (one_more p plain _ _ c.args.pools.now c.requires.phase k _ _ c.loop-pool-test.true i.written u x e.knows e.blocks here);
    }
