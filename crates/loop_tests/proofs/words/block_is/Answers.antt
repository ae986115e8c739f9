use Rattle.std.proofs.Common.{◌≡◌, ◌∙◌, List, length, Some, slice_get, refl, sym, ap, subst, arith}
use Rattle.std.proofs.lemmas.Bool.{ltb-true}
use Rattle.std.proofs.lemmas.Option.{slice_get-get_or}
use Rattle.pw_graph.specs.declared.pools.PoolShape.{PoolShape}
use Rattle.pw_graph.specs.declared.shape.Shape.{Shape}
use Rattle.pw_graph.specs.Pools.{pools_of, IsPooledShape}
use Rattle.loop_tests.proofs.WordLemmas.{first_block}
use Rattle.loop_tests.proofs.words.block_is.Goals as goal

pub has_two-requires : goal.has_two-requires
has_two-requires c = let shape : Shape = c.args.board.now.board_shape.shape in let x : PoolShape = c.in-Some.pool.now in
    let pooled : IsPooledShape shape = subst IsPooledShape c.shape.ensures (c.if-not-is_pooled_shape.ensures.0 refl) in
    let pools : List PoolShape = c.as_slice.result.now in let l = c.in-Some.ensures.lookup in
    let same : pools ≡ pools_of shape = c.as_slice.ensures ∙ (c.in-Ok.ensures ∙ ap pools_of c.shape-2.ensures) in
    let is : slice_get (pools_of shape) 0 ≡ Some x = subst (λ (ps : List PoolShape). slice_get ps 0 ≡ Some x) same
    (slice_get-get_or pools 0 x (ltb-true 0 (length pools) (sym l.0)) ∙ ap Some (sym l.1)) in
    let some = c.if-pool-eq0.false in let wide = c.if-pool-eq0-2.false in
    first_block shape pooled x c.first_pool.result is (omega (arith, some)) (omega (arith, wide)) c.first_pool.ensures
