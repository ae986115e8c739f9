-- Where the first block of a board is.
use Rattle.std.proofs.Common.{◌≡◌, ℕ, ◌+◌, ◌<◌, ◌≤◌, arith}
use Rattle.std.proofs.Common.{Some, slice_get}
use Rattle.pw_graph.specs.declared.pools.PoolShape.{PoolShape}
use Rattle.pw_graph.specs.declared.shape.Shape.{Shape}
use Rattle.pw_graph.specs.Layout.{event_count, event_place}
use Rattle.pw_graph.specs.Pools.{pools_of, IsPooledShape}
use Rattle.pw_graph.proofs.LayoutLemmas.{length-start_words}
use Rattle.board_rule.specs.Indexes.{word_count}
use Rattle.board_rule.proofs.IndexLemmas.{readers_in}
use Rattle.board_rule.proofs.LayoutLemmas.{count_is}

pub first_block : (shape : Shape) → IsPooledShape shape → (x : PoolShape) (at : ℕ) → slice_get (pools_of shape) 0 ≡ Some x → 1 ≤ x.blocks
    → 1 ≤ x.words → at ≤ event_place shape (event_count shape) → at + 1 < word_count shape
first_block shape pooled x at is some wide low = let r = readers_in shape 0 0 x is some in let a = r.0 in let b = r.1 in
    let m = count_is shape in let n = length-start_words shape pooled in omega (arith, wide, low, a, b, m, n)
