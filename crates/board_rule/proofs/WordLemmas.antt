-- Where the words of a block are, by the row of its pool.
use Rattle.std.proofs.Common.{◌≡◌, ℕ, ◌+◌, ◌*◌, ◌^◌, ◌<◌, ◌≤◌, List, [], ◌∷◌, take, length, ap, ◌∙◌, arith}
use Rattle.std.specs.Prelude.{unwrap_or, option_map, sum_by}
use Rattle.std.proofs.lemmas.Option.{slice_get-get_or}
use Rattle.std.proofs.lemmas.List.Sums.{sum_by-cons}
use Rattle.pw_graph.specs.declared.shape.Shape.{Shape}
use Rattle.pw_graph.specs.declared.pools.PoolShape.{PoolShape}
use Rattle.pw_graph.specs.Layout.{block_words, pool_words, readers_place}
use Rattle.pw_graph.specs.Pools.{pools_of}
use Rattle.pw_graph.specs.declared.shape.ShapeLink.{ShapeLink}
use Rattle.board_rule.specs.declared.rows.LinkRow.{LinkRow}
use Rattle.board_rule.specs.declared.rows.PoolRow.{PoolRow}
use Rattle.board_rule.specs.Layout.{word_count}
use Rattle.board_rule.specs.buffers.EndViews.{no_pool, pool_in}
use Rattle.board_rule.specs.working.Rows.{base_of, IsLinkRow, IsPoolRow, HasIndexes}

-- a pool has at least as many words as blocks
fewer : (xs : List PoolShape) → sum_by (λ (x : PoolShape). x.blocks) xs ≤ sum_by pool_words xs
fewer [] = omega arith
fewer (x ∷ xs) = let r = fewer xs in let s = sum_by-cons (λ (y : PoolShape). y.blocks) x xs in let t = sum_by-cons pool_words x xs in
    let m : pool_words x ≡ x.blocks + x.blocks * x.words = omega arith in omega arith

-- the words of a block of a pool
block_words_are : (shape : Shape) (q : ℕ) → q < length (pools_of shape) → block_words shape q ≡ (pool_in shape q).words
block_words_are shape q inside = ap (λ o. unwrap_or (option_map (λ (x : PoolShape). x.words) o) 0)
    (slice_get-get_or (pools_of shape) q no_pool inside)

module _ (shape : Shape) (q b : ℕ) (row : PoolRow) (inside : q < length (pools_of shape)) (block : b < (pool_in shape q).blocks)
    (indexes : HasIndexes shape) (fits : word_count shape < 2 ^ 64)
    (is : IsPoolRow shape (pool_in shape q) (sum_by (λ x. x.blocks) (take q (pools_of shape))) (base_of shape q) row) where
  offset : b * (1 + row.words) ≡ b * (1 + block_words shape q)
  offset = let w : row.words ≡ block_words shape q = is.words ∙ (let z = block_words_are shape q inside in omega arith) in
      ap (λ k. b * (1 + k)) w

  pub row_word : row.base + b * (1 + row.words) ≡ readers_place shape q b
  row_word = let o = offset in let base = is.base_is in omega arith

  pub row_fits : (1 + row.words < 2 ^ 64) × (b * (1 + row.words) < 2 ^ 64) × (row.base + b * (1 + row.words) < 2 ^ 64)
      × (row.first + b < 2 ^ 64)
  row_fits = let at = row_word in let h = indexes.blocks q b inside block in let w = is.words in let first = is.first_is in
      let base = is.base_is in let low = fewer (take q (pools_of shape)) in let m : b * (1 + row.words) ≡ b + b * row.words = omega arith in
      (omega arith, omega arith, omega arith, omega arith)

-- the same by the row of a link that reads the pool
module _ (shape : Shape) (l b : ℕ) (k : ShapeLink) (area : ℕ) (row : LinkRow) (q : ℕ) (inside : q < length (pools_of shape))
    (block : b < (pool_in shape q).blocks) (indexes : HasIndexes shape) (fits : word_count shape < 2 ^ 64) (is : IsLinkRow shape k area row)
    (same : row.pool ≡ q) where
  pub link_word : row.base + b * row.stride ≡ readers_place shape q b
  link_word = let base : row.base ≡ base_of shape q = is.base ∙ ap (base_of shape) same in let words = block_words_are shape q inside in
      let stride : row.stride ≡ 1 + block_words shape q = is.stride ∙ ap (λ n. 1 + (pool_in shape n).words) same ∙ (omega arith) in
      let o : b * row.stride ≡ b * (1 + block_words shape q) = ap (λ n. b * n) stride in omega arith

  pub link_fits : (b * row.stride < 2 ^ 64) × (row.base + b * row.stride < 2 ^ 64)
  link_fits = let at = link_word in let h = indexes.blocks q b inside block in (omega arith, omega arith)
