use Rattle.std.proofs.Common.{arith, ◌≡◌, ◌∙◌, ℕ, ◌+◌, ◌*◌, ◌^◌, ◌<◌, ◌≤◌, ◌∷◌, [], List, length, take, sym, ap}
use Rattle.std.proofs.Common.{subst, length-append}
use Rattle.std.specs.Prelude.{slice_index_or, sum_by}
use Rattle.std.proofs.lemmas.List.{get_or_default}
use Rattle.pw_graph.specs.declared.shape.Shape.{Shape}
use Rattle.pw_graph.specs.declared.pools.PoolShape.{PoolShape}
use Rattle.pw_graph.specs.Layout.{event_place, event_count, pool_words, word_count}
use Rattle.pw_graph.specs.Pools.{pools_of}
use Rattle.board_rule.specs.declared.rows.PoolRow.{PoolRow}
use Rattle.board_rule.specs.buffers.EndViews.{no_pool, pool_in}
use Rattle.board_rule.specs.working.Rows.{IsPoolRow}
use Rattle.board_rule.proofs.activation.RowLemmas.{row_grown, sum_more, sum_part}
use Rattle.board_rule.proofs.rows.pools_rows.Goals as goal

-- the next pool ends inside the words
fits : (shape : Shape) (n first base words : ℕ) (x : PoolShape) → n < length (pools_of shape) → x ≡ pool_in shape n
    → base ≡ event_place shape (event_count shape) + sum_by pool_words (take n (pools_of shape)) → word_count shape ≤ words → words < 2 ^ 64
    → first ≤ base
    → (first + x.blocks < 2 ^ 64) × (base + x.blocks * (1 + x.words) < 2 ^ 64) × (first + x.blocks ≤ base + x.blocks * (1 + x.words))
fits shape n first base words x inside is at room small low = let s = sum_part pool_words (pools_of shape) n no_pool inside in
    let p : pool_words x ≡ pool_words (pool_in shape n) = ap pool_words is in
    let m : x.blocks * (1 + x.words) ≡ x.blocks + x.blocks * x.words = omega arith in (omega arith, omega arith, omega arith)

pub overflow_add-first : goal.overflow_add-first
overflow_add-first c = let i = c.loop-pool.invariant in let n : ℕ = c.loop-pool.pool-index in let shape = c.args.shape.now in
    let x : PoolShape = c.pool-item.result in let pools = c.requires.pools in
    let count : length c.args.pools.now ≡ length (pools_of shape) = ap (λ (l : List PoolShape). length l) pools in
    let inside : n < length (pools_of shape) = (let t = c.loop-pool-test.true in omega arith) in
    let is : x ≡ pool_in shape n = c.pool-item.is ∙ ap (λ (l : List PoolShape). slice_index_or l n x) pools
    ∙ get_or_default (pools_of shape) n x no_pool inside in
    record {
      fits = (fits shape n c.loop-pool.first c.loop-pool.base c.args.words x inside is i.2 c.requires.room c.ranges.words.fits i.3).0;
    }

pub overflow_add-base-in-loop-pool : goal.overflow_add-base-in-loop-pool
overflow_add-base-in-loop-pool c = let i = c.loop-pool.invariant in let n : ℕ = c.loop-pool.pool-index in let shape = c.args.shape.now in
    let x : PoolShape = c.pool-item.result in let pools = c.requires.pools in
    let count : length c.args.pools.now ≡ length (pools_of shape) = ap (λ (l : List PoolShape). length l) pools in
    let inside : n < length (pools_of shape) = (let t = c.loop-pool-test.true in omega arith) in
    let is : x ≡ pool_in shape n = c.pool-item.is ∙ ap (λ (l : List PoolShape). slice_index_or l n x) pools
    ∙ get_or_default (pools_of shape) n x no_pool inside in
    record {
      fits = (fits shape n c.loop-pool.first c.loop-pool.base c.args.words x inside is i.2 c.requires.room c.ranges.words.fits i.3).1;
    }

pub loop-pool-preserved : goal.loop-pool-preserved
loop-pool-preserved c = let i = c.loop-pool.invariant in let n : ℕ = c.loop-pool.pool-index in let shape = c.args.shape.now in
    let x : PoolShape = c.pool-item.result in let pools = c.requires.pools in
    let count : length c.args.pools.now ≡ length (pools_of shape) = ap (λ (l : List PoolShape). length l) pools in
    let inside : n < length (pools_of shape) = (let t = c.loop-pool-test.true in omega arith) in
    let is : x ≡ pool_in shape n = c.pool-item.is ∙ ap (λ (l : List PoolShape). slice_index_or l n x) pools
    ∙ get_or_default (pools_of shape) n x no_pool inside in
    let long = i.0 in let first = i.1 in let base = i.2 in
    let blocks = sum_more (λ (z : PoolShape). z.blocks) (pools_of shape) n no_pool inside in
    let words = sum_more pool_words (pools_of shape) n no_pool inside in
    let b : x.blocks ≡ (pool_in shape n).blocks = ap (λ (z : PoolShape). z.blocks) is in
    let w : x.blocks * (1 + x.words) ≡ pool_words (pool_in shape n) = ap pool_words is in
    let items = c.in_ok-push.ensures.items in let row = c.pool_row.result in
    let firsts : ℕ → ℕ = λ z. sum_by (λ (y : PoolShape). y.blocks) (take z (pools_of shape)) in let bases : ℕ
    → ℕ = λ z. event_place shape (event_count shape) + sum_by pool_words (take z (pools_of shape)) in
    let new : IsPoolRow shape (pool_in shape n) (firsts n) (bases n) row =
    subst (λ (z : PoolShape × ℕ × ℕ). IsPoolRow shape z.0 z.1 z.2 row) (λ j. (is j, first j, base j)) c.pool_row.ensures in (
      ap (λ (l : List PoolRow). length l) items ∙ length-append c.loop-pool.rows.items (row ∷ []) ∙ ap (λ z. z + 1) long,
      (let z : c.loop-pool.first + x.blocks ≡ firsts (n + 1) = omega arith in z),
      (let z : c.loop-pool.base + x.blocks * (1 + x.words) ≡ bases (n + 1) = omega arith in z),
      (fits shape n c.loop-pool.first c.loop-pool.base c.args.words x inside is i.2 c.requires.room c.ranges.words.fits i.3).2,
      λ j d h. subst (λ (l : List PoolRow). IsPoolRow shape (pool_in shape j) (firsts j) (bases j) (slice_index_or l j d)) (sym items)
          (row_grown (λ z r. IsPoolRow shape (pool_in shape z) (firsts z) (bases z) r) c.loop-pool.rows.items row n long i.4 new j d h),
    )
