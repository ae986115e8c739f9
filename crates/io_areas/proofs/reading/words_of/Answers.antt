use Rattle.std.proofs.Common.{ℕ, ◌+◌, ◌/◌, ◌<◌, length, ap, ◌∙◌, subst}
use Rattle.pw_graph.specs.Pools.{pools_of}
use Rattle.board_rule.specs.Layout.{layout_of}
use Rattle.board_rule.specs.buffers.EndViews.{pool_at}
use Rattle.io_areas.specs.Quanta.{quantum_of}
use Rattle.io_areas.proofs.AtPoolLemmas.{words_of_quantum}
use Rattle.io_areas.proofs.reading.words_of.Goals as goal

pub returns-clause-is : goal.returns-clause-is
returns-clause-is c = let p = layout_of c.args.board.now.board_shape in c.block_words.ensures.is
    ∙ ap (λ (q : ℕ). (pool_at p q).words) c.link_pool-pool.ensures.is

pub returns-clause-quantum : goal.returns-clause-quantum
returns-clause-quantum c = let p = layout_of c.args.board.now.board_shape in c.block_words.ensures.is
    ∙ words_of_quantum p c.link_pool-pool.result c.link_pool-pool.ensures.inside
    ∙ ap (λ (q : ℕ). (quantum_of p q + 3) / 4) c.link_pool-pool.ensures.is

pub returns-clause-inside : goal.returns-clause-inside
returns-clause-inside c = subst (λ (q : ℕ). q < length (pools_of c.args.board.now.board_shape.shape))
    c.link_pool-pool.ensures.is c.link_pool-pool.ensures.inside
