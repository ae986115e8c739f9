use Rattle.std.proofs.Common.{OnOk, ◌≡◌, ◌-◌, ◌∷◌, ◌++◌, subst, replicate, ℕ}
use Rattle.pw_graph.specs.Layout.{pool_words}
use Rattle.board_rule.proofs.layout.push_pool.Goals as goal

pub returns : goal.returns
returns c = subst (λ (n : ℕ). OnOk c.push_zeros.result (c.push_zeros.new.words ≡ c.args.words.now ++ n ∷ replicate (pool_words c.args.pool.now - 1) 0))
    c.delayed_readers.ensures c.push_zeros.ensures
