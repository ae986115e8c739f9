use Rattle.std.proofs.Common.{◌∙◌, ap, length}
use Rattle.std.specs.Prelude.{unwrap_or}
use Rattle.pw_graph.specs.declared.pools.PoolShape.{PoolShape}
use Rattle.pw_graph.specs.Pools.{is_same_port}
use Rattle.pw_graph.proofs.HistoryLemmas.{place_or_end}
use Rattle.board_rule.proofs.rows.pool_of.Goals as goal

pub returns : goal.returns
returns c = c.unwrap_or.ensures ∙ ap (λ o. unwrap_or o (length c.args.pools.now)) c.find_pool.ensures
    ∙ place_or_end (λ (x : PoolShape). is_same_port x.port c.args.port) c.args.pools.now
