use Rattle.std.proofs.Common.{◌≤◌, ◌∙◌, length, ap, subst, arith}
use Rattle.std.specs.Prelude.{set, replicate}
use Rattle.data_loop.specs.OwnPools.{is_own, own_pools}
use Rattle.data_loop.proofs.OwnPoolsLemmas.{first_within, lone_places}
use Rattle.data_loop.proofs.places.one_of.Goals as goal

pub overflow_cast-result : goal.overflow_cast-result
overflow_cast-result c = let low = first_within (is_own c.args.nodes.now) c.args.pools.now in let few = c.requires.few in
    let is = c.first_own.ensures in record { fits = omega (arith, low, few, is) }

pub returns : goal.returns
returns c = let nodes = c.args.nodes.now in let pools = c.args.pools.now in
    ap (λ k. set (replicate (length pools) k) c.first_own.result 0) c.requires.count
    ∙ ap (λ k. set (replicate (length pools) (length (own_pools nodes pools))) k 0) c.first_own.ensures
    ∙ lone_places nodes pools (subst (λ k. k ≤ 1) c.requires.count c.requires.one)
