use Rattle.std.proofs.Common.{◌≤◌, List, ℕ, length, sym, ap, subst, arith}
use Rattle.std.specs.Prelude.{All}
use Rattle.graph_run.proofs.PrepareLemmas.{owner_count, owners_most}
use Rattle.graph_run.proofs.ways.ways_of.Goals as goal

pub new-requires-clause-nodes : goal.new-requires-clause-nodes
new-requires-clause-nodes c = let is = ap (λ (l : List ℕ). length l) c.in_ok-owner.ensures in
    let n = owner_count c.args.plan.now c.args.loops in let few = c.requires.nodes in omega (arith, is, n, few)

pub new-requires-clause-owners : goal.new-requires-clause-owners
new-requires-clause-owners c = subst (All (λ l. l ≤ c.args.loops)) (sym c.in_ok-owner.ensures) (owners_most c.args.plan.now c.args.loops)
