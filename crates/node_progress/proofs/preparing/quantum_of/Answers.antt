use Rattle.std.proofs.Common.{arith}
use Rattle.node_progress.proofs.PrepareLemmas.{quantum_within}
use Rattle.node_progress.proofs.preparing.quantum_of.Goals as goal

pub returns-clause-is : goal.returns-clause-is
returns-clause-is c = λ some. let q = quantum_within c.args.plan.now c.requires some in let is = c.clamp.ensures in
    let low = q.0 in let high = q.1 in omega (arith, is, low, high)
