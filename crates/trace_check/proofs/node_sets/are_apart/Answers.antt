use Rattle.std.proofs.Common.{bit_and, eqb-true, eq-eqb}
use Rattle.trace_check.proofs.NodeSetsLemmas.{apart}
use Rattle.trace_check.proofs.node_sets.are_apart.Goals as goal

pub returns : goal.returns
returns c =
    let both = apart c.args.set c.args.other c.ranges.set.fits in
    (λ t. both.0 (eqb-true (bit_and c.args.set c.args.other) 0 t), λ h. eq-eqb (bit_and c.args.set c.args.other) 0 (both.1 h))
