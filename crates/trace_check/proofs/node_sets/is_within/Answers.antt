use Rattle.std.proofs.Common.{bit_and, ◌-◌, eqb-true, eq-eqb}
use Rattle.trace_check.proofs.NodeSetsLemmas.{within}
use Rattle.trace_check.proofs.node_sets.is_within.Goals as goal

pub returns : goal.returns
returns c =
    let both = within c.args.set c.args.other c.ranges.set.fits c.ranges.other.fits in (
      λ t. both.0 (eqb-true (bit_and c.args.set (18446744073709551615 - c.args.other)) 0 t),
      λ h. eq-eqb (bit_and c.args.set (18446744073709551615 - c.args.other)) 0 (both.1 h),
    )
