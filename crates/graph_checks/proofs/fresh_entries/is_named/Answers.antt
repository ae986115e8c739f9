use Rattle.graph_checks.proofs.FreshChecksLemmas.{named_by_entry}
use Rattle.graph_checks.proofs.fresh_entries.is_named.Goals as goal

pub returns : goal.returns
returns c =
    let both = named_by_entry c.args.plan.now c.args.k c.args.node c.epoch_at.result.now c.epoch_at.ensures in
    (λ t. both.0 (c.has_some_entry.ensures.0 t), λ n. c.has_some_entry.ensures.1 (both.1 n))
