use Rattle.graph_checks.proofs.FreshChecksLemmas.{names_by_entry}
use Rattle.graph_checks.proofs.fresh_entries.names.Goals as goal

pub returns : goal.returns
returns c =
    let both = names_by_entry c.args.plan.now c.args.k c.args.node c.epoch_at.result.now c.epoch_at.ensures c.args.channels in
    (λ t. both.0 (c.has_entry.ensures.0 t), λ n. c.has_entry.ensures.1 (both.1 n))
