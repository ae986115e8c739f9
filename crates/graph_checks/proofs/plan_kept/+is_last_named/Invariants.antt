use Rattle.graph_checks.proofs.plan_kept.+is_last_named.Given as goal

abbrev pub decreases-is_last_named : goal.decreases-is_last_named
decreases-is_last_named l = l.j
