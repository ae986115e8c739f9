use Rattle.std.proofs.Common.{◌≡◌, drop, ◌==◌}
use Rattle.std.specs.List.{list_any}
use Rattle.cycle_model.proofs.epochs.takes_part.Given as goal

abbrev pub invariant-loop-active : goal.invariant-loop-active
invariant-loop-active l = list_any (λ n. n.node == l.node) l.epoch.shape.nodes
    ≡ list_any (λ n. n.node == l.node) (drop l.active-index l.epoch.shape.nodes)
