use Rattle.std.proofs.Common.{◌≡◌, ◌+◌, ◌*◌, ◌≤◌, length}
use Rattle.node_state.specs.StandsFor.{IsSameNode}
use Rattle.state_tests.proofs.following.follows.Given as goal

abbrev pub invariant-loop-number : goal.invariant-loop-number
invariant-loop-number l =
    IsSameNode l.fn.state l.state × (l.state.frames ≤ l.fn.state.frames + l.number * l.fn.state.quantum)
    × (length l.left ≡ l.widths.left) × (length l.right ≡ l.widths.right)
