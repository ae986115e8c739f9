use Rattle.std.proofs.Common.{◌≡◌, ◌≤◌, take}
use Rattle.board_rule.specs.activation.Left.{left_of, untold}
use Rattle.board_rule.proofs.left.left_of.Given as goal

abbrev pub invariant-loop-m : goal.invariant-loop-m
invariant-loop-m l = (l.left ≡ left_of (untold l.told) (take l.m-index l.dependencies)) × (l.left ≤ l.m-index)
