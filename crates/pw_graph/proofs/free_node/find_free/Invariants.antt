use Rattle.std.proofs.Common.{◌≡◌, ℕ, ◌<◌, true, false, get_or}
use Rattle.pw_graph.specs.LinkOrder.{is_blocked}
use Rattle.pw_graph.proofs.free_node.find_free.Given as goal

abbrev pub invariant-loop-n : goal.invariant-loop-n
invariant-loop-n l = (k : ℕ) → k < l.n → get_or l.left k false ≡ true → is_blocked l.links l.left k ≡ true
