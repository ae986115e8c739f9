use Rattle.std.proofs.Common.{◌≡◌, ◌==◌, take, map}
use Rattle.std.specs.Prelude.{filter}
use Rattle.std.specs.List.{enumerate_from}
use Rattle.data_loop.proofs.members.fills_of.Given as goal

abbrev pub invariant-loop-q : goal.invariant-loop-q
invariant-loop-q l = l.fills ≡ map (λ e. e.0) (filter (λ e. e.1.port.node == l.node) (enumerate_from 0 (take l.q l.pools)))
