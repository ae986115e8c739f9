use Rattle.std.proofs.Common.{◌≡◌, ◌==◌, take, map}
use Rattle.std.specs.Prelude.{filter}
use Rattle.std.specs.List.{enumerate_from}
use Rattle.data_loop.specs.Gathering.{input_from}
use Rattle.data_loop.proofs.members.inputs_of.Given as goal

abbrev pub invariant-loop-l : goal.invariant-loop-l
invariant-loop-l l = l.inputs ≡ map input_from (filter (λ e. e.1.to.node == l.node) (enumerate_from 0 (take l.l l.links)))
