use Rattle.std.proofs.Common.{◌≡◌, ◌<◌, ◌==◌, ℕ, List, take, map, length, get_or}
use Rattle.std.specs.Prelude.{filter}
use Rattle.std.specs.List.{enumerate_from}
use Rattle.data_loop.specs.declared.inputs.Input.{Input}
use Rattle.data_loop.specs.Gathering.{input_from}
use Rattle.data_loop.proofs.dealing.deal.Given as goal

abbrev pub invariant-loop-l : goal.invariant-loop-l
invariant-loop-l l = (n : ℕ) (d : List Input) → n < length l.dealt.items
    → get_or l.dealt.items n d ≡ map input_from (filter (λ e. e.1.to.node == n) (enumerate_from 0 (take l.l l.links)))
