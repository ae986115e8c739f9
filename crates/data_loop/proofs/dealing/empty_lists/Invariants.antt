use Rattle.std.proofs.Common.{◌≡◌, ◌<◌, ℕ, List, [], length, get_or}
use Rattle.data_loop.specs.declared.inputs.Input.{Input}
use Rattle.data_loop.proofs.dealing.empty_lists.Given as goal

abbrev pub invariant-loop : goal.invariant-loop
invariant-loop l = (n : ℕ) (d : List Input) → n < length l.lists → get_or l.lists n d ≡ []
