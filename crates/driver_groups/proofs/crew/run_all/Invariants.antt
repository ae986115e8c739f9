use Rattle.std.proofs.Common.{◌≡◌, ◌≤◌, ◌++◌, length}
use Rattle.std.specs.Prelude.{All}
use Rattle.std.specs.List.{AllZip}
use Rattle.graph_run.specs.RunStates.{CanRunAlone, HasRunAlone}
use Rattle.driver_groups.proofs.crew.run_all.Given as goal

abbrev pub invariant-loop-one : goal.invariant-loop-one
invariant-loop-one g l = record {
  rest : l.fn.given ≡ l.yielded ++ l.one-iterator.rest.items;
  can : All (λ p. CanRunAlone p.run) l.one-iterator.rest.items;
  ended : AllZip (λ p e. HasRunAlone p.run e) l.yielded l.ended.list;
  room : length l.one-iterator.rest.items ≤ l.ended.spare;
}
