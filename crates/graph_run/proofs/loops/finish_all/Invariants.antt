use Rattle.std.proofs.Common.{◌≡◌, ◌++◌}
use Rattle.std.specs.Prelude.{All}
use Rattle.std.specs.List.{AllZip}
use Rattle.data_loop.specs.Drafts.{HasAll}
use Rattle.data_loop.specs.Loops.{IsBetweenEpochs}
use Rattle.graph_run.specs.working.Drafts.{IsLoopFrom}
use Rattle.graph_run.proofs.loops.finish_all.Given as goal

abbrev pub invariant-loop-draft : goal.invariant-loop-draft
invariant-loop-draft l = record {
  rest : l.fn.drafts.items ≡ l.yielded ++ l.draft-iterator.rest.items;
  all : All (HasAll l.fn.plan) l.draft-iterator.rest.items;
  between : All IsBetweenEpochs l.states;
  loops_are : AllZip (IsLoopFrom l.fn.plan l.fn.waves) l.yielded l.states;
}
