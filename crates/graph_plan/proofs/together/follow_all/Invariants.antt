use Rattle.std.proofs.Common.{◌≡◌, ℕ, drop}
use Rattle.std.specs.Prelude.{Result}
use Rattle.pw_lists.specs.declared.limit.Which.{Which}
use Rattle.graph_plan.specs.declared.together.Together.{Together}
use Rattle.graph_plan.specs.working.Members.{AreReady}
use Rattle.graph_plan.specs.Together.{FollowTogether}
use Rattle.graph_plan.proofs.together.follow_all.Given as goal

-- whatever the lines that are left do next, all lines do
abbrev pub invariant-loop-line : goal.invariant-loop-line
invariant-loop-line l = record {
  ready : AreReady l.together;
  kinds : l.together.whole.kinds ≡ l.fn.together.whole.kinds;
  rest : (outcome : Result Together (ℕ × Which)) → FollowTogether l.waves l.together (drop l.line-index l.lines) outcome
      → FollowTogether l.waves l.fn.together l.lines outcome;
}
