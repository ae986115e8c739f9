-- The epochs of the parts so far, and their sums.
use Rattle.std.proofs.Common.{◌≡◌, take}
use Rattle.std.specs.List.{AllZip}
use Rattle.graph_lines.specs.Sums.{capped_sums}
use Rattle.graph_plan.specs.working.Ahead.{IsAhead}
use Rattle.graph_plan.specs.Moving.{all_sums, total}
use Rattle.graph_plan.proofs.moving.look_ahead.Given as goal

abbrev pub invariant-loop-member : goal.invariant-loop-member
invariant-loop-member l = record {
  each : AllZip (IsAhead l.waves l.line) (take l.member-index l.members) l.epochs;
  sums : l.sums ≡ capped_sums (total (all_sums (take l.member-index l.members) l.epochs));
}
