use Rattle.std.proofs.Common.{◌≡◌, ◌+◌, ◌≤◌, ℕ, [], length, map, take}
use Rattle.std.specs.Prelude.{slice_index_or}
use Rattle.board_rule.specs.start.Owners.{own}
use Rattle.board_rule.proofs.dealing.deal.Given as goal

abbrev pub invariant-loop-at : goal.invariant-loop-at
invariant-loop-at g l = record {
  width : length (map (λ v. v.items) l.dealt.items) ≡ l.most + 1;
  each : (k : ℕ) → k ≤ l.most
      → slice_index_or (map (λ v. v.items) l.dealt.items) k [] ≡ own k (take l.at l.owners) (take l.at l.all);
}
