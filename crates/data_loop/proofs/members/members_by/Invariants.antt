use Rattle.std.proofs.Common.{◌≡◌, take, map}
use Rattle.std.specs.Prelude.{filter}
use Rattle.std.specs.List.{enumerate_from}
use Rattle.data_loop.specs.Members.{member_of, has_role}
use Rattle.data_loop.proofs.members.members_by.Given as goal

abbrev pub invariant-loop-at : goal.invariant-loop-at
invariant-loop-at l = l.members ≡ map (λ x. member_of l.plan l.epoch x.1 x.0)
    (filter (λ x. has_role l.epoch l.leads x.1) (enumerate_from 0 (take l.at l.nodes)))
