use Rattle.std.proofs.Common.{◌≤◌, subst, arith}
use Rattle.data_loop.specs.Rooms.{IsWithin}
use Rattle.data_loop.proofs.RoomLemmas.{within_le, taken_more, taken_all}
use Rattle.data_loop.proofs.rooms.widest.Goals as goal

pub loop-member-preserved : goal.loop-member-preserved
loop-member-preserved c = let i = c.loop-member.invariant in let low = i.least in
    let most = c.max-most.ensures in
    let up : c.loop-member.most ≤ c.max-most.result = omega (arith, most) in record {
      least = omega (arith, low, up);
      all = taken_more (IsWithin c.loop-member.most) (IsWithin c.max-most.result) c.args.members.now c.loop-member.member-index _
          c.loop-member-test.true (λ m h. within_le c.loop-member.most c.max-most.result m up h) i.all
          (subst (IsWithin c.max-most.result) c.member-item.is
          (within_le c.width_of.result c.max-most.result c.member-item.result (omega (arith, most)) c.width_of.ensures));
    }

pub returns-clause-widest : goal.returns-clause-widest
returns-clause-widest c = taken_all (IsWithin c.loop-member.most) c.args.members.now c.loop-member.member-index
    (let past = c.loop-member-test.false in omega (arith, past)) c.loop-member.invariant.all
