use Rattle.std.proofs.Common.{◌≤◌, take}
use Rattle.std.specs.Prelude.{All}
use Rattle.data_loop.specs.Rooms.{IsWithin}
use Rattle.data_loop.proofs.rooms.widest.Given as goal

abbrev pub invariant-loop-member : goal.invariant-loop-member
invariant-loop-member l = record {
  least : l.least ≤ l.most;
  all : All (IsWithin l.most) (take l.member-index l.members);
}
