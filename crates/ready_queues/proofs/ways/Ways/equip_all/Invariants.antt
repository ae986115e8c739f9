use Rattle.std.proofs.Common.{◌≡◌, ℕ, ◌<◌, length, Some}
use Rattle.std.specs.Prelude.{slice_get}
use Rattle.ready_queues.specs.declared.way.Way.{Way}
use Rattle.ready_queues.specs.Lanes.{unparks}
use Rattle.ready_queues.specs.Opening.{AreFreshEnds, AreBare}
use Rattle.ready_queues.proofs.ways.Ways.equip_all.Given as goal

abbrev pub invariant-loop-k : goal.invariant-loop-k
invariant-loop-k l = record {
  count : length l.ways ≡ length l.self.lanes;
  kept : AreFreshEnds l.self.owner l.self.lanes l.ends;
  bare : AreBare l.self.lanes (unparks l.self.driver) l.ways;
  ends : (j : ℕ) (w : Way) → j < l.k → slice_get l.ways j ≡ Some w → AreFreshEnds l.self.owner l.self.lanes w.ends.items;
}
