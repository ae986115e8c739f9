use Rattle.std.proofs.Common.{◌≡◌, ◌-◌, ◌++◌, length, map, take}
use Rattle.std.specs.Prelude.{replicate}
use Rattle.std.specs.List.{enumerate_from}
use Rattle.data_loop.specs.OwnPools.{own_pools, own_place}
use Rattle.data_loop.proofs.places.row_of.Given as goal

abbrev pub invariant-loop-q : goal.invariant-loop-q
invariant-loop-q l = record {
  before : l.before ≡ length (own_pools l.nodes (take l.q l.pools));
  long : length l.places.items ≡ length l.pools;
  places : l.places.items ≡ map (own_place l.nodes l.pools) (take l.q (enumerate_from 0 l.pools))
      ++ replicate (length l.pools - l.q) (length (own_pools l.nodes l.pools));
}
