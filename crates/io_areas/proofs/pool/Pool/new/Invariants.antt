use Rattle.std.proofs.Common.{◌≡◌, length}
use Rattle.io_areas.specs.Queue.{numbers_below}
use Rattle.io_areas.proofs.pool.Pool.new.Given as goal

abbrev pub invariant-loop-id : goal.invariant-loop-id
invariant-loop-id l = (l.free.items ≡ numbers_below l.id) × (length l.free.items ≡ l.id) × (l.free.capacity ≡ l.fn.blocks)
