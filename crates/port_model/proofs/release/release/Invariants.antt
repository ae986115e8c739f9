-- What is passed has no format, and the rest is as it was.
use Rattle.std.proofs.Common.{◌≡◌, ◌++◌, map, take, drop}
use Rattle.port_model.specs.PortState.{released}
use Rattle.port_model.proofs.release.release.Given as goal

abbrev pub invariant-loop-state : goal.invariant-loop-state
invariant-loop-state l = l.ports ≡ map released (take l.state-index l.fn.ports) ++ drop l.state-index l.fn.ports
