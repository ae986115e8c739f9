-- What is passed is copied.
use Rattle.std.proofs.Common.{◌≡◌, take}
use Rattle.port_model.proofs.copying.copy_ports.Given as goal

abbrev pub invariant-loop-port : goal.invariant-loop-port
invariant-loop-port l = l.copied ≡ take l.port-index l.ports
