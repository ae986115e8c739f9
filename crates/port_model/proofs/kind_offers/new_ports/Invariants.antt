-- The ports so far are those of the numbers so far.
use Rattle.std.proofs.Common.{◌≡◌, map}
use Rattle.std.specs.List.{range_with_len}
use Rattle.port_model.specs.Offers.{new_port}
use Rattle.port_model.proofs.kind_offers.new_ports.Given as goal

abbrev pub invariant-loop-port : goal.invariant-loop-port
invariant-loop-port l = l.ports ≡ map (new_port l.kind l.rate l.channels) (range_with_len 0 l.port)
