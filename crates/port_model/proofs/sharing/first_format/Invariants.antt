-- The first format is that of the ports that are left.
use Rattle.std.proofs.Common.{◌≡◌, drop}
use Rattle.port_model.specs.Forms.{first_format}
use Rattle.port_model.proofs.sharing.first_format.Given as goal

abbrev pub invariant-loop-state : goal.invariant-loop-state
invariant-loop-state l = first_format l.ports ≡ first_format (drop l.state-index l.ports)
