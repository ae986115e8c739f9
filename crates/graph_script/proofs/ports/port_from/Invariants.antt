use Rattle.std.proofs.Common.{◌≡◌, ℕ, ◌<◌, ◌≤◌, false, bytes_eq}
use Rattle.pw_graph.specs.KindPorts.{port_name}
use Rattle.graph_script.proofs.ports.port_from.Given as goal

abbrev pub invariant-loop-port : goal.invariant-loop-port
invariant-loop-port l = (k : ℕ) → l.first ≤ k → k < l.port → bytes_eq l.name (port_name l.kind k) ≡ false
