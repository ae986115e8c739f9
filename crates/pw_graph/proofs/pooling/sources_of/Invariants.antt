use Rattle.std.proofs.Common.{◌≡◌, [], take}
use Rattle.std.specs.Prelude.{fold}
use Rattle.pw_graph.specs.Pools.{with_port}
use Rattle.pw_graph.specs.working.PortOrder.{Rise}
use Rattle.pw_graph.proofs.pooling.sources_of.Given as goal

abbrev pub invariant-loop-link : goal.invariant-loop-link
invariant-loop-link l = (l.ports ≡ fold (λ ports k. with_port ports k.from) [] (take l.link-index l.fn.shape.links)) × Rise l.ports
