use Rattle.std.proofs.Common.{◌≡◌, max, take}
use Rattle.std.specs.Prelude.{fold, filter}
use Rattle.pw_graph.specs.Pools.{is_same_port}
use Rattle.pw_graph.proofs.pooling.channels_of.Given as goal

abbrev pub invariant-loop-link : goal.invariant-loop-link
invariant-loop-link l = l.top ≡ fold (λ top k. max top k.channels) 0
    (filter (λ k. is_same_port k.from l.port) (take l.link-index l.fn.shape.links))
