use Rattle.std.proofs.Common.{◌≡◌, ◌∷◌, ◌++◌, take}
use Rattle.std.specs.Prelude.{filter}
use Rattle.pw_graph.specs.Pools.{is_before}
use Rattle.pw_graph.proofs.pooling.with_new.Given as goal

abbrev pub invariant-loop-q : goal.invariant-loop-q
invariant-loop-q l = l.list ≡ filter (λ q. is_before q l.p) (take l.q-index l.ports)

abbrev pub invariant-loop-q-2 : goal.invariant-loop-q-2
invariant-loop-q-2 l = l.list ≡ filter (λ q. is_before q l.p) l.ports ++ (l.p ∷ filter (λ q. is_before l.p q) (take l.q-index l.ports))
