-- Walks over links: they go on, and back.
use Rattle.std.proofs.Common.{inl, inr, ℕ, List, [], ◌∷◌, ◌++◌, refl, sym, subst}
use Rattle.graph_lines.specs.declared.wire.Wire.{Wire}
use Rattle.graph_lines.specs.Activity.{Joins, IsWalk, AreJoined}

walk_on : (wires walk later : List Wire) (a m b : ℕ) → IsWalk wires a walk m → IsWalk wires m later b → IsWalk wires a (walk ++ later) b
walk_on wires [] later a m b h k = subst (λ (x : ℕ). IsWalk wires x later b) (sym h) k
walk_on wires (w ∷ walk) later a m b h k = (h.0, (h.1.0, h.1.1, walk_on wires walk later h.1.0 m b h.1.2 k))

joins_back : (w : Wire) (a b : ℕ) → Joins w a b → Joins w b a
joins_back w a b (inl h) = inr (h.1, h.0)
joins_back w a b (inr h) = inl (h.1, h.0)

pub joined_self : (wires : List Wire) (a : ℕ) → AreJoined wires a a
joined_self wires a = ([], refl)

pub joined_on : (wires : List Wire) (a m b : ℕ) → AreJoined wires a m → AreJoined wires m b → AreJoined wires a b
joined_on wires a m b h k = (h.0 ++ k.0, walk_on wires h.0 k.0 a m b h.1 k.1)

walk_back : (wires walk : List Wire) (a b : ℕ) → IsWalk wires a walk b → AreJoined wires b a
walk_back wires [] a b h = ([], sym h)
walk_back wires (w ∷ walk) a b h =
    joined_on wires b h.1.0 a (walk_back wires walk h.1.0 b h.1.2) (w ∷ [], (h.0, (a, joins_back w a h.1.0 h.1.1, refl)))

pub joined_back : (wires : List Wire) (a b : ℕ) → AreJoined wires a b → AreJoined wires b a
joined_back wires a b h = walk_back wires h.0 a b h.1
