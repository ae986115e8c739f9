-- Laws of `specs/SoakLine.antt`: its cycles and its sum are small.
use Rattle.std.proofs.Common.{◌≡◌, ℕ, ◌+◌, ◌*◌, ◌<◌, ◌≤◌, List, length, get_or, take, sum_by, arith, ℤ, pos, ◌+ℤ◌}
use Rattle.std.proofs.Math.Nat.{mul-le-mul_left}
use Rattle.std.proofs.lemmas.List.Sums.{sum_by_more_le_part, fold_more}
use Rattle.pw_graph.specs.declared.plan.Epoch.{Epoch}
use Rattle.pw_graph.specs.PlanSums.{epoch_events}
use Rattle.soak_graph.specs.SoakLine.{sum_of}

-- an epoch has three events a cycle at least
few_cycles : (e : Epoch) → e.shape.cycles ≤ epoch_events e
few_cycles e = let up = mul-le-mul_left e.shape.cycles (let one : 1 ≤ 2 * length e.shape.nodes + 3 = omega arith in one) in omega (arith, up)

-- the cycles so far, and those of the next epoch
pub cycles_within : (es : List Epoch) (i : ℕ) (d : Epoch) → i < length es
    → sum_by (λ (e : Epoch). e.shape.cycles) (take i es) + (get_or es i d).shape.cycles ≤ sum_by epoch_events es
cycles_within es i d low =
    let part = sum_by_more_le_part (λ (e : Epoch). e.shape.cycles) epoch_events es i d low few_cycles in
    let here = few_cycles (get_or es i d) in omega (arith, part, here)

-- the sum so far, and the next sample
pub sum_more : (xs : List ℤ) (i : ℕ) (d : ℤ) → i < length xs → sum_of (take (i + 1) xs) ≡ sum_of (take i xs) +ℤ get_or xs i d
sum_more xs i d low = fold_more (λ sum s. sum +ℤ s) (pos 0) xs i d low
