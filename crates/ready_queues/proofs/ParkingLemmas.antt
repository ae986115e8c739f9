-- Each step on a parker keeps its rule.
use Rattle.std.proofs.Common.{◌≡◌, ℕ, zero, suc, ◌+◌, ◌≤◌, Bool, true, false, List, [], ◌∷◌, set, sym, refl, ap, arith}
use Rattle.std.specs.List.{sum_by}
use Rattle.std.proofs.lemmas.List.Sums.{sum_by-cons, sum_by_push}
use mathlib.Core.Option.{some, some-injective, some-ne-none}
use lib.ListN.{get_elem?}
use Rattle.crossbeam_utils.specs.Register.{Admits, TurnsAt, Turns}
use Rattle.ready_queues.specs.declared.parking.Woken.{Woken}
use Rattle.ready_queues.specs.ParkingRule.{woken, given_on, taken_on, worth, IsParked}

sum_set : (f : Woken → ℕ) (views : List Woken) (k : ℕ) (v w : Woken) → get_elem? views k ≡ some v → sum_by f (set views k w) + f v ≡ sum_by f views + f w
sum_set f [] k v w at = absurd (some-ne-none v (sym at))
sum_set f (x ∷ xs) zero v w at = let e : f x ≡ f v = ap f (some-injective x v at) in omega (arith, sum_by-cons f w xs, sum_by-cons f x xs)
sum_set f (x ∷ xs) (suc k) v w at = let h = sum_set f xs k v w at in omega (arith, sum_by-cons f x (set xs k w), sum_by-cons f x xs)

worth_most : (b : Bool) → worth b ≤ 1
worth_most true = omega arith
worth_most false = omega arith

pub begins : IsParked false (woken 0 0 ∷ [])
begins = omega arith

pub may_give : (port : ℕ) (v : Woken) → Turns IsParked port v (λ _. true) (λ v _ _ w. w ≡ given_on v 1)
may_give port v x views kept at = let w : Woken = given_on v 1 in
    let g = sum_set (λ (u : Woken). u.given) views port v w at in
    let t = sum_set (λ (u : Woken). u.taken) views port v w at in (w, omega arith, refl)

pub may_take : (port : ℕ) (v : Woken) → TurnsAt IsParked port v true false (λ v _ _ w. w ≡ taken_on v 1)
may_take port v views kept at = let w : Woken = taken_on v 1 in
    let g = sum_set (λ (u : Woken). u.given) views port v w at in
    let t = sum_set (λ (u : Woken). u.taken) views port v w at in (w, omega arith, refl)

pub may_join : Admits IsParked (woken 0 0)
may_join x views kept = omega (arith, sum_by_push (λ (u : Woken). u.given) views (woken 0 0), sum_by_push (λ (u : Woken). u.taken) views (woken 0 0))
