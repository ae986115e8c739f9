-- The gain of the table is small, and the nearest.
use Rattle.std.proofs.Common.{◌≡◌, ℕ, ◌≤◌, subst, arith, IfSome, w32, to_z}
use Rattle.std.specs.Prelude.{Option}
use Rattle.std.specs.Prelude.{unsigned_abs}
use Rattle.std.proofs.lemmas.Int.{ints}
use Rattle.pod_text.specs.Decibels.{IsNearest}
use Rattle.pod_text.proofs.DecibelLemmas.{table_nearest, table_small}
use Rattle.pod_text.proofs.decibels.gain_of.Goals as goal

pub returns-in-Some-clause-within : goal.returns-in-Some-clause-within
returns-in-Some-clause-within c =
    let small : c.table_at.result ≤ 32767 = table_small c.in-Some.index c.table_at.result c.in-Some.ensures.within c.table_at.ensures in
    (omega (arith, ints, small), omega (arith, ints, small))

pub returns-in-Some-clause-nearest : goal.returns-in-Some-clause-nearest
returns-in-Some-clause-nearest c =
    let small : c.table_at.result ≤ 32767 = table_small c.in-Some.index c.table_at.result c.in-Some.ensures.within c.table_at.ensures in
    let same : c.table_at.result ≡ unsigned_abs (to_z w32 c.table_at.result) = omega (arith, ints, small) in
    subst (λ (o : Option ℕ). IfSome o (λ i. IsNearest i (unsigned_abs (to_z w32 c.table_at.result)))) c.in-Some.ensures.place
    (subst (IsNearest c.in-Some.index) same
    (table_nearest c.in-Some.index c.table_at.result c.in-Some.ensures.within c.table_at.ensures))
