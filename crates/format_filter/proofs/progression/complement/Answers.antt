-- A number and its complement make a multiple.
use Rattle.std.proofs.Common.{arith, inl, inr}
use Rattle.std.proofs.lemmas.Nat.{mod_below}
use Rattle.format_filter.proofs.SolutionsLemmas.{complement_whole, complement_rest, complement_only}
use Rattle.format_filter.proofs.progression.complement.Goals as goal

pub returns-then-rest-eq0-clause-whole : goal.returns-then-rest-eq0-clause-whole
returns-then-rest-eq0-clause-whole c = λ m h. complement_whole c.args.n c.args.by m c.requires c.if-rest-eq0.true h

pub returns-then-rest-eq0-clause-only : goal.returns-then-rest-eq0-clause-only
returns-then-rest-eq0-clause-only c = λ m h.
    elim (complement_only c.args.n c.args.by m c.requires h) [ inl p ↦ p.1 | inr e ↦ omega (arith, mod_below m c.args.by c.requires) ]

pub returns-else-rest-eq0-clause-whole : goal.returns-else-rest-eq0-clause-whole
returns-else-rest-eq0-clause-whole c = λ m h. complement_rest c.args.n c.args.by m c.requires h (omega arith)

pub returns-else-rest-eq0-clause-only : goal.returns-else-rest-eq0-clause-only
returns-else-rest-eq0-clause-only c = λ m h.
    elim (complement_only c.args.n c.args.by m c.requires h) [ inl p ↦ omega arith | inr e ↦ omega arith ]
