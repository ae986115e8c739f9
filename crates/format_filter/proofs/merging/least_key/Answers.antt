-- The least key that is left is the lesser one of those that are first.
use Rattle.std.proofs.Common.{◌≡◌, ◌<◌, inl, inr, length, get_or, refl, arith}
use Rattle.std.proofs.lemmas.Bool.{cases_lt}
use Rattle.format_filter.proofs.FieldLemmas.{key_at, from_here}
use Rattle.format_filter.proofs.merging.least_key.Goals as goal

pub returns-then-i-a-clause-other : goal.returns-then-i-a-clause-other
returns-then-i-a-clause-other c =
    let inside : c.args.j < length c.args.b.now = elim c.requires.left [ inl l ↦ absurd (omega arith) | inr l ↦ l ] in
    let key = (get_or c.args.b.now c.args.j c.index-b-j.result).key in
    from_here c.args.b.now c.args.j key c.requires.b (key_at c.args.b.now c.args.j key c.index-b-j.result inside refl)

pub returns-then-j-b-clause-own : goal.returns-then-j-b-clause-own
returns-then-j-b-clause-own c =
    let inside : c.args.i < length c.args.a.now = omega arith in
    let key = (get_or c.args.a.now c.args.i c.index-a-i.result).key in
    from_here c.args.a.now c.args.i key c.requires.a (key_at c.args.a.now c.args.i key c.index-a-i.result inside refl)

pub returns-clause-own : goal.returns-clause-own
returns-clause-own c =
    let inside : c.args.i < length c.args.a.now = omega arith in
    let key = (get_or c.args.a.now c.args.i c.index-a-i-2.result).key in
    let least = from_here c.args.a.now c.args.i key c.requires.a (key_at c.args.a.now c.args.i key c.index-a-i-2.result inside refl) in
    λ k d l. omega (arith, least k d l, c.min.ensures)

pub returns-clause-other : goal.returns-clause-other
returns-clause-other c =
    let inside : c.args.j < length c.args.b.now = omega arith in
    let key = (get_or c.args.b.now c.args.j c.index-b-j-2.result).key in
    let least = from_here c.args.b.now c.args.j key c.requires.b (key_at c.args.b.now c.args.j key c.index-b-j-2.result inside refl) in
    λ k d l. omega (arith, least k d l, c.min.ensures)

pub returns-clause-found : goal.returns-clause-found
returns-clause-found c =
    let own_inside : c.args.i < length c.args.a.now = omega arith in
    let other_inside : c.args.j < length c.args.b.now = omega arith in
    let own = (get_or c.args.a.now c.args.i c.index-a-i-2.result).key in
    let other = (get_or c.args.b.now c.args.j c.index-b-j-2.result).key in
    elim (cases_lt own other) [
      | inl l ↦ let is : own ≡ c.min.result = omega (arith, c.min.ensures) in
          inl (key_at c.args.a.now c.args.i c.min.result c.index-a-i-2.result own_inside is)
      | inr l ↦ let is : other ≡ c.min.result = omega (arith, c.min.ensures) in
          inr (key_at c.args.b.now c.args.j c.min.result c.index-b-j-2.result other_inside is)
    ]
