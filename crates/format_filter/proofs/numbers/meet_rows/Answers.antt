-- The common members are the numbers that both rows have, where these are of one type.
use Rattle.std.proofs.Common.{◌≡◌, ℤ, ◌≤ℤ◌, ◌∙◌, sym, ap, subst, arith, rules}
use Rattle.std.proofs.lemmas.Int.{ints}
use Rattle.pod_codec.specs.declared.pod.Pod.{Pod}
use Rattle.format_filter.specs.declared.choice.Choice.{Choice}
use Rattle.format_filter.specs.declared.choice.Wide.{Wide}
use Rattle.format_filter.specs.declared.choice.Wide.TheVariants.{Int, Long}
use Rattle.format_filter.specs.declared.numbers.Ranged.{Ranged}
use Rattle.format_filter.specs.Members.{number_of, IsMember}
use Rattle.format_filter.specs.Soundness.{FitsWide}
use Rattle.format_filter.specs.working.Making.{IsRowOf}
use Rattle.format_filter.specs.Intersection.{IsCommon}
use Rattle.format_filter.specs.working.Progression.{IsIn}
use Rattle.format_filter.proofs.NumberChoiceLemmas.{above}
use Rattle.format_filter.proofs.OverlapLemmas.{number_injective, type_told}
use Rattle.format_filter.proofs.numbers.meet_rows.Goals as goal

between_fits : (wide : Wide) (min max n : ℤ) → FitsWide wide min → FitsWide wide max → min ≤ℤ n → n ≤ℤ max → FitsWide wide n
between_fits Int min max n f g l h = grind (arith, ints)
between_fits Long min max n f g l h = grind (arith, ints)

-- the numbers of a row fit their type
row_fits : (choice : Choice) (r : Ranged) → IsRowOf choice r → (n : ℤ) → IsIn r.row n → FitsWide r.wide n
row_fits choice r is n w =
    between_fits r.wide r.row.min r.row.max n is.fits.1 is.fits.2 (above r.row.min n r.row.step w.0.0 is.step w.0.1) w.1

-- a common member is a number of both rows
in_both : (a b : Choice) (one other : Ranged) → IsRowOf a one → IsRowOf b other → one.wide ≡ other.wide → (x : Pod) → IsCommon a b x
    → (n : ℤ) × (x ≡ number_of one.wide n) × IsIn one.row n × IsIn other.row n
in_both a b one other a_is b_is wides x w =
    let p = a_is.only x w.0 in
    let q = b_is.only x w.1 in
    let same : p.0 ≡ q.0 = number_injective one.wide p.0 q.0
    (sym p.1 ∙ q.1 ∙ ap (λ (v : Wide). number_of v q.0) (sym wides)) in
    (p.0, p.1, p.2, subst (IsIn other.row) (sym same) q.2)

common_member : (a b : Choice) (one other : Ranged) → IsRowOf a one → IsRowOf b other → one.wide ≡ other.wide → (n : ℤ)
    → IsIn one.row n → IsIn other.row n → IsCommon a b (number_of one.wide n)
common_member a b one other a_is b_is wides n p q =
    (a_is.all n p, subst (λ (v : Wide). IsMember b (number_of v n)) (sym wides) (b_is.all n q))

pub returns-then-ne : goal.returns-then-ne
returns-then-ne c =
    let differ : c.args.one.wide ≡ c.args.other.wide → ⊥ = search rules in
    λ x w. let p = c.requires.one.only x w.0 in
    let q = c.requires.other.only x w.1 in
    differ (type_told c.args.one.wide c.args.other.wide p.0 q.0 (sym p.1 ∙ q.1))

pub choice_of_numbers-requires-clause-only : goal.choice_of_numbers-requires-clause-only
choice_of_numbers-requires-clause-only c =
    let wides : c.args.one.wide ≡ c.args.other.wide = search rules in
    λ n w. let both = c.common_numbers-found.ensures.only n w in (
      common_member c.args.a.now c.args.b.now c.args.one c.args.other c.requires.one c.requires.other wides n both.0 both.1,
      row_fits c.args.a.now c.args.one c.requires.one n both.0,
    )

pub choice_of_numbers-requires-clause-all : goal.choice_of_numbers-requires-clause-all
choice_of_numbers-requires-clause-all c =
    let wides : c.args.one.wide ≡ c.args.other.wide = search rules in
    λ x w. let both = in_both c.args.a.now c.args.b.now c.args.one c.args.other c.requires.one c.requires.other wides x w in
    (both.0, both.1, c.common_numbers-found.ensures.all both.0 both.2 both.3)

pub choice_of_numbers-requires-clause-ordered : goal.choice_of_numbers-requires-clause-ordered
choice_of_numbers-requires-clause-ordered c = c.common_numbers-found.ensures.ordered
