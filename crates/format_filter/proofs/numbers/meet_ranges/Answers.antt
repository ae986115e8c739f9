-- The numbers from the larger min to the smaller max.
use Rattle.std.proofs.Common.{◌≡◌, ℤ, ◌<ℤ◌, ◌⊎◌, inl, inr, ◌∙◌, ap, sym, subst, true, arith, rules, to_z, of_z, w64}
use Rattle.std.specs.Int.{int_max, int_min}
use lib.Signed.{lt_z}
use Rattle.std.proofs.lemmas.Int.{ints}
use Rattle.format_filter.specs.declared.choice.Choice.{Choice}
use Rattle.format_filter.specs.declared.choice.Choice.TheVariants.{Range}
use Rattle.format_filter.specs.declared.choice.Wide.{Wide}
use Rattle.format_filter.specs.Members.{number_of, pick_of, IsMember}
use Rattle.format_filter.specs.Soundness.{FitsWide, HasSoundParts}
use Rattle.format_filter.specs.Intersection.{IsCommon, IsPicked}
use Rattle.format_filter.proofs.OverlapLemmas.{strictly, type_told, max_fits, min_fits, overlap_none, overlap_one, overlap_more}
use Rattle.format_filter.proofs.numbers.meet_ranges.Goals as goal

less : (x y : ℤ) → lt_z x y ≡ true → x <ℤ y
less x y h = grind (arith, ints)

-- the larger of two numbers, or the smaller, where each is read from its bits
told : (of : ℤ → ℤ → ℤ) (x y n : ℤ) → to_z w64 (of_z w64 n) ≡ n → n ≡ of (to_z w64 (of_z w64 x)) (to_z w64 (of_z w64 y))
    → to_z w64 (of_z w64 x) ≡ x → to_z w64 (of_z w64 y) ≡ y → to_z w64 (of_z w64 n) ≡ of x y
told of x y n kept is x_is y_is = kept ∙ is ∙ ap (λ z. of z (to_z w64 (of_z w64 y))) x_is ∙ ap (of x) y_is

pub returns-then-ne : goal.returns-then-ne
returns-then-ne c =
    let one = c.args.one in
    let other = c.args.other in
    let differ : one.wide ≡ other.wide → ⊥ = search rules in
    λ x w. let p = subst (λ (d : Choice). IsMember d x) c.requires.one w.0 in
    let q = subst (λ (d : Choice). IsMember d x) c.requires.other w.1 in
    differ (type_told one.wide other.wide p.0 q.0 (sym p.1 ∙ q.1))

pub returns-then-high-low : goal.returns-then-high-low
returns-then-high-low c =
    let one = c.args.one in
    let other = c.args.other in
    let wides : one.wide ≡ other.wide = search rules in
    let b_is = c.requires.other ∙ ap (λ (w : Wide). Range w other.pick other.row.min other.row.max) (sym wides) in
    let low : to_z w64 (of_z w64 c.max-low.result) ≡ int_max one.row.min other.row.min =
    told int_max one.row.min other.row.min c.max-low.result (search rules) c.max-low.ensures.value (search rules) (search rules) in
    let high : to_z w64 (of_z w64 c.min-high.result) ≡ int_min one.row.max other.row.max =
    told int_min one.row.max other.row.max c.min-high.result (search rules) c.min-high.ensures.value (search rules) (search rules) in
    let apart : int_min one.row.max other.row.max <ℤ int_max one.row.min other.row.min =
    subst (λ (v : ℤ). v <ℤ int_max one.row.min other.row.min) high
    (subst (λ (v : ℤ). to_z w64 (of_z w64 c.min-high.result) <ℤ v) low (less _ _ c.if-high-low.true)) in
    overlap_none c.args.a.now c.args.b.now one.wide one.pick one.row.min one.row.max other.pick other.row.min other.row.max c.requires.one
    b_is apart

pub number-requires : goal.number-requires
number-requires c =
    let one = c.args.one in
    let other = c.args.other in
    let wides : one.wide ≡ other.wide = search rules in
    let own = subst HasSoundParts c.requires.one c.requires.a.parts in
    let theirs = subst HasSoundParts (c.requires.other ∙ ap (λ (w : Wide). Range w other.pick other.row.min other.row.max) (sym wides))
    c.requires.b.parts in
    let low : to_z w64 (of_z w64 c.max-low.result) ≡ int_max one.row.min other.row.min =
    told int_max one.row.min other.row.min c.max-low.result (search rules) c.max-low.ensures.value (search rules) (search rules) in
    subst (FitsWide one.wide) (sym low) (max_fits one.wide one.row.min other.row.min own.1 theirs.1)

pub returns-then-low-high : goal.returns-then-low-high
returns-then-low-high c =
    let one = c.args.one in
    let other = c.args.other in
    let wides : one.wide ≡ other.wide = search rules in
    let b_is = c.requires.other ∙ ap (λ (w : Wide). Range w other.pick other.row.min other.row.max) (sym wides) in
    let n = to_z w64 (of_z w64 c.max-low.result) in
    let low : n ≡ int_max one.row.min other.row.min = told int_max one.row.min other.row.min c.max-low.result (search rules) c.max-low.ensures.value (search rules) (search rules) in
    let greatest : to_z w64 (of_z w64 c.min-high.result) ≡ int_min one.row.max other.row.max =
    told int_min one.row.max other.row.max c.min-high.result (search rules) c.min-high.ensures.value (search rules) (search rules) in
    let high = ap (to_z w64) c.if-low-high.true ∙ greatest in
    overlap_one c.args.a.now c.args.b.now one.wide one.pick one.row.min one.row.max other.pick other.row.min other.row.max c.requires.one
    b_is n low high c.number.result c.number.ensures

pub picked_number-requires-clause-other : goal.picked_number-requires-clause-other
picked_number-requires-clause-other c =
    let wides : c.args.one.wide ≡ c.args.other.wide = search rules in
    let pick : to_z w64 (of_z w64 c.args.other.pick) ≡ c.args.other.pick = search rules in
    ap pick_of c.requires.other ∙ ap (λ (w : Wide). number_of w c.args.other.pick) (sym wides) ∙ ap (number_of c.args.one.wide) (sym pick)

pub returns : goal.returns
returns c =
    let one = c.args.one in
    let other = c.args.other in
    let wides : one.wide ≡ other.wide = search rules in
    let b_is = c.requires.other ∙ ap (λ (w : Wide). Range w other.pick other.row.min other.row.max) (sym wides) in
    let own = subst HasSoundParts c.requires.one c.requires.a.parts in
    let theirs = subst HasSoundParts b_is c.requires.b.parts in
    let least = to_z w64 (of_z w64 c.max-low.result) in
    let greatest = to_z w64 (of_z w64 c.min-high.result) in
    let low : least ≡ int_max one.row.min other.row.min = told int_max one.row.min other.row.min c.max-low.result (search rules) c.max-low.ensures.value (search rules) (search rules) in
    let high : greatest ≡ int_min one.row.max other.row.max = told int_min one.row.max other.row.max c.min-high.result (search rules) c.min-high.ensures.value (search rules) (search rules) in
    let least_is : least ≡ c.max-low.result = search rules in
    let greatest_is : greatest ≡ c.min-high.result = search rules in
    let order = strictly least greatest c.if-high-low.false (λ e. c.if-low-high.false (ap (of_z w64) (sym least_is ∙ e ∙ greatest_is))) in
    let pick = to_z w64 (of_z w64 c.picked_number.result) in
    let pick_is : pick ≡ c.picked_number.result = search rules in
    let own_pick : to_z w64 (of_z w64 one.pick) ≡ one.pick = search rules in
    let other_pick : to_z w64 (of_z w64 other.pick) ≡ other.pick = search rules in
    let least_fits : FitsWide one.wide least = subst (FitsWide one.wide) (sym low)
    (max_fits one.wide one.row.min other.row.min own.1 theirs.1) in
    let greatest_fits : FitsWide one.wide greatest =
    subst (FitsWide one.wide) (sym high) (min_fits one.wide one.row.max other.row.max own.2 theirs.2) in
    let fits : FitsWide one.wide pick = elim c.picked_number.ensures.origin [
      | inl e ↦ subst (FitsWide one.wide) (sym (pick_is ∙ e ∙ own_pick)) own.0
      | inr e ↦ elim e [
        | inl f ↦ subst (FitsWide one.wide) (sym (pick_is ∙ f ∙ other_pick)) theirs.0
        | inr f ↦ subst (FitsWide one.wide)
            (sym (pick_is ∙ f)) least_fits
      ]
    ] in
    let picked = subst (λ (v : ℤ). IsPicked c.args.a.now c.args.b.now (number_of one.wide least) (number_of one.wide v))
    (sym pick_is) c.picked_number.ensures.pick in
    let member : IsCommon c.args.a.now c.args.b.now (number_of one.wide pick) ⊎ (pick ≡ least) = elim c.picked_number.ensures.member [
      | inl w ↦ inl (subst (λ (v : ℤ). IsCommon c.args.a.now c.args.b.now (number_of one.wide v)) (sym pick_is) w)
      | inr e ↦ inr (pick_is ∙ e)
    ] in
    overlap_more c.args.a.now c.args.b.now one.wide one.pick one.row.min one.row.max other.pick other.row.min other.row.max c.requires.one
    b_is pick least greatest low high order fits least_fits greatest_fits picked member
