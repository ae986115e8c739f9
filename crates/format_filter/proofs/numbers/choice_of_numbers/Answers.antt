-- Two numbers are an Enum, more are a Step.
use Rattle.std.proofs.Common.{◌≡◌, ℤ, ◌<ℤ◌, ◌≤ℤ◌, ◌⊎◌, inl, inr, ◌∙◌, ap, sym, subst, ◌∷◌, ◌++◌, [], List, rules}
use Rattle.std.proofs.Common.{to_z, of_z, w64}
use Rattle.pod_codec.specs.declared.pod.Pod.{Pod}
use Rattle.format_filter.specs.declared.choice.Choice.TheVariants.{Enum}
use Rattle.format_filter.specs.declared.progression.Numbers.{Numbers}
use Rattle.format_filter.specs.Members.{number_of, IsReached}
use Rattle.format_filter.specs.Soundness.{FitsWide}
use Rattle.format_filter.specs.Intersection.{IsCommon, IsPicked, IsCommonIn, HasForm}
use Rattle.format_filter.specs.working.Progression.{IsOneOf, AreOrdered}
use Rattle.format_filter.proofs.NumberChoiceLemmas.{row_first, two_meet, more_meet}
use Rattle.format_filter.proofs.numbers.choice_of_numbers.Goals as goal

pub returns-in_ok-push-in-Two-2 : goal.returns-in_ok-push-in-Two-2
returns-in_ok-push-in-Two-2 c =
    let a = c.args.a.now in
    let b = c.args.b.now in
    let wide = c.args.wide in
    let low_is : to_z w64 (of_z w64 c.in-Two.low) ≡ c.in-Two.low = search rules in
    let high_is : to_z w64 (of_z w64 c.in-Two.high) ≡ c.in-Two.high = search rules in
    let pick_is : to_z w64 (of_z w64 c.picked_number.result) ≡ c.picked_number.result = search rules in
    let found = c.in-Two.is in
    let low_value = c.number-in-Two.ensures ∙ ap (number_of wide) low_is in
    let high_value = c.number-in-Two-2.ensures ∙ ap (number_of wide) high_is in
    let pick_value = c.number-pick.ensures ∙ ap (number_of wide) pick_is in
    let alts : c.push-in-Two.new.self ≡ number_of wide c.in-Two.low ∷ number_of wide c.in-Two.high ∷ [] =
    c.in_ok-push-in-Two-2.ensures.ok ∙ ap (λ (xs : List Pod). xs ++ c.number-in-Two-2.result ∷ [])
    (c.in_ok-push-in-Two.ensures.ok ∙ ap (λ (xs : List Pod). xs ++ c.number-in-Two.result ∷ []) c.new-alts.ensures)
    ∙ ap (λ (v : Pod). c.number-in-Two.result ∷ v ∷ []) high_value ∙ ap (λ (v : Pod). v ∷ number_of wide c.in-Two.high ∷ []) low_value in
    let order : c.in-Two.low <ℤ c.in-Two.high = subst AreOrdered found c.requires.ordered in
    let picked = subst (λ (v : ℤ). IsPicked a b (number_of wide v) (number_of wide c.picked_number.result))
    low_is c.picked_number.ensures.pick in
    let member : IsCommon a b (number_of wide c.picked_number.result)
    ⊎ (number_of wide c.picked_number.result ≡ number_of wide c.in-Two.low) =
    elim c.picked_number.ensures.member [ inl p ↦ inl p | inr e ↦ inr (ap (number_of wide) (e ∙ low_is)) ] in
    subst (λ (v : Pod). IsCommonIn (HasForm a b) a b (Enum v c.push-in-Two.new.self)) (sym pick_value)
    (two_meet a b wide c.requires.form c.in-Two.low c.in-Two.high (number_of wide c.picked_number.result) c.push-in-Two.new.self alts order
    (λ n w. c.requires.only n (subst (λ (f : Numbers). IsOneOf f n) (sym found) w))
    (λ x w. let f = c.requires.all x w in (f.0, f.1, subst (λ (g : Numbers). IsOneOf g f.0) found f.2)) picked member)

pub returns-in-More : goal.returns-in-More
returns-in-More c =
    let a = c.args.a.now in
    let b = c.args.b.now in
    let wide = c.args.wide in
    let row = c.in-More.row in
    let min_is : to_z w64 (of_z w64 row.min) ≡ row.min = search rules in
    let max_is : to_z w64 (of_z w64 row.max) ≡ row.max = search rules in
    let step_is : to_z w64 (of_z w64 row.step) ≡ row.step = search rules in
    let pick_is : to_z w64 (of_z w64 c.picked_number-in-More.result) ≡ c.picked_number-in-More.result = search rules in
    let found = c.in-More.is in
    let pick = c.picked_number-in-More.result in
    let ordered = subst AreOrdered found c.requires.ordered in
    let picked = subst (λ (v : ℤ). IsPicked a b (number_of wide v) (number_of wide pick)) min_is c.picked_number-in-More.ensures.pick in
    let member : IsCommon a b (number_of wide pick) ⊎ (pick ≡ row.min) =
    elim c.picked_number-in-More.ensures.member [ inl p ↦ inl p | inr e ↦ inr (e ∙ min_is) ] in
    let only : (n : ℤ) → IsReached row.min row.step n × (n ≤ℤ row.max) → IsCommon a b (number_of wide n)
    × FitsWide wide n = λ n w. c.requires.only n (subst (λ (f : Numbers). IsOneOf f n) (sym found) w) in
    let least : FitsWide wide row.min = (only row.min (row_first row ordered)).1 in
    let fits : FitsWide wide pick = elim c.picked_number-in-More.ensures.origin [
      | inl e ↦ subst (FitsWide wide) (sym e) c.requires.own.1
      | inr e ↦ elim e [ inl f ↦ subst (FitsWide wide) (sym f) c.requires.other.1 | inr f ↦ subst (FitsWide wide) (sym (f ∙ min_is)) least ]
    ] in
    rw (pick_is, min_is, max_is, step_is)
    (more_meet a b wide c.requires.form row.min row.max row.step pick fits ordered.0 ordered.1 only
    (λ x w. let f = c.requires.all x w in (f.0, f.1, subst (λ (g : Numbers). IsOneOf g f.0) found f.2)) picked member)
