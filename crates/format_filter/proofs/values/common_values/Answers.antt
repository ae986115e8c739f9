-- The next value is added, or it adds nothing.
use Rattle.std.proofs.Common.{◌≡◌, ◌<◌, ◌∙◌, ap, sym, subst, true, List, ◌++◌, ◌∷◌, [], length, arith}
use Rattle.std.specs.List.{Contains}
use Rattle.pod_codec.specs.declared.pod.Pod.{Pod}
use Rattle.format_filter.specs.Members.{IsMember}
use Rattle.format_filter.proofs.ValueLemmas.{stay_next, more_next}
use Rattle.format_filter.proofs.values.common_values.Goals as goal
use Rattle.format_filter.proofs.values.common_values.Goals.{then-is_member+then-not-is_among+in_ok-copy+in_ok-push, else-is_member}
use Rattle.format_filter.proofs.values.common_values.Goals.{else-is_member-via-then-is_member+else-not-is_among}
use Rattle.format_filter.proofs.values.common_values.Goals.{else-is_member-via-else-is_member}

pub loop-value-preserved : goal.loop-value-preserved
loop-value-preserved c =
    let v = c.value-item.result in
    let inside : c.loop-value.value-index < length c.args.values.now = omega arith in
    elim c.if-is_member.branch [
      | then-is_member+then-not-is_among+in_ok-copy+in_ok-push w ↦
          more_next c.args.values.now (IsMember c.args.other.now)
          c.loop-value.those c.if-is_member.those c.loop-value.value-index v inside c.value-item.is c.loop-value.invariant
          (w.those-is ∙ w.in_ok-push.ensures.ok ∙ ap (λ (y : Pod). c.loop-value.those ++ y ∷ []) w.in_ok-copy.ensures)
          (c.is_member.ensures.0 w.if-is_member.true)
          (λ there. let is : w.is_among.result ≡ true = w.is_among.ensures.1
          (subst (λ (ys : List Pod). Contains ys v) (sym w.as_slice.ensures) there) in cc)
      | else-is_member w ↦ elim w.else-is_member.branch [
        | else-is_member-via-then-is_member+else-not-is_among u ↦
            stay_next c.args.values.now (IsMember c.args.other.now)
            c.loop-value.those c.if-is_member.those c.loop-value.value-index v inside c.value-item.is c.loop-value.invariant w.those-is
            (λ p. subst (λ (ys : List Pod). Contains ys v) u.as_slice.ensures (u.is_among.ensures.0 u.if-not-is_among.false))
        | else-is_member-via-else-is_member u ↦
            stay_next c.args.values.now (IsMember c.args.other.now)
            c.loop-value.those c.if-is_member.those c.loop-value.value-index v inside c.value-item.is c.loop-value.invariant w.those-is
            (λ p. let is : c.is_member.result ≡ true = c.is_member.ensures.1 p in absurd (cc))
      ]
    ]
