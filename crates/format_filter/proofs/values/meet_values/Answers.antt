-- More than one common value are an Enum, one is an Only.
use Rattle.std.proofs.Common.{◌≡◌, ◌≤◌, ◌∙◌, ap, sym, length, get_or, List, arith}
use Rattle.pod_codec.specs.declared.pod.Pod.{Pod}
use Rattle.format_filter.proofs.ValueLemmas.{many_meet, one_meets}
use Rattle.format_filter.proofs.values.meet_values.Goals as goal

pub returns-then-len-gt1 : goal.returns-then-len-gt1
returns-then-len-gt1 c =
    let many : 2 ≤ length c.in_ok-those.those = omega arith in
    let first = c.index-as_slice-0.result in
    let is_first : get_or c.in_ok-those.those 0 first ≡ first = ap (λ (xs : List Pod). get_or xs 0 first) (sym c.as_slice.ensures)
    ∙ sym c.index-as_slice-0.is in
    many_meet c.args.a.now c.args.b.now c.args.other.now c.args.values.now c.in_ok-those.those c.requires.listed c.in_ok-those.ensures
    c.requires.parts c.in_ok-pick.pick first many is_first c.in_ok-pick.ensures.pick c.in_ok-pick.ensures.member

pub returns-in-Some : goal.returns-in-Some
returns-in-Some c =
    let one : length c.in_ok-those.those ≤ 1 = omega arith in
    one_meets c.args.a.now c.args.b.now c.args.other.now c.args.values.now c.in_ok-those.those c.requires.listed c.in_ok-those.ensures
    c.requires.parts c.pop.new.self c.in-Some.value c.in-Some.ensures.list one
