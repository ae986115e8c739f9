-- A property whose key is in the map is at fault, and so is one whose value is; another one is read.
use Rattle.std.proofs.Common.{◌<◌, ◌∙◌, inl, inr, sym, refl, subst, List, take, length, arith}
use Rattle.pod_codec.specs.declared.pod.Prop.{Prop}
use Rattle.format_filter.specs.FormatReading.{key_of}
use Rattle.format_filter.specs.working.PropReading.{field_at, AreRead}
use Rattle.format_filter.proofs.PropLemmas.{read_more, next_prop, twice_faults, value_faults, some_from, none_from}
use Rattle.format_filter.proofs.from_pod.read_props.Goals as goal

pub returns-then-contains_key-clause-fault : goal.returns-then-contains_key-clause-fault
returns-then-contains_key-clause-fault c =
    let inside : c.loop-prop.prop-index < length c.args.props.now = omega arith in
    let prop = c.prop-item.result in
    let some = some_from (field_at c.loop-prop.read (key_of prop)) (sym c.contains_key.ensures ∙ c.if-contains_key.true) in
    inr (twice_faults c.args.props.now c.loop-prop.prop-index prop c.loop-prop.read some.0 inside c.prop-item.is c.loop-prop.invariant
    some.1)

pub returns-in-Err-clause-fault : goal.returns-in-Err-clause-fault
returns-in-Err-clause-fault c =
    let inside : c.loop-prop.prop-index < length c.args.props.now = omega arith in
    let prop = c.prop-item.result in
    let none = none_from (field_at c.loop-prop.read (key_of prop)) (sym c.contains_key.ensures ∙ c.if-contains_key.false) in
    elim c.in-Err.ensures.fault [
      | inl m ↦ inl m
      | inr w ↦ inr (value_faults c.args.props.now c.loop-prop.prop-index prop c.loop-prop.read c.in-Err.fault inside c.prop-item.is
          c.loop-prop.invariant none w)
    ]

pub loop-prop-preserved : goal.loop-prop-preserved
loop-prop-preserved c =
    let inside : c.loop-prop.prop-index < length c.args.props.now = omega arith in
    let prop = c.prop-item.result in
    let i = c.loop-prop.prop-index in
    let none = none_from (field_at c.loop-prop.read (key_of prop)) (sym c.contains_key.ensures ∙ c.if-contains_key.false) in
    subst (λ (xs : List Prop). AreRead xs c.put.new.read) (sym (next_prop c.args.props.now i prop inside c.prop-item.is))
    (read_more (take i c.args.props.now) c.loop-prop.read c.put.new.read prop
    (record { key = prop.key; flags = prop.flags; choice = c.in-Ok.choice }) c.loop-prop.invariant none
    c.in_ok-put-in-Ok.ensures.updates c.in_ok-put-in-Ok.ensures.ordered (refl, refl, c.in-Ok.ensures.found.0) c.in-Ok.ensures.found.1)
