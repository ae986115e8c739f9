-- One thing more is read, or none, or all are.
use Rattle.std.proofs.Common.{◌≡◌, ℕ, ◌+◌, ◌-◌, inl, inr, List, [], sym, ap, subst, ◌∙◌, arith}
use Rattle.pod_codec.specs.declared.pod.Pod.{Pod}
use Rattle.pod_codec.specs.declared.pod.Prop.{Prop}
use Rattle.pod_codec.specs.declared.pod.Control.{Control}
use Rattle.dump_reading.specs.working.Keyed.{prop_said, control_said}
use Rattle.dump_reading.specs.working.Lines.{many}
use Rattle.dump_reading.specs.Values.{held_said, value_said}
use Rattle.dump_reading.specs.declared.heads.Head.{Head}
use Rattle.dump_reading.proofs.ManyLemmas.{many_more, many_stops, many_done}
use Rattle.dump_reading.proofs.ValueLemmas.{value_opened}
use Rattle.dump_reading.proofs.values.+read_dump.Goals as goal

pub values_said-values-preserved : goal.values_said-values-preserved
values_said-values-preserved t c =
    let read = value_said c.args.left c.args.level in
    let left = c.args.count - c.values.counter in
    let next = c.args.count - (c.values.counter + 1) in
    subst (λ (xs : List Pod). many read next xs c.in-Ok.after.now ≡ many read c.args.count [] c.args.text.now)
    (sym c.in_ok-push-in-Ok.ensures.ok)
    (sym (many_more read left next c.values.values c.values.rest.now c.in-Ok.value c.in-Ok.after.now (omega arith) c.in-Ok.ensures)
    ∙ c.values.invariant)

pub values_said-returns-in-Err : goal.values_said-returns-in-Err
values_said-returns-in-Err t c =
    let read = value_said c.args.left c.args.level in
    let left = c.args.count - c.values.counter in
    let next = c.args.count - (c.values.counter + 1) in
    elim c.in-Err.ensures [
      | inl short ↦ inl short
      | inr none ↦ inr (sym c.values.invariant ∙ many_stops read left next c.values.values c.values.rest.now (omega arith) none)
    ]

pub values_said-returns : goal.values_said-returns
values_said-returns t c =
    let read = value_said c.args.left c.args.level in
    let left = c.args.count - c.values.counter in
    sym c.values.invariant ∙ many_done read left c.values.values c.values.rest.now (omega arith)

pub props_said-props-preserved : goal.props_said-props-preserved
props_said-props-preserved t c =
    let read = prop_said (value_said c.args.left) c.args.level in
    let left = c.args.count - c.props.counter in
    let next = c.args.count - (c.props.counter + 1) in
    subst (λ (xs : List Prop). many read next xs c.in-Ok.after.now ≡ many read c.args.count [] c.args.text.now)
    (sym c.in_ok-push-in-Ok.ensures.ok)
    (sym (many_more read left next c.props.props c.props.rest.now c.in-Ok.prop c.in-Ok.after.now (omega arith) c.in-Ok.ensures)
    ∙ c.props.invariant)

pub props_said-returns-in-Err : goal.props_said-returns-in-Err
props_said-returns-in-Err t c =
    let read = prop_said (value_said c.args.left) c.args.level in
    let left = c.args.count - c.props.counter in
    let next = c.args.count - (c.props.counter + 1) in
    elim c.in-Err.ensures [
      | inl short ↦ inl short
      | inr none ↦ inr (sym c.props.invariant ∙ many_stops read left next c.props.props c.props.rest.now (omega arith) none)
    ]

pub props_said-returns : goal.props_said-returns
props_said-returns t c =
    let read = prop_said (value_said c.args.left) c.args.level in
    let left = c.args.count - c.props.counter in
    sym c.props.invariant ∙ many_done read left c.props.props c.props.rest.now (omega arith)

pub controls_said-controls-preserved : goal.controls_said-controls-preserved
controls_said-controls-preserved t c =
    let read = control_said (value_said c.args.left) c.args.level in
    let left = c.args.count - c.controls.counter in
    let next = c.args.count - (c.controls.counter + 1) in
    subst (λ (xs : List Control). many read next xs c.in-Ok.after.now ≡ many read c.args.count [] c.args.text.now)
    (sym c.in_ok-push-in-Ok.ensures.ok)
    (sym (many_more read left next c.controls.controls c.controls.rest.now c.in-Ok.control c.in-Ok.after.now (omega arith) c.in-Ok.ensures)
    ∙ c.controls.invariant)

pub controls_said-returns-in-Err : goal.controls_said-returns-in-Err
controls_said-returns-in-Err t c =
    let read = control_said (value_said c.args.left) c.args.level in
    let left = c.args.count - c.controls.counter in
    let next = c.args.count - (c.controls.counter + 1) in
    elim c.in-Err.ensures [
      | inl short ↦ inl short
      | inr none ↦ inr (sym c.controls.invariant ∙ many_stops read left next c.controls.controls c.controls.rest.now (omega arith) none)
    ]

pub controls_said-returns : goal.controls_said-returns
controls_said-returns t c =
    let read = control_said (value_said c.args.left) c.args.level in
    let left = c.args.count - c.controls.counter in
    sym c.controls.invariant ∙ many_done read left c.controls.controls c.controls.rest.now (omega arith)

pub held_said-returns-in-Leaf : goal.held_said-returns-in-Leaf
unfolding held_said
held_said-returns-in-Leaf t c = ap (λ (h : Head). held_said (value_said c.args.left) c.args.level h c.args.text.now) c.in-Leaf.is

pub held_said-returns-in-Array : goal.held_said-returns-in-Array
held_said-returns-in-Array t c = rw c.in-Array.is (c.array_said.ensures c.args.left)

pub held_said-returns-in-Choice : goal.held_said-returns-in-Choice
held_said-returns-in-Choice t c = rw c.in-Choice.is (c.choice_said.ensures c.args.left)

pub value_said-returns-then-left-eq0 : goal.value_said-returns-then-left-eq0
unfolding value_said
value_said-returns-then-left-eq0 t c = inr (ap (λ (n : ℕ). value_said n c.args.level c.args.text.now) c.if-left-eq0.true)

pub value_said-returns : goal.value_said-returns
value_said-returns t c =
    rw (value_opened c.args.left c.args.level c.args.text.now (omega arith)) c.opened_said.ensures
