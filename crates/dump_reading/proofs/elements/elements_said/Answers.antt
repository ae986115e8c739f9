-- One thing more is read, or none, or all are.
use Rattle.std.proofs.Common.{◌≡◌, ◌+◌, ◌-◌, inl, inr, List, [], sym, subst, ◌∙◌, arith}
use Rattle.pod_codec.specs.declared.pod.Pod.{Pod}
use Rattle.dump_reading.specs.working.Lines.{many}
use Rattle.dump_reading.specs.Values.{element_said}
use Rattle.dump_reading.proofs.ManyLemmas.{many_more, many_stops, many_done}
use Rattle.dump_reading.proofs.elements.elements_said.Goals as goal

pub values-preserved : goal.values-preserved
values-preserved c =
    let read = element_said c.args.child c.args.level in
    let left = c.args.count - c.values.counter in
    let next = c.args.count - (c.values.counter + 1) in
    subst (λ (xs : List Pod). many read next xs c.in-Ok.after.now ≡ many read c.args.count [] c.args.text.now)
    (sym c.in_ok-push-in-Ok.ensures.ok)
    (sym (many_more read left next c.values.values c.values.rest.now c.in-Ok.value c.in-Ok.after.now (omega arith) c.in-Ok.ensures)
    ∙ c.values.invariant)

pub returns-in-Err : goal.returns-in-Err
returns-in-Err c =
    let read = element_said c.args.child c.args.level in
    let left = c.args.count - c.values.counter in
    let next = c.args.count - (c.values.counter + 1) in
    elim c.in-Err.ensures [
      | inl short ↦ inl short
      | inr none ↦ inr (sym c.values.invariant ∙ many_stops read left next c.values.values c.values.rest.now (omega arith) none)
    ]

pub returns : goal.returns
returns c =
    let read = element_said c.args.child c.args.level in
    let left = c.args.count - c.values.counter in
    sym c.values.invariant ∙ many_done read left c.values.values c.values.rest.now (omega arith)
