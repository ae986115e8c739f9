-- What is read is spelled, and what is at fault is so by the definition.
use Rattle.std.proofs.Common.{◌≡◌, ℕ, suc, ◌+◌, ◌-◌, ◌*◌, ◌/◌, ◌⊎◌, sym, subst, arith}
use Rattle.pod_codec.specs.declared.pod.Pod.{Pod}
use Rattle.pod_codec.specs.declared.pod.Pod.TheViews.{out-Prop, out-Control}
use Rattle.pod_codec.specs.declared.fault.PodFault.TheVariants.{Memory}
use Rattle.pod_codec.specs.Places.{AreAfter}
use Rattle.pod_codec.specs.Spelling.{IsPropAt, IsControlAt, SpellsAt}
use Rattle.pod_codec.specs.FirstFault.{FaultsAt}
use Rattle.pod_codec.proofs.ReadingLemmas.{after_more, spelled, faulty}
use Rattle.pod_codec.proofs.reading.+read.Goals as goal

pub fields_at-returns-clause-found : goal.fields_at-returns-clause-found
fields_at-returns-clause-found t c =
    let end : c.loop-next.next ≡ c.args.end = omega (arith, c.loop-next.invariant.order, c.loop-next-test.false) in
    subst (λ (k : ℕ). AreAfter (λ a x m. SpellsAt c.args.left c.args.bytes.now a c.args.end x m) c.args.begin c.loop-next.fields k)
    end c.loop-next.invariant.so_far

pub props_at-returns-clause-found : goal.props_at-returns-clause-found
props_at-returns-clause-found t c =
    let end : c.loop-next.next ≡ c.args.end = omega (arith, c.loop-next.invariant.order, c.loop-next-test.false) in
    subst (λ (k : ℕ). AreAfter (IsPropAt (λ a x m. SpellsAt c.args.left c.args.bytes.now a c.args.end x m) c.args.bytes.now)
    c.args.begin c.loop-next.props k) end c.loop-next.invariant.so_far

pub controls_at-returns-clause-found : goal.controls_at-returns-clause-found
controls_at-returns-clause-found t c =
    let end : c.loop-next.next ≡ c.args.end = omega (arith, c.loop-next.invariant.order, c.loop-next-test.false) in
    subst (λ (k : ℕ). AreAfter (IsControlAt (λ a x m. SpellsAt c.args.left c.args.bytes.now a c.args.end x m) c.args.bytes.now)
    c.args.begin c.loop-next.controls k) end c.loop-next.invariant.so_far

pub fields_at-loop-next-preserved : goal.fields_at-loop-next-preserved
fields_at-loop-next-preserved t c =
    let held = λ (a : ℕ) (x : Pod) (m : ℕ). SpellsAt c.args.left c.args.bytes.now a c.args.end x m in
    let more = after_more held c.args.begin c.loop-next.fields c.loop-next.next c.in_ok-pod.after c.in_ok-pod.pod
    c.loop-next.invariant.so_far c.in_ok-pod.ensures.found in
    record {
      so_far = subst (λ xs. AreAfter held c.args.begin xs c.in_ok-pod.after) (sym c.in_ok-push.ensures.ok) more;
      order = omega (arith, c.in_ok-pod.ensures.next);
    }

pub props_at-loop-next-preserved : goal.props_at-loop-next-preserved
props_at-loop-next-preserved t c =
    let held = λ (a : ℕ) (x : Pod) (m : ℕ). SpellsAt c.args.left c.args.bytes.now a c.args.end x m in
    let value : held (c.loop-next.next + 8) (out-Prop c.prop_at.result).value c.in_ok-value.after =
    subst (λ (x : Pod). held (c.loop-next.next + 8) x c.in_ok-value.after) (sym c.prop_at.ensures.value) c.in_ok-value.ensures.found in
    let more = after_more (IsPropAt held c.args.bytes.now)
    c.args.begin c.loop-next.props c.loop-next.next c.in_ok-value.after c.prop_at.result c.loop-next.invariant.so_far
    (c.prop_at.ensures.key, c.prop_at.ensures.flags, value) in
    record {
      so_far = subst (λ xs. AreAfter (IsPropAt held c.args.bytes.now) c.args.begin xs c.in_ok-value.after)
          (sym c.in_ok-push.ensures.ok) more;
      order = omega (arith, c.in_ok-value.ensures.next);
    }

pub controls_at-loop-next-preserved : goal.controls_at-loop-next-preserved
controls_at-loop-next-preserved t c =
    let held = λ (a : ℕ) (x : Pod) (m : ℕ). SpellsAt c.args.left c.args.bytes.now a c.args.end x m in
    let value : held (c.loop-next.next + 8) (out-Control c.control_at.result).value c.in_ok-value.after =
    subst (λ (x : Pod). held (c.loop-next.next + 8) x c.in_ok-value.after) (sym c.control_at.ensures.value)
    c.in_ok-value.ensures.found in
    let more = after_more (IsControlAt held c.args.bytes.now) c.args.begin c.loop-next.controls c.loop-next.next c.in_ok-value.after
    c.control_at.result c.loop-next.invariant.so_far (c.control_at.ensures.offset, c.control_at.ensures.kind, value) in
    record {
      so_far = subst (λ xs. AreAfter (IsControlAt held c.args.bytes.now) c.args.begin xs c.in_ok-value.after)
          (sym c.in_ok-push.ensures.ok) more;
      order = omega (arith, c.in_ok-value.ensures.next);
    }

pub pod_at-returns-in-Ok-clause-found : goal.pod_at-returns-in-Ok-clause-found
pod_at-returns-in-Ok-clause-found t c =
    let h = c.in_ok-size.ensures.found in
    let next = c.args.at + 8 + (c.in_ok-size.size + 7) / 8 * 8 in
    let one : suc (c.args.left - 1) ≡ c.args.left = omega arith in
    subst (λ (k : ℕ). SpellsAt k c.args.bytes.now c.args.at c.args.end c.in-Ok.pod next) one
    (spelled (c.args.left - 1) c.args.at c.args.end next c.args.bytes.now c.in-Ok.pod c.in_ok-size.size c.in_ok-size.kind h.0 h.1
    (omega (arith, h.2)) (omega arith) c.in-Ok.ensures.found)

pub pod_at-returns-in-Err-clause-fault : goal.pod_at-returns-in-Err-clause-fault
pod_at-returns-in-Err-clause-fault t c =
    let h = c.in_ok-size.ensures.found in
    let one : suc (c.args.left - 1) ≡ c.args.left = omega arith in
    subst (λ (k : ℕ). (c.in-Err.fault ≡ Memory) ⊎ FaultsAt k c.args.bytes.now c.args.at c.args.end c.in-Err.fault) one
    (faulty (c.args.left - 1) c.args.at c.args.end c.args.bytes.now c.in_ok-size.size c.in_ok-size.kind c.in-Err.fault h.0 h.1
    c.in_ok-size.ensures.fault c.in-Err.ensures.fault)
