-- One element more, and whole ones are left.
use Rattle.std.proofs.Common.{◌≡◌, ℕ, ◌+◌, ◌-◌, ◌%◌, sym, subst, arith}
use Rattle.pod_codec.specs.PodType.{child_size}
use Rattle.pod_codec.specs.Places.{AreAfter, IsElementAt}
use Rattle.pod_codec.proofs.ReadingLemmas.{after_more, four_or_eight, whole_less}
use Rattle.pod_codec.proofs.children.elements_at.Goals as goal

pub loop-next-preserved : goal.loop-next-preserved
loop-next-preserved c =
    let kept = c.loop-next.invariant in
    let size : c.size_of_child-size.result ≡ child_size c.args.child = c.size_of_child-size.ensures.size in
    let less = whole_less (child_size c.args.child) c.args.end c.loop-next.next
    (four_or_eight c.args.child c.requires.allowed) kept.whole c.loop-next-test.true in
    let next : ℕ = c.loop-next.next + c.size_of_child-size.result in
    let more = after_more (IsElementAt c.args.bytes.now c.args.child)
    c.args.at c.loop-next.values c.loop-next.next next c.scalar_at.result kept.so_far (omega arith, c.scalar_at.ensures) in
    record {
      so_far = subst (λ vs. AreAfter (IsElementAt c.args.bytes.now c.args.child) c.args.at vs next) (sym c.in_ok-push.ensures.ok) more;
      order = omega (arith, less.0);
      whole = subst (λ (s : ℕ). (c.args.end - (c.loop-next.next + s)) % child_size c.args.child ≡ 0) (sym size) less.1;
    }
