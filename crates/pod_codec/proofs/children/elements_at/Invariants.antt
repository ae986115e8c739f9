-- The elements so far, and whole ones are left.
use Rattle.std.proofs.Common.{◌≡◌, ◌≤◌, ◌-◌, ◌%◌}
use Rattle.pod_codec.specs.PodType.{child_size}
use Rattle.pod_codec.specs.Places.{AreAfter, IsElementAt}
use Rattle.pod_codec.proofs.children.elements_at.Given as goal

abbrev pub invariant-loop-next : goal.invariant-loop-next
invariant-loop-next l = record {
  so_far : AreAfter (IsElementAt l.bytes l.child) l.at l.values l.next;
  order : l.next ≤ l.end;
  whole : (l.end - l.next) % child_size l.child ≡ 0;
}

abbrev pub decreases-loop-next : goal.decreases-loop-next
decreases-loop-next l = l.end - l.next
