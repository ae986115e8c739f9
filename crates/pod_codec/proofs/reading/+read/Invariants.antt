-- What is read so far is spelled, one after the other.
use Rattle.std.proofs.Common.{◌≤◌, ◌-◌, ◌+◌, ◌*◌}
use Rattle.pod_codec.specs.Places.{AreAfter}
use Rattle.pod_codec.specs.Spelling.{IsPropAt, IsControlAt, SpellsAt}
use Rattle.pod_codec.proofs.reading.+read.Given as goal

abbrev pub invariant-fields_at-loop-next : goal.invariant-fields_at-loop-next
invariant-fields_at-loop-next l = record {
  so_far : AreAfter (λ a x m. SpellsAt l.left l.bytes a l.end x m) l.begin l.fields l.next;
  order : l.next ≤ l.end;
}

abbrev pub invariant-props_at-loop-next : goal.invariant-props_at-loop-next
invariant-props_at-loop-next l = record {
  so_far : AreAfter (IsPropAt (λ a x m. SpellsAt l.left l.bytes a l.end x m) l.bytes) l.begin l.props l.next;
  order : l.next ≤ l.end;
}

abbrev pub invariant-controls_at-loop-next : goal.invariant-controls_at-loop-next
invariant-controls_at-loop-next l = record {
  so_far : AreAfter (IsControlAt (λ a x m. SpellsAt l.left l.bytes a l.end x m) l.bytes) l.begin l.controls l.next;
  order : l.next ≤ l.end;
}

abbrev pub decreases-pod_at : goal.decreases-pod_at
decreases-pod_at l = 3 * l.left

abbrev pub decreases-body_at : goal.decreases-body_at
decreases-body_at l = 3 * l.left + 2

abbrev pub decreases-fields_at : goal.decreases-fields_at
decreases-fields_at l = 3 * l.left + 1

abbrev pub decreases-props_at : goal.decreases-props_at
decreases-props_at l = 3 * l.left + 1

abbrev pub decreases-controls_at : goal.decreases-controls_at
decreases-controls_at l = 3 * l.left + 1

abbrev pub decreases-fields_at-loop-next : goal.decreases-fields_at-loop-next
decreases-fields_at-loop-next l = l.end - l.next

abbrev pub decreases-props_at-loop-next : goal.decreases-props_at-loop-next
decreases-props_at-loop-next l = l.end - l.next

abbrev pub decreases-controls_at-loop-next : goal.decreases-controls_at-loop-next
decreases-controls_at-loop-next l = l.end - l.next
