-- What is left, after what was read so far, is all; and each call has fewer levels left.
use Rattle.std.proofs.Common.{◌≡◌, ◌+◌, ◌-◌, ◌*◌, []}
use Rattle.dump_reading.specs.working.Keyed.{prop_said, control_said}
use Rattle.dump_reading.specs.working.Lines.{many}
use Rattle.dump_reading.specs.Values.{value_said}
use Rattle.dump_reading.proofs.values.+read_dump.Given as goal

abbrev pub invariant-values_said-values : goal.invariant-values_said-values
invariant-values_said-values l = many (value_said l.left l.level) (l.count - l.counter) l.values l.rest
    ≡ many (value_said l.left l.level) l.count [] l.fn.text

abbrev pub invariant-props_said-props : goal.invariant-props_said-props
invariant-props_said-props l = many (prop_said (value_said l.left) l.level) (l.count - l.counter) l.props l.rest
    ≡ many (prop_said (value_said l.left) l.level) l.count [] l.fn.text

abbrev pub invariant-controls_said-controls : goal.invariant-controls_said-controls
invariant-controls_said-controls l = many (control_said (value_said l.left) l.level) (l.count - l.counter) l.controls l.rest
    ≡ many (control_said (value_said l.left) l.level) l.count [] l.fn.text

abbrev pub decreases-value_said : goal.decreases-value_said
decreases-value_said l = 6 * l.left

abbrev pub decreases-prop_said : goal.decreases-prop_said
decreases-prop_said l = 6 * l.left + 1

abbrev pub decreases-control_said : goal.decreases-control_said
decreases-control_said l = 6 * l.left + 1

abbrev pub decreases-values_said : goal.decreases-values_said
decreases-values_said l = 6 * l.left + 2

abbrev pub decreases-props_said : goal.decreases-props_said
decreases-props_said l = 6 * l.left + 2

abbrev pub decreases-controls_said : goal.decreases-controls_said
decreases-controls_said l = 6 * l.left + 2

abbrev pub decreases-struct_said : goal.decreases-struct_said
decreases-struct_said l = 6 * l.left + 3

abbrev pub decreases-object_said : goal.decreases-object_said
decreases-object_said l = 6 * l.left + 3

abbrev pub decreases-sequence_said : goal.decreases-sequence_said
decreases-sequence_said l = 6 * l.left + 3

abbrev pub decreases-held_said : goal.decreases-held_said
decreases-held_said l = 6 * l.left + 4

abbrev pub decreases-opened_said : goal.decreases-opened_said
decreases-opened_said l = 6 * l.left + 5
