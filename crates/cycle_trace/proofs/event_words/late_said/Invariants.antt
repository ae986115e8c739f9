use Rattle.std.proofs.Common.{◌≡◌, ◌+◌, [], length}
use Rattle.std.specs.Option.{option_map_or}
use Rattle.std.specs.List.{slice_split}
use Rattle.cycle_trace.specs.TraceReading.{is_space}
use Rattle.cycle_trace.specs.working.EventWords.{late_said}
use Rattle.cycle_trace.proofs.event_words.late_said.Given as goal

-- the words that are left, after what was said, make the set
abbrev pub invariant-loop-rest : goal.invariant-loop-rest
invariant-loop-rest l =
    late_said l.names (option_map_or (λ text. slice_split is_space text.now) l.rest []) l.late
    ≡ late_said l.fn.names (option_map_or (λ text. slice_split is_space text.now) l.fn.words []) 0

abbrev pub decreases-loop-rest : goal.decreases-loop-rest
decreases-loop-rest l = option_map_or (λ text. 1 + length text.now) l.rest 0
