-- The points that are passed have their controls.
use Rattle.std.proofs.Common.{take}
use Rattle.std.specs.List.{AllZip}
use Rattle.pod_text.specs.GainSequence.{IsControlOf}
use Rattle.pod_text.proofs.sequences.controls_of.Given as goal

abbrev pub invariant-loop-index : goal.invariant-loop-index
invariant-loop-index l = AllZip IsControlOf (take l.index l.points) l.controls
