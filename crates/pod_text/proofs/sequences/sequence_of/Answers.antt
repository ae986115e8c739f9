-- The points of the sequence are read of it.
use Rattle.std.proofs.Common.{subst, List}
use Rattle.std.specs.List.{AllZip}
use Rattle.pod_codec.specs.declared.pod.Pod.TheViews.{out-Pod}
use Rattle.control_sequence.specs.declared.points.Point.{Point}
use Rattle.pod_text.specs.GainSequence.{IsControlOf}
use Rattle.pod_text.proofs.SequenceLemmas.{sequence_law, with_controls}
use Rattle.pod_text.proofs.sequences.sequence_of.Goals as goal

pub returns-clause-sequence : goal.returns-clause-sequence
returns-clause-sequence c =
    let made = subst (λ (ps : List Point). AllZip IsControlOf ps c.in_ok-controls.controls) c.as_slice.ensures c.in_ok-controls.ensures in
    with_controls c.args.points.now.items c.in_ok-controls.controls (out-Pod c.sequence_with.result) made c.sequence_with.ensures

pub returns-clause-law : goal.returns-clause-law
returns-clause-law c =
    let made = subst (λ (ps : List Point). AllZip IsControlOf ps c.in_ok-controls.controls) c.as_slice.ensures c.in_ok-controls.ensures in
    sequence_law c.args.points.now.items (out-Pod c.sequence_with.result)
    (with_controls c.args.points.now.items c.in_ok-controls.controls (out-Pod c.sequence_with.result) made c.sequence_with.ensures) c.requires
