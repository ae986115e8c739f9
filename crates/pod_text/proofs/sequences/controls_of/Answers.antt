-- One control more is made.
use Rattle.std.proofs.Common.{◌<◌, ◌+◌, ◌∷◌, ◌++◌, [], sym, subst, List, length, take, arith, get_or, pos}
use Rattle.std.specs.List.{AllZip}
use Rattle.std.proofs.lemmas.List.{take_more}
use Rattle.control_sequence.specs.declared.points.Point.{Point}
use Rattle.pod_text.specs.GainSequence.{IsControlOf}
use Rattle.pod_text.proofs.SequenceLemmas.{zip_push}
use Rattle.pod_text.proofs.sequences.controls_of.Goals as goal

pub loop-index-preserved : goal.loop-index-preserved
loop-index-preserved c =
    let i = c.loop-index.index in
    let none : Point = record { offset = 0; g = pos 0 } in
    let inside : i < length c.args.points.now = omega arith in
    let next = take_more c.args.points.now i none inside in
    subst (AllZip IsControlOf (take (i + 1) c.args.points.now)) (sym c.in_ok-push.ensures.ok)
    (subst (λ (ps : List Point). AllZip IsControlOf ps (c.loop-index.controls ++ c.in_ok-control.control ∷ [])) (sym next)
    (zip_push (take i c.args.points.now)
    c.loop-index.controls (get_or c.args.points.now i none) c.in_ok-control.control c.loop-index.invariant c.in_ok-control.ensures))
