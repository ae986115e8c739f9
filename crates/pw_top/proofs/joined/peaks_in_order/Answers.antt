-- One peak more, or none.
use Rattle.std.proofs.Common.{◌∙◌, ◌++◌, ◌∷◌, [], List, sym, ap}
use Rattle.wav_files.specs.declared.outcome.Peak.{Peak}
use Rattle.pw_top.specs.Joined.{peak_at}
use Rattle.pw_top.proofs.JoinedLemmas.{one_given, none_given}
use Rattle.pw_top.proofs.joined.peaks_in_order.Goals as goal
use Rattle.pw_top.proofs.joined.peaks_in_order.Goals.{in-Some+in_ok-push, in_default}

pub loop-node-preserved : goal.loop-node-preserved
loop-node-preserved c = let h = peak_at c.args.peaks.now in let n = c.loop-node.node in elim c.match-peak_at.branch [
  | in-Some+in_ok-push w ↦ w.ordered-is ∙ (w.in_ok-push.ensures.ok ∙ (ap (λ (ps : List Peak). ps ++ w.in-Some.peak.now ∷ []) c.loop-node.invariant
      ∙ sym (one_given h n w.in-Some.peak.now (sym w.in-Some.ensures))))
  | in_default w ↦ w.ordered-is ∙ (c.loop-node.invariant ∙ sym (none_given h n (sym w.in_default.ensures)))
]
