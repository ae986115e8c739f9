-- What a sink has kept is taken out, or there is none; of later nodes all is left.
use Rattle.std.proofs.Common.{◌≡◌, ℕ, ◌∙◌, ◌++◌, ◌∷◌, [], List, sym, ap, arith}
use Rattle.wav_files.specs.declared.outcome.Kept.{Kept}
use Rattle.pw_top.specs.Joined.{kept_at}
use Rattle.pw_top.proofs.JoinedLemmas.{one_given, none_given}
use Rattle.pw_top.proofs.joined.kept_in_order.Goals as goal
use Rattle.pw_top.proofs.joined.kept_in_order.Goals.{in-Some+in_ok-push, in_default}

pub loop-node-preserved : goal.loop-node-preserved
loop-node-preserved c = let h = kept_at c.args.sinks in let n : ℕ = c.loop-node.node in let before = c.loop-node.invariant in
    let now : kept_at c.args.sinks n ≡ c.take_kept.result = sym (c.take_kept.ensures.is ∙ before.left n (omega arith)) in record {
      ordered = elim c.match-take_kept.branch [
        | in-Some+in_ok-push w ↦ w.ordered-is ∙ (w.in_ok-push.ensures.ok ∙ (ap (λ (ks : List Kept). ks ++ w.in-Some.kept ∷ []) before.ordered
            ∙ sym (one_given h n w.in-Some.kept (now ∙ w.in-Some.is))))
        | in_default w ↦ w.ordered-is ∙ (before.ordered ∙ sym (none_given h n (now ∙ w.in_default.is)))
      ];
      left = λ m later. c.take_kept.ensures.others m (λ same. omega (arith, later, same)) ∙ before.left m (omega (arith, later));
    }
