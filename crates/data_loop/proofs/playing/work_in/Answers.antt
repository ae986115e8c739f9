use Rattle.std.proofs.Common.{◌≡◌, ◌∙◌, ℤ, List, length, take, sym, subst}
use Rattle.std.proofs.lemmas.List.{length-take-le}
use Rattle.node_progress.specs.Standing.{Gives}
use Rattle.data_loop.specs.declared.member.Member.{Member}
use Rattle.data_loop.proofs.PlayerLemmas.{front_is}
use Rattle.data_loop.proofs.playing.work_in.Goals as goal

pub returns-clause-left : goal.returns-clause-left
returns-clause-left c = let m : Member = c.args.member.now in let at = c.args.turn_context.now in let old : List ℤ = c.args.left.now in
    let front : List ℤ = c.work.new.left in
    let long : length front ≡ m.left_width = c.work.auto.left ∙ length-take-le m.left_width old c.requires.outputs.0 in
    subst (λ (x : List ℤ). Gives at.run_model.now at.cycle m.node 0 (take m.left_width old) x)
    (sym (front_is m.left_width front old long)) c.work.ensures.left

pub returns-clause-right : goal.returns-clause-right
returns-clause-right c = let m : Member = c.args.member.now in let at = c.args.turn_context.now in let old : List ℤ = c.args.right.now in
    let front : List ℤ = c.work.new.right in
    let long : length front ≡ m.right_width = c.work.auto.right ∙ length-take-le m.right_width old c.requires.outputs.1 in
    subst (λ (x : List ℤ). Gives at.run_model.now at.cycle m.node 1 (take m.right_width old) x)
    (sym (front_is m.right_width front old long)) c.work.ensures.right
