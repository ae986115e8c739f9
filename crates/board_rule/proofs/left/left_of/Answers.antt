use Rattle.std.proofs.Common.{arith, ◌≡◌, ℕ, ◌<◌, List, length, get_or}
use Rattle.board_rule.specs.activation.Left.{untold}
use Rattle.board_rule.proofs.activation.UntoldLemmas.{left_more}
use Rattle.board_rule.proofs.left.left_of.Goals as goal

pub loop-m-preserved : goal.loop-m-preserved
loop-m-preserved c = let xs : List ℕ = c.args.dependencies.now in let i : ℕ = c.loop-m.m-index in let f = untold c.args.told.now in
    let near : i < length xs = omega arith in
    let inv = c.loop-m.invariant in let old = inv.0 in let low = inv.1 in
    let is : c.untold_at-left.result ≡ f (get_or xs i 0) = c.untold_at-left.ensures.is in let most = c.untold_at-left.ensures.most in
    let more = left_more f xs i near in (omega arith, omega arith)
