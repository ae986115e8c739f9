use Rattle.std.proofs.Common.{◌≡◌, ◌+◌, suc, arith, subst}
use Rattle.node_progress.specs.NodeStates.{IsNodeState}
use Rattle.state_tests.proofs.chain.through_all.Goals as goal

pub loop-epoch-preserved : goal.loop-epoch-preserved
loop-epoch-preserved c = let yes = c.if-not-through.false in let k = c.loop-epoch.epoch in let run_model = c.args.run_model.now in
    let new = c.through.new in let e = c.through.ensures in
    let one : suc k ≡ k + 1 = omega arith in (
      subst (λ j. IsNodeState run_model j j 0 new.source) one (e.source yes),
      subst (λ j. IsNodeState run_model j j 1 new.between) one (e.between yes),
      subst (λ j. IsNodeState run_model j j 2 new.sink) one (e.sink yes),
    )
