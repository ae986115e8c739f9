use Rattle.std.proofs.Common.{suc, sym, subst}
use Rattle.node_progress.specs.NodeStates.{IsNodeState}
use Rattle.node_progress.specs.Restarts.{IsEndOf}
use Rattle.state_tests.proofs.ChainLemmas.{ends, next_is}
use Rattle.state_tests.proofs.chain.step.Goals as goal

pub enter_next-requires-clause-ended : goal.enter_next-requires-clause-ended
enter_next-requires-clause-ended c = let run_model = c.args.run_model.now in let k = c.args.epoch in let n = c.args.node in let r = c.requires in
    subst (λ m. IsEndOf run_model k m n) (sym (next_is run_model c.args.plan.now k c.args.at.now r.cycle n r.place))
    (ends run_model c.args.plan.now k c.args.at.now r.cycle n r.place)

pub enter_next-requires-clause-state : goal.enter_next-requires-clause-state
enter_next-requires-clause-state c = let run_model = c.args.run_model.now in let k = c.args.epoch in let n = c.args.node in let r = c.requires in
    subst (λ m. IsNodeState run_model k m n c.pass.new.state) (sym (next_is run_model c.args.plan.now k c.args.at.now r.cycle n r.place))
    c.in_ok-worked.ensures.state

pub returns-clause-state : goal.returns-clause-state
returns-clause-state c = let run_model = c.args.run_model.now in let k = c.args.epoch in let n = c.args.node in let r = c.requires in
    subst (λ m. IsNodeState run_model (suc k) m n c.enter_next.new.state) (next_is run_model c.args.plan.now k c.args.at.now r.cycle n r.place)
    c.enter_next.ensures.state
