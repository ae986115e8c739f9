use Rattle.node_progress.specs.NodeStates.{IsNodeState}
use Rattle.state_tests.proofs.chain.through_all.Given as goal

abbrev pub invariant-loop-epoch : goal.invariant-loop-epoch
invariant-loop-epoch l = IsNodeState l.run_model l.epoch l.epoch 0 l.source × IsNodeState l.run_model l.epoch l.epoch 1 l.between
    × IsNodeState l.run_model l.epoch l.epoch 2 l.sink
