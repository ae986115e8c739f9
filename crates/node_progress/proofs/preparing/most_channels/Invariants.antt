use Rattle.node_progress.proofs.PrepareLemmas.{IsMostBefore}
use Rattle.node_progress.proofs.preparing.most_channels.Given as goal

abbrev pub invariant-loop-epoch : goal.invariant-loop-epoch
invariant-loop-epoch l = IsMostBefore l.plan l.epoch-index l.node l.most
