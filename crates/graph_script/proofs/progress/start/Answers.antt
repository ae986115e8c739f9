use Rattle.std.proofs.Common.{refl}
use Rattle.graph_script.proofs.ConsistentLemmas.{start-consistent}
use Rattle.graph_script.proofs.progress.start.Goals as goal

pub returns-clause-consistent : goal.returns-clause-consistent
returns-clause-consistent c = start-consistent _ (cc) refl refl
