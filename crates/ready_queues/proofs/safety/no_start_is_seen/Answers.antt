use Rattle.ready_queues.proofs.StartLemmas.{honest}
use Rattle.ready_queues.proofs.safety.no_start_is_seen.Goals as goal

pub returns : goal.returns
returns c = honest
