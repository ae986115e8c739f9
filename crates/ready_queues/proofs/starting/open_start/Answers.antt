use Rattle.ready_queues.proofs.StartLemmas.{opens}
use Rattle.ready_queues.proofs.starting.open_start.Goals as goal

pub of_words-requires : goal.of_words-requires
of_words-requires c = opens
