-- Lemmas on streams: where a node's stream begins, by the lines and by the epochs.
pub mod GivesUpLemmas
pub mod ScriptStreamsLemmas
pub mod PlannedStreamsLemmas
